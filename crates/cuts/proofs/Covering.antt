-- Of a node of depth D and its ancestors the topmost that is not cut is a leaf, and no other is: a cut below it would cut it too.
use mathlib.Core.Path.{◌≡◌, refl, sym, ap, ◌∙◌, subst, subst⁻¹}
use mathlib.Core.Logic.{◌⊎◌, inl, inr}
use Prim.Native.Nat.{ℕ, zero, suc, ◌+◌, ◌-◌, ◌/◌, ◌^◌, ◌≤◌, ◌<◌}
use native.Mathlib.Nat.{div-div-eq-div-mul, pow-suc}
use native.Mathlib.Decide.{dec_lt, le_ind}
use native.Mathlib.Omega.{arith}
use lib.Arith.{bin_ind}
use lib.Pow.{pow_pos}
use Rattle.nodes.proofs.Depths.{At, at_ancestor, ancestor}
use Rattle.cuts.specs.Cuts.{GoodCuts, Leaf, LeafAbove}

-- the ancestor j levels up, as a number
pub ancestor_is : (j n : ℕ) → ancestor j n ≡ n / 2 ^ j
ancestor_is zero n = omega arith
ancestor_is (suc j) n = ap (λ x. x / 2) (ancestor_is j n) ∙ div-div-eq-div-mul n (2 ^ j) 2 ∙ ap (λ x. n / x) (sym (pow-suc 2 j))

-- ---- at most one leaf

module _ {P : ℕ → Type 0} (up : (n : ℕ) → 2 ≤ n → P n → P (n / 2)) where
  -- the ancestors of a cut node are cut
  pub up_all : (n i j : ℕ) → i ≤ j → 1 ≤ ancestor j n → P (ancestor i n) → P (ancestor j n)
  up_all n i j h l p = le_ind (λ m. 1 ≤ ancestor m n → P (ancestor m n)) (λ z. p) (λ m k ih z. up (ancestor m n) (omega arith) (ih (omega arith))) j h l

  lower_leaf : (n i j : ℕ) → Leaf P (ancestor i n) → Leaf P (ancestor j n) → i < j → ⊥
  lower_leaf n i j l m h = m.uncut (up_all n (suc i) j h (omega (arith, m.low)) l.parent)

  -- of a node and its ancestors no two are leaves
  pub leaf_once : (n i j : ℕ) → Leaf P (ancestor i n) → Leaf P (ancestor j n) → i ≡ j
  leaf_once n i j l m = go (dec_lt i j) (dec_lt j i)
    where
      go : Dec (i < j) → Dec (j < i) → i ≡ j
      go (yes h) r = absurd (lower_leaf n i j l m h)
      go (no q) (yes h) = absurd (lower_leaf n j i m l h)
      go (no q) (no r) = omega arith

-- ---- of a node of depth D and its ancestors exactly one is a leaf

-- a decided set of cuts that holds the panel, is closed under parents and cuts no node of depth D
pub record Tree (D : ℕ) (P : ℕ → Type 0) : Type 0 where
  pub dec : (n : ℕ) → Dec (P n)
  pub root : P 1
  pub up : (n : ℕ) → 2 ≤ n → P n → P (n / 2)
  pub bottom : (n : ℕ) → At D n → P n → ⊥

module _ (D : ℕ) (P : ℕ → Type 0) (T : Tree D P) where
  -- a node that is not the panel, and its ancestors of depth i and up
  big : (i N : ℕ) → At D N → i < D → 2 ≤ ancestor i N
  big i N a h = omega (arith, at_ancestor i (suc (D - suc i)) {n = N} (subst (λ x. At x N) (let e : D ≡ suc (D - suc i) + i = omega arith in e) a), pow_pos (D - suc i))

  some_leaf : (N : ℕ) → At D N → (j : ℕ) → j ≤ D → P (ancestor j N) → (i : ℕ) × (i < D) × Leaf P (ancestor i N)
  some_leaf N a zero h p = absurd (T.bottom N a p)
  some_leaf N a (suc j) h p = go (some_leaf N a j (omega arith)) (T.dec (ancestor j N))
    where
      go : (P (ancestor j N) → (i : ℕ) × (i < D) × Leaf P (ancestor i N)) → Dec (P (ancestor j N)) → (i : ℕ) × (i < D) × Leaf P (ancestor i N)
      go ih (yes q) = ih q
      go ih (no q) = (j, h, record { low = big j N a h; uncut = q; parent = p })

  root_ancestor : (N : ℕ) → At D N → ancestor D N ≡ 1
  root_ancestor N a = omega (arith, at_ancestor D 0 {n = N} (subst (λ x. At x N) (let e : D ≡ 0 + D = omega arith in e) a))

  pub cover : (N : ℕ) → At D N → (i : ℕ) × (i < D) × Leaf P (ancestor i N) × ((k : ℕ) → k ≤ D → Leaf P (ancestor k N) → k ≡ i)
  cover N a =
      let (i, h, l) = some_leaf N a D (omega arith) (subst P (sym (root_ancestor N a)) T.root) in
      (i, h, l, λ k z m. leaf_once T.up N k i m l)

-- ---- why a node is no leaf: it is cut, or the leaf is above it

-- there is one leaf above k, and k is no leaf then
module _ {P : ℕ → Type 0} {k a : ℕ} (x : LeafAbove P k a) where
  pub above_once : {b : ℕ} → LeafAbove P k b → a ≡ b
  above_once y =
      let e = x.only y.levels (subst⁻¹ (Leaf P) y.ancestor y.leaf) in
      sym x.ancestor ∙ ap (λ j. k / 2 ^ j) (sym e) ∙ y.ancestor

  pub above_no_leaf : Leaf P k → ⊥
  above_no_leaf l =
      let e = x.only 0 (subst⁻¹ (Leaf P) (let q : k / 2 ^ 0 ≡ k = omega arith in q) l) in omega (arith, x.up)

module _ {P : ℕ → Type 0} (G : GoodCuts P) where
  -- a leaf some levels up from k is the leaf above it
  pub is_above : {k a : ℕ} (j : ℕ) → 0 < j → k / 2 ^ j ≡ a → Leaf P a → LeafAbove P k a
  is_above {k} j h e l = record {
    levels = j;
    up = h;
    ancestor = e;
    leaf = l;
    only = λ i m. leaf_once G.up k i j (by i m) (by j (subst⁻¹ (Leaf P) e l));
  }
    where
      by : (i : ℕ) → Leaf P (k / 2 ^ i) → Leaf P (ancestor i k)
      by i = subst⁻¹ (Leaf P) (ancestor_is i k)

  -- nor is it cut
  pub above_no_cut : {k a : ℕ} → LeafAbove P k a → P k → ⊥
  above_no_cut {k} {a} x c =
      let e : ancestor x.levels k ≡ a = ancestor_is x.levels k ∙ x.ancestor in
      x.leaf.uncut (subst P e (up_all G.up k 0 x.levels (omega arith) (omega (arith, x.leaf.low)) c))

  module _ (dec : (n : ℕ) → Dec (P n)) where
    half_ancestor : (j n : ℕ) → ancestor j (n / 2) ≡ ancestor (suc j) n
    half_ancestor zero n = refl
    half_ancestor (suc j) n = ap (λ x. x / 2) (half_ancestor j n)

    -- the way up from a node that is not cut comes to a leaf
    way_up : (k : ℕ) → 2 ≤ k → (P k → ⊥) → (j : ℕ) × Leaf P (ancestor j k)
    way_up = bin_ind (λ k. 2 ≤ k → (P k → ⊥) → (j : ℕ) × Leaf P (ancestor j k)) (λ h. absurd (omega arith)) step
      where
        step : (k : ℕ) → (2 ≤ k / 2 → (P (k / 2) → ⊥) → (j : ℕ) × Leaf P (ancestor j (k / 2))) → 2 ≤ k → (P k → ⊥) → (j : ℕ) × Leaf P (ancestor j k)
        step k ih h u = go (dec (k / 2)) (dec_lt 1 (k / 2))
          where
            go : Dec (P (k / 2)) → Dec (1 < k / 2) → (j : ℕ) × Leaf P (ancestor j k)
            go (yes p) b = (0, record { low = h; uncut = u; parent = p })
            go (no q) (yes b) = let (j, l) = ih (omega arith) q in (suc j, subst (Leaf P) (half_ancestor j k) l)
            go (no q) (no b) = absurd (q (subst P (let e : 1 ≡ k / 2 = omega arith in e) G.root))

    -- a node from 2 up is a leaf, or is cut, or lies below a leaf
    pub one_of_three : (k : ℕ) → 2 ≤ k → Leaf P k ⊎ (P k ⊎ ((a : ℕ) × LeafAbove P k a))
    one_of_three k h = go (dec k)
      where
        found : (j : ℕ) → Leaf P (ancestor j k) → Leaf P k ⊎ (P k ⊎ ((a : ℕ) × LeafAbove P k a))
        found zero l = inl l
        found (suc j) l = inr (inr (ancestor (suc j) k, is_above (suc j) (omega arith) (sym (ancestor_is (suc j) k)) l))

        go : Dec (P k) → Leaf P k ⊎ (P k ⊎ ((a : ℕ) × LeafAbove P k a))
        go (yes p) = inr (inl p)
        go (no q) = let (j, l) = way_up k h q in found j l
