-- Leaf bits by node, and the cuts that they name: g N is the leaf bit of the depth-D node N, and each but the first is that of one node's right child.
use mathlib.Core.Path.{◌≡◌, refl, sym, ap, ◌∙◌, subst}
use mathlib.Core.Logic.{◌≢◌, ◌⊎◌, inl, inr}
use Prim.Native.Nat.{ℕ, zero, suc, ◌+◌, ◌-◌, ◌*◌, ◌/◌, ◌%◌, ◌^◌, ◌≤◌, ◌<◌}
use native.Mathlib.Nat.{add-zero, zero-add, pow-suc}
use native.Mathlib.Decide.{ℕ_discrete}
use native.Mathlib.Omega.{arith}
use lib.Pow.{pow_pos}
use Rattle.nodes.specs.Depth.{depth_of}
use Rattle.nodes.proofs.Depths.{At, at_parent, at_ancestor, ancestor, depth_is}
use Rattle.sums.proofs.Counts.{first_left}
use Rattle.cuts.specs.Cuts.{Leaf}
use Rattle.cuts.proofs.Covering.{Tree, cover}

-- the leftmost node of depth D below n, which stands j levels above depth D
abbrev pub first : ℕ → ℕ → ℕ
first j n = n * 2 ^ j

-- .. where n stands j levels above depth D
abbrev pub cut_at : (ℕ → ℕ) → ℕ → ℕ → Type 0
cut_at g zero n = ⊥
cut_at g (suc j) n = g (first j (2 * n + 1)) ≡ 1

-- n, in a panel of depth D, is cut: the bit of its right child is set
unfoldable pub CutBit : ℕ → (ℕ → ℕ) → ℕ → Type 0
CutBit D g n = cut_at g (D - depth_of n) n

-- one level up, the first node below n is twice as far right
pub first_suc : (j n : ℕ) → first (suc j) n ≡ 2 * first j n
first_suc j n = rw (pow-suc) (omega (arith))

pub ancestor_first : (j n : ℕ) → ancestor j (first j n) ≡ n
ancestor_first zero n = omega arith
ancestor_first (suc j) n = omega (arith, ap (ancestor j) (first_left j n), ancestor_first j (2 * n))

-- every bit but the first is that of one node's right child
pub bit_names : (D N : ℕ) → At D N → N ≢ 2 ^ D → (j : ℕ) × (n : ℕ) × (d : ℕ) × (d + suc j ≡ D) × At d n × (N ≡ first j (2 * n + 1))
bit_names zero N a z = absurd (omega arith)
bit_names (suc D) N a z = go (ℕ_discrete (N % 2) 0) (bit_names D (N / 2) (at_parent a))
  where
    go : Dec (N % 2 ≡ 0) → (N / 2 ≢ 2 ^ D → (j : ℕ) × (n : ℕ) × (d : ℕ) × (d + suc j ≡ D) × At d n × (N / 2 ≡ first j (2 * n + 1)))
        → (j : ℕ) × (n : ℕ) × (d : ℕ) × (d + suc j ≡ suc D) × At d n × (N ≡ first j (2 * n + 1))
    go (yes e) ih = let (j, n, d, p, b, q) = ih (omega arith) in (suc j, n, d, omega arith, b, omega (arith, first_suc j (2 * n + 1)))
    go (no e) ih = (0, N / 2, D, omega arith, at_parent a, omega arith)

pub dec_cut_at : (g : ℕ → ℕ) (j n : ℕ) → Dec (cut_at g j n)
dec_cut_at g zero n = no λ z. z
dec_cut_at g (suc j) n = ℕ_discrete (g (first j (2 * n + 1))) 1

module _ (D : ℕ) (g : ℕ → ℕ) where
  pub dec_cut_bit : (n : ℕ) → Dec (CutBit D g n)
  unfolding CutBit
  dec_cut_bit n = dec_cut_at g (D - depth_of n) n

  pub cut_in : (j : ℕ) {d n : ℕ} → At d n → d + j ≡ D → cut_at g j n → CutBit D g n
  unfolding CutBit
  cut_in j {d} {n} a e c = subst (λ x. cut_at g x n) (let h : j ≡ D - depth_of n = omega (arith, depth_is a) in h) c

  pub cut_out : (j : ℕ) {d n : ℕ} → At d n → d + j ≡ D → CutBit D g n → cut_at g j n
  unfolding CutBit
  cut_out j {d} {n} a e c = subst (λ x. cut_at g x n) (let h : D - depth_of n ≡ j = omega (arith, depth_is a) in h) c

  -- only nodes above depth D are cut
  pub cut_bit_depth : (n : ℕ) → CutBit D g n → depth_of n < D
  unfolding CutBit
  cut_bit_depth n c = go (D - depth_of n) refl c
    where
      go : (j : ℕ) → D - depth_of n ≡ j → cut_at g j n → depth_of n < D
      go zero e c = absurd c
      go (suc j) e c = omega arith

  module _ (start : g (2 ^ D) ≡ 1) (root : CutBit D g 1) (up : (n : ℕ) → 2 ≤ n → CutBit D g n → CutBit D g (n / 2)) where
    pub bits_tree : Tree D (CutBit D g)
    bits_tree = record { dec = dec_cut_bit; root = root; up = up; bottom = λ n a c. cut_out 0 a (add-zero D) c }

    -- the first bit below a node whose parent is cut is set
    pub first_set : (d j n : ℕ) → At d n → d + j ≡ D → (2 ≤ n → CutBit D g (n / 2)) → g (first j n) ≡ 1
    first_set zero j n a e p = subst (λ x. g x ≡ 1) (ap (λ x. 2 ^ x) (sym e ∙ zero-add j) ∙ omega (arith, ap (λ x. x * 2 ^ j) (let h : n ≡ 1 = omega arith in h))) start
    first_set (suc d) j n a e p = go (first_set d (suc j) (n / 2) (at_parent a) (omega arith) (λ h. up (n / 2) h c)) (ℕ_discrete (n % 2) 0)
      where
        c : CutBit D g (n / 2)
        c = p (omega (arith, pow_pos d))

        go : g (first (suc j) (n / 2)) ≡ 1 → Dec (n % 2 ≡ 0) → g (first j n) ≡ 1
        go ih (yes z) = subst (λ x. g x ≡ 1) (sym (first_left j (n / 2)) ∙ ap (first j) (omega arith)) ih
        go ih (no z) = subst (λ x. g (first j x) ≡ 1) (let h : 2 * (n / 2) + 1 ≡ n = omega arith in h) (cut_out (suc j) (at_parent a) (omega arith) c)

    -- a set bit is the first below each of its ancestors that is not cut
    set_first : (N : ℕ) → At D N → g N ≡ 1 → (i : ℕ) → i ≤ D → (N ≡ first i (ancestor i N)) ⊎ CutBit D g (ancestor i N)
    set_first N a s zero h = inl (omega arith)
    set_first N a s (suc i) h = go (set_first N a s i (omega arith)) (ℕ_discrete (ancestor i N % 2) 0)
      where
        b : At (suc (D - suc i)) (ancestor i N)
        b = at_ancestor i (suc (D - suc i)) (subst (λ x. At x N) (let e : D ≡ suc (D - suc i) + i = omega arith in e) a)

        go : (N ≡ first i (ancestor i N)) ⊎ CutBit D g (ancestor i N) → Dec (ancestor i N % 2 ≡ 0) → (N ≡ first (suc i) (ancestor i N / 2)) ⊎ CutBit D g (ancestor i N / 2)
        go (inr c) z = inr (up (ancestor i N) (omega (arith, b, pow_pos (D - suc i))) c)
        go (inl e) (yes z) = inl (e ∙ ap (first i) (omega arith) ∙ first_left i (ancestor i N / 2))
        go (inl e) (no z) = inr (cut_in (suc i) (at_parent b) (omega arith) (subst (λ x. g x ≡ 1) (e ∙ ap (first i) (omega arith)) s))

    -- the bit of a leaf is set
    pub leaf_set : (d j n : ℕ) → At d n → d + j ≡ D → Leaf (CutBit D g) n → g (first j n) ≡ 1
    leaf_set d j n a e l = first_set d j n a e λ h. l.parent

    -- every set bit is that of exactly one leaf
    pub set_leaf : (N : ℕ) → At D N → g N ≡ 1
        → (i : ℕ) × (i < D) × Leaf (CutBit D g) (ancestor i N) × (N ≡ first i (ancestor i N))
        × ((d j n : ℕ) → At d n → d + j ≡ D → Leaf (CutBit D g) n → N ≡ first j n → (j ≡ i) × (n ≡ ancestor i N))
    set_leaf N a s =
        let (i, h, l, u) = cover D (CutBit D g) bits_tree N a in
        (i, h, l, own i l (set_first N a s i (omega arith)), λ d j n b e m q. one i j n (u j (omega arith)) m q)
      where
        own : (i : ℕ) → Leaf (CutBit D g) (ancestor i N) → (N ≡ first i (ancestor i N)) ⊎ CutBit D g (ancestor i N) → N ≡ first i (ancestor i N)
        own i l (inl e) = e
        own i l (inr c) = absurd (l.uncut c)

        one : (i : ℕ) (j n : ℕ) → (Leaf (CutBit D g) (ancestor j N) → j ≡ i) → Leaf (CutBit D g) n → N ≡ first j n → (j ≡ i) × (n ≡ ancestor i N)
        one i j n u m q =
            let e : ancestor j N ≡ n = ap (ancestor j) q ∙ ancestor_first j n in
            let z : j ≡ i = u (subst (Leaf (CutBit D g)) (sym e) m) in
            (z, sym e ∙ ap (λ x. ancestor x N) z)
