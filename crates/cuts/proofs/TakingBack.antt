-- Merge takes back two cuts that face each other and whose four children are leaves: what is left is good. Split and merge, there and back.
use mathlib.Core.Path.{◌≡◌, refl, sym, ap, ◌∙◌, subst}
use mathlib.Core.Bool.{Bool, true}
use mathlib.Core.Logic.{◌≢◌, ◌⊎◌, inl, inr, ⊎_elim, ◌↔◌}
use Prim.Native.Nat.{ℕ, zero, suc, ◌+◌, ◌*◌, ◌/◌, ◌≤◌}
use native.Mathlib.Decide.{ℕ_discrete}
use native.Mathlib.Omega.{arith}
use Rattle.nodes.specs.Depth.{depth_of}
use Rattle.nodes.specs.Neighbours.{edge}
use Rattle.nodes.proofs.Depths.{At, at_parent, at_child, depth_is, depth_half}
use Rattle.nodes.proofs.Edges.{edge_root, edge_low, edge_mutual, edge_level}
use Rattle.cuts.specs.Cuts.{GoodCuts, Smallest, Leaf}
use Rattle.cuts.specs.Cuts.{sibling}
use Rattle.cuts.proofs.ForcedCuts.{Forced, Added, already, forced_at, smallest_iff_added}

-- ---- merge

-- the cuts left when q's and that of q's neighbour are taken back
abbrev pub Kept : (ℕ → Type 0) → ℕ → ℕ → Type 0
Kept P q n = P n × (n ≢ q) × (n ≢ edge q)

-- q's children and, where its neighbour is a node, that one's children are leaves
pub record Mergeable (P : ℕ → Type 0) (q : ℕ) : Type 0 where
  pub low : 2 ≤ q
  pub own : Leaf P (2 * q) × Leaf P (2 * q + 1)
  pub other : edge q ≢ 0 → Leaf P (2 * edge q) × Leaf P (2 * edge q + 1)

module _ (P : ℕ → Type 0) (G : GoodCuts P) where
  no_child : (q n : ℕ) → Leaf P (2 * q) × Leaf P (2 * q + 1) → n / 2 ≡ q → P n → ⊥
  no_child q n l r p = go (ℕ_discrete n (2 * q))
    where
      go : Dec (n ≡ 2 * q) → ⊥
      go (yes e) = l.0.uncut (subst P e p)
      go (no e) = l.1.uncut (subst P (omega arith) p)

  pub kept_good : (q : ℕ) → Mergeable P q → GoodCuts (Kept P q)
  kept_good q m = record {
    root = (G.root, omega (arith, m.low), λ e. omega (arith, m.low, sym (edge_mutual q (omega arith)) ∙ ap edge (sym e) ∙ edge_root));
    up = λ n h k. (G.up n h k.0, (λ e. no_child q n m.own e k.0), λ e. no_child (edge q) n (m.other (omega arith)) e k.0);
    over = λ n h k z. (G.over n h k.0 z, (λ e. k.2 (sym (edge_mutual n z) ∙ ap edge e)), λ e. k.1 (sym (edge_mutual n z) ∙ ap edge e ∙ edge_mutual q (λ w. z (e ∙ w))));
  }

  -- a cut that is taken back and made again leaves the set as it was
  pub smallest_kept : (P 0 → ⊥) → (q : ℕ) → Mergeable P q → Smallest (λ n. Kept P q n ⊎ (n ≡ q)) P
  smallest_kept none q m = record {
    good = G;
    holds = λ n. ⊎_elim (λ k. k.0) (λ e. subst P (sym e) (subst P (omega arith) m.own.0.parent));
    least = λ r R sub n p. go r R sub n p (ℕ_discrete n q) (ℕ_discrete n (edge q));
  }
    where
      go : (r : ℕ → Bool) → GoodCuts (λ n. r n ≡ true) → ((n : ℕ) → Kept P q n ⊎ (n ≡ q) → r n ≡ true)
          → (n : ℕ) → P n → Dec (n ≡ q) → Dec (n ≡ edge q) → r n ≡ true
      go r R sub n p (yes e) f = sub n (inr e)
      go r R sub n p (no e) (no f) = sub n (inl (p, e, f))
      go r R sub n p (no e) (yes f) =
          subst (λ x. r x ≡ true) (sym f) (R.over q m.low (sub q (inr refl)) (λ z. none (subst P (f ∙ z) p)))

-- ---- the leaves that a merge needs

other_child : (P : ℕ → Type 0) (k : ℕ) → Leaf P k → Leaf P (sibling k) → Leaf P (2 * (k / 2)) × Leaf P (2 * (k / 2) + 1)
other_child P k l s = go (ℕ_discrete k (2 * (k / 2)))
  where
    go : Dec (k ≡ 2 * (k / 2)) → Leaf P (2 * (k / 2)) × Leaf P (2 * (k / 2) + 1)
    go (yes e) = (subst (Leaf P) e l, subst (Leaf P) (omega arith) s)
    go (no e) = (subst (Leaf P) (omega arith) s, subst (Leaf P) (omega arith) l)

-- leaf k's sibling, and the two across where there are any, are leaves: its parent can be merged ..
pub mergeable_parent : (P : ℕ → Type 0) (k : ℕ) → 2 ≤ k / 2 → Leaf P k → Leaf P (sibling k)
    → (edge (k / 2) ≢ 0 → Leaf P (2 * edge (k / 2)) × Leaf P (2 * edge (k / 2) + 1)) → Mergeable P (k / 2)
mergeable_parent P k h l s o = record { low = h; own = other_child P k l s; other = o }

-- .. and back
pub mergeable_sibling : (P : ℕ → Type 0) (k : ℕ) → Mergeable P (k / 2) → Leaf P (sibling k)
mergeable_sibling P k m = go (ℕ_discrete k (2 * (k / 2)))
  where
    go : Dec (k ≡ 2 * (k / 2)) → Leaf P (sibling k)
    go (yes e) = subst (Leaf P) (omega arith) m.own.1
    go (no e) = subst (Leaf P) (omega arith) m.own.0

-- ---- there and back

module _ {P Q : ℕ → Type 0} (G : GoodCuts P) (dec : (n : ℕ) → Dec (P n)) (d k : ℕ) (a : At d k) (l : Leaf P k) (s : Smallest (λ n. P n ⊎ (n ≡ k)) Q) where
  added : (n : ℕ) → Q n ↔ Added P d k n
  added = smallest_iff_added G dec d k a (λ h. l.parent) s

  own_cut : Q k
  own_cut = s.holds k (inr refl)

  -- a node below an uncut one of k's depth is not cut
  below : (q n : ℕ) → At d q → 1 ≤ q → (P q → ⊥) → n / 2 ≡ q → Q n → ⊥
  below q n b h z e c = ⊎_elim (λ p. z (subst P e (G.up n (omega arith) p))) deep ((added n).0 c)
    where
      deep : Forced d k n → ⊥
      deep f = let (c, i, w) = forced_at d k n a f in absurd (omega (arith, depth_is w, depth_is (at_child {d = d} {n = n} (subst (At d) (sym e) b))))

  children : (q : ℕ) → At d q → 1 ≤ q → (P q → ⊥) → Q q → Leaf Q (2 * q) × Leaf Q (2 * q + 1)
  children q b h z c = (
    record { low = omega arith; uncut = below q (2 * q) b h z (omega arith); parent = subst Q (omega arith) c },
    record { low = omega arith; uncut = below q (2 * q + 1) b h z (omega arith); parent = subst Q (omega arith) c },
  )

  uncut_edge : edge k ≢ 0 → P (edge k) → ⊥
  uncut_edge z p = l.uncut (subst P (edge_mutual k z) (G.over (edge k) (omega (arith, edge_low (edge k) again)) p again))
    where
      again : edge (edge k) ≢ 0
      again = subst (λ x. x ≢ 0) (sym (edge_mutual k z)) (omega (arith, l.low))

  -- after a split the four children are leaves
  pub split_mergeable : Mergeable Q k
  split_mergeable = record {
    low = l.low;
    own = children k a (omega (arith, l.low)) l.uncut own_cut;
    other = λ z. children (edge k) (edge_level d k a z) (omega arith) (uncut_edge z) (s.good.over k l.low own_cut z);
  }

  -- and a merge leads back exactly where k's neighbour, if it has one, was a leaf
  pub split_back : (edge k ≢ 0 → Leaf P (edge k)) → (n : ℕ) → 1 ≤ n → (Kept Q k n ↔ P n)
  split_back across n h = (λ c. to d a ((added n).0 c.0) c.1 c.2, λ p. (s.holds n (inl p), (λ e. l.uncut (subst P e p)), λ e. (across (omega arith)).uncut (subst P e p)))
    where
      to : (d : ℕ) → At d k → Added P d k n → n ≢ k → n ≢ edge k → P n
      to d a (inl p) y z = p
      to zero a (inr f) y z = elim f [ ]
      to (suc d) a (inr (inl e)) y z = absurd (y e)
      to (suc d) a (inr (inr (w, inl e))) y z = absurd (z e)
      to (suc d) a (inr (inr (w, inr f))) y z = already P G d (edge k / 2) (at_parent (edge_level (suc d) k a w)) (across w).parent n f

  pub back_leaf : ((n : ℕ) → 1 ≤ n → (Kept Q k n ↔ P n)) → edge k ≢ 0 → Leaf P (edge k)
  back_leaf same z = record {
    low = e_low;
    uncut = uncut_edge z;
    parent = (same (edge k / 2) (omega (arith, e_low))).0 (s.good.up (edge k) e_low (s.good.over k l.low own_cut z), apart k a l.low, apart (edge k) b e_low);
  }
    where
      b : At d (edge k)
      b = edge_level d k a z

      e_low : 2 ≤ edge k
      e_low = edge_low (edge k) (subst (λ x. x ≢ 0) (sym (edge_mutual k z)) (omega (arith, l.low)))

      apart : (q : ℕ) → At d q → 2 ≤ q → edge k / 2 ≢ q
      apart q c h e = omega (arith, depth_half (edge k) e_low, depth_is b, depth_is c, ap depth_of e)
