-- Split and merge undo each other: after a split its own merge is allowed, where it meets no pin, and leads back where no cut was forced but the neighbour's;
-- after a merge the split of the parent always leads back.
use mathlib.Core.Path.{◌≡◌, refl, sym, ap, ◌∙◌, subst, subst⁻¹}
use mathlib.Core.Logic.Iff
use mathlib.Core.Logic.{◌≢◌, ◌⊎◌, inl, inr, ⊎_elim, ⊎_map, ◌↔◌}
use mathlib.Core.List.{List}
use Prim.Native.Nat.{ℕ, suc, ◌+◌, ◌*◌, ◌/◌, ◌^◌, ◌≤◌, ◌<◌}
use native.Mathlib.Decide.{ℕ_discrete}
use native.Mathlib.Omega.{arith}
use Rattle.bits.proofs.Laws.{Bytes}
use Rattle.nodes.specs.Depth.{depth_of}
use Rattle.nodes.specs.Neighbours.{edge}
use Rattle.nodes.proofs.Depths.{At, at_depth, depth_left, depth_half, depth_pos}
use Rattle.nodes.proofs.Edges.{edge_low, edge_depth, edge_mutual}
use Rattle.words.specs.Words.{leaf_bit}
use Rattle.panel.specs.Panels.{deep_of, CutOf, Good, LeafOf, BelowLeaf, pin_of, Pinned}
use Rattle.panel.specs.Calls.{SplitAt, Together, Bare, Unpinned, MergeAt}
use Rattle.cuts.proofs.Places.{cut_low}
use Rattle.cuts.proofs.ForcedCuts.{smallest_of}
use Rattle.cuts.proofs.TakingBack.{Kept, Mergeable, smallest_kept, split_mergeable, split_back, back_leaf}
use Rattle.panel.proofs.Lengths.{fits_small}
use Rattle.cuts.proofs.Leaves.{leaf_same}
use Rattle.panel.proofs.GoodPanels.{dec_cuts, one_of_three}
use Rattle.panel.proofs.SameBytes.{deep_same, bytes_same}
use Rattle.cutting.proofs.Merging.{merging_deep, together_mergeable, mergeable_together, removed}
use Rattle.cutting.proofs.Keeping.{taken, bare}
use Rattle.evidence.proofs.Inside.{InsideBy, child_in, left_in, same_leaf, leaf_child}

-- k is pinned, or the leaf is that its edge neighbour is, or lies in
abbrev pub PinnedAround : List ℕ → ℕ → Type 0
PinnedAround s k = Pinned s k ⊎ ((edge k ≢ 0) × (n : ℕ) × (j : ℕ) × LeafOf s n × InsideBy j (edge k) n × Pinned s n)

module _ {s t : List ℕ} (G : Good s) {k : ℕ} (l : LeafOf s k) (a : SplitAt s k t) where
  at : At (depth_of k) k
  at = at_depth (omega (arith, l.low))

  mergeable : Mergeable (CutOf t) k
  mergeable = split_mergeable G.cuts (dec_cuts G) (depth_of k) k at l a.cuts

  -- after a split of k its left child is a leaf, deeper than 1, and the leaves are there that its merge needs
  pub split_leaf : LeafOf t (2 * k)
  split_leaf = mergeable.own.0

  pub split_deep : 1 < depth_of (2 * k)
  split_deep = omega (arith, depth_left k (omega (arith, l.low)), depth_pos k l.low)

  pub split_together : Together t (2 * k)
  split_together = mergeable_together a.good (subst (Mergeable (CutOf t)) (let e : k ≡ 2 * k / 2 = omega arith in e) mergeable)

  -- ---- the pins that its merge would meet

  -- both children have k's pin
  own_pins : (c : ℕ) → c < 2 → LeafOf t (2 * k + c) → Pinned t (2 * k + c) ↔ Pinned s k
  own_pins c h m = a.pins k (2 * k + c) 1 l m (let e : (2 * k + c) / 2 ^ 1 ≡ k = omega arith in e)

  module _ (z : edge k ≢ 0) where
    pair : LeafOf t (2 * edge k) × LeafOf t (2 * edge k + 1)
    pair = mergeable.other z

    -- those of its neighbour have the pin of the leaf that the neighbour was, or lay in
    across_pins : {n : ℕ} (j : ℕ) → LeafOf s n → InsideBy j (edge k) n → (Pinned t (2 * edge k) ↔ Pinned s n) × (Pinned t (2 * edge k + 1) ↔ Pinned s n)
    across_pins {n} j N e =
        (a.pins n (2 * edge k) (suc j) N pair.0 (left_in j (edge k) e), a.pins n (2 * edge k + 1) (suc j) N pair.1 (child_in j (edge k) 1 (omega arith) e))

    low : 2 ≤ edge k
    low = edge_low (edge k) (λ w. omega (arith, edge_mutual k z, l.low))

    -- there is one: the neighbour was not cut, for then k would be
    around : (n : ℕ) × (j : ℕ) × LeafOf s n × InsideBy j (edge k) n
    around = go (one_of_three s G (edge k) low)
      where
        go : LeafOf s (edge k) ⊎ (CutOf s (edge k) ⊎ BelowLeaf s (edge k)) → (n : ℕ) × (j : ℕ) × LeafOf s n × InsideBy j (edge k) n
        go (inl e) = (edge k, 0, e, let h : edge k / 2 ^ 0 ≡ edge k = omega arith in h)
        go (inr (inl c)) = absurd (l.uncut (subst (CutOf s) (edge_mutual k z) (G.cuts.over (edge k) low c (λ w. omega (arith, edge_mutual k z, l.low)))))
        go (inr (inr (n, x))) = (n, x.levels, x.leaf, x.ancestor)

  -- its merge meets no pin exactly where k had none, and the leaf that its neighbour was, or lay in, had none
  pub split_unpinned : Unpinned t (2 * k) ↔ (PinnedAround s k → ⊥)
  split_unpinned = (
    λ U. ⊎_elim (λ p. (subst (Bare t) half U.own).left (subst (Pinned t) even (zero_pins.1 p)))
        (λ (z, n, j, N, e, p). (subst (Bare t) same (U.across (λ w. z (sym same ∙ w)))).left ((across_pins z j N e).0.1 p)),
    λ f. record {
      own = subst⁻¹ (Bare t) half (record { left = λ p. f (inl (zero_pins.0 (subst⁻¹ (Pinned t) even p))); right = λ p. f (inl ((own_pins 1 (omega arith) mergeable.own.1).0 p)) });
      across = λ w. let z : edge k ≢ 0 = λ v. w (same ∙ v) in
          let (n, j, N, e) = around z in
          let (x, y) = across_pins z j N e in
          subst⁻¹ (Bare t) same (record { left = λ p. f (inr (z, n, j, N, e, x.0 p)); right = λ p. f (inr (z, n, j, N, e, y.0 p)) });
    },
  )
    where
      half : 2 * k / 2 ≡ k
      half = omega arith

      same : edge (2 * k / 2) ≡ edge k
      same = ap edge half

      even : 2 * k + 0 ≡ 2 * k
      even = omega arith

      zero_pins : Pinned t (2 * k + 0) ↔ Pinned s k
      zero_pins = own_pins 0 (omega arith) (subst⁻¹ (LeafOf t) even mergeable.own.0)

  -- which is decided
  pub dec_around : Dec (PinnedAround s k)
  dec_around = go (ℕ_discrete (pin_of s k) 1) (ℕ_discrete (edge k) 0)
    where
      beyond : (Pinned s k → ⊥) → (z : edge k ≢ 0) → (n : ℕ) × (j : ℕ) × LeafOf s n × InsideBy j (edge k) n → Dec (Pinned t (2 * edge k)) → Dec (PinnedAround s k)
      beyond p z (n, j, N, e) (yes q) = yes (inr (z, n, j, N, e, (across_pins z j N e).0.0 q))
      beyond p z _ (no q) = no (⊎_elim p (λ (_, n, j, N, e, x). q ((across_pins z j N e).0.1 x)))

      go : Dec (Pinned s k) → Dec (edge k ≡ 0) → Dec (PinnedAround s k)
      go (yes p) e = yes (inl p)
      go (no p) (yes e) = no (⊎_elim p (λ x. x.0 e))
      go (no p) (no z) = beyond p z (around z) (ℕ_discrete (pin_of t (2 * edge k)) 1)

  -- that merge leads back exactly where k's neighbour, if it is a node, was a leaf
  module _ {u : List ℕ} (m : MergeAt t (2 * k) u) where
    kept : (n : ℕ) → CutOf u n ↔ Kept (CutOf t) k n
    kept n = subst (λ q. CutOf u n ↔ Kept (CutOf t) q n) (let e : 2 * k / 2 ≡ k = omega arith in e) (m.cuts n)

    -- the pins that were passed on are none where the merge is accepted, and the others are as they were
    module _ (U : Unpinned t (2 * k)) (e : edge k ≢ 0 → LeafOf s (edge k)) where
      cuts : (n : ℕ) → 1 ≤ n → CutOf u n ↔ CutOf s n
      cuts n h = Iff.trans (kept n) (split_back G.cuts (dec_cuts G) (depth_of k) k at l a.cuts e n h)

      gone : (n : ℕ) → (n ≡ k) ⊎ (n ≡ edge k) → 1 ≤ n → Pinned s n → ⊥
      gone n (inl i) h p = split_unpinned.0 U (inl (subst (Pinned s) i p))
      gone n (inr i) h p =
          let z : edge k ≢ 0 = λ w. omega arith in
          split_unpinned.0 U (inr (z, edge k, 0, e z, (let q : edge k / 2 ^ 0 ≡ edge k = omega arith in q), subst (Pinned s) i p))

      pins : (n : ℕ) → LeafOf u n → Pinned u n ↔ Pinned s n
      pins n N = go (dec_cuts a.good n)
        where
          go : Dec (CutOf t n) → Pinned u n ↔ Pinned s n
          go (yes c) = (
            λ p. absurd (((m.pins n N).0 p).0.uncut c),
            λ p. absurd (gone n (taken (CutOf t) k n c (λ x. N.uncut ((kept n).1 x))) (omega (arith, N.low)) p),
          )
          go (no c) =
              let T : LeafOf t n = record { low = N.low; uncut = c; parent = ((kept (n / 2)).0 N.parent).0 } in
              let i = a.pins n n 0 (leaf_same cuts n N) T (let h : n / 2 ^ 0 ≡ n = omega arith in h) in
              (λ p. i.0 ((m.pins n N).0 p).1, λ p. (m.pins n N).1 (T, i.1 p))

      pub split_merge_back : Bytes s → Bytes u → u ≡ s
      split_merge_back bs bu = bytes_same m.good G (m.long ∙ a.long) bu bs cuts pins

    pub split_merge_leaf : u ≡ s → edge k ≢ 0 → LeafOf s (edge k)
    split_merge_leaf e =
        back_leaf G.cuts (dec_cuts G) (depth_of k) k at l a.cuts
        (λ n h. subst (λ x. Kept (CutOf t) k n ↔ CutOf x n) e (Iff.symm (kept n)))

-- after a merge of k its parent is a leaf, and the split of that leads back
module _ {s t : List ℕ} (G : Good s) {k : ℕ} (l : LeafOf s k) (d : 1 < depth_of k) (g : Together s k) (U : Unpinned s k) (m : MergeAt s k t) where
  parent : Mergeable (CutOf s) (k / 2)
  parent = together_mergeable G l d g

  pub merge_leaf : LeafOf t (k / 2)
  merge_leaf = record {
    low = parent.low;
    uncut = λ c. ((m.cuts (k / 2)).0 c).1 refl;
    parent = (m.cuts (k / 2 / 2)).1 (G.cuts.up (k / 2) parent.low l.parent, omega (arith, parent.low), λ e. across e (ℕ_discrete (edge (k / 2)) 0));
  }
    where
      across : k / 2 / 2 ≡ edge (k / 2) → Dec (edge (k / 2) ≡ 0) → ⊥
      across e (yes z) = omega (arith, parent.low)
      across e (no z) = omega (arith, ap depth_of e, edge_depth (k / 2) z, depth_half (k / 2) parent.low)

  pub merge_deep : depth_of (k / 2) < deep_of t
  merge_deep = omega (arith, deep_same s t m.long, merging_deep G parent)

  pub merge_split : SplitAt t (k / 2) s
  merge_split = record {
    good = G;
    long = sym m.long;
    cuts =
        smallest_of (λ n. (⊎_map (m.cuts n).1 (λ e. e), ⊎_map (m.cuts n).0 (λ e. e)))
        (smallest_kept (CutOf s) G.cuts (λ c. omega (arith, cut_low (deep_of s) (leaf_bit (deep_of s) s) (omega (arith, fits_small G.fits)) 0 c)) (k / 2) parent);
    pins = λ n i j N I e. passed n i j N I e (dec_cuts G n);
  }
    where
      passed : (n i j : ℕ) → LeafOf t n → LeafOf s i → InsideBy j i n → Dec (CutOf s n) → Pinned s i ↔ Pinned t n
      passed n i j N I e (yes c) =
          let o = taken (CutOf s) (k / 2) n c (λ x. N.uncut ((m.cuts n).1 x)) in
          let b = bare G U n o c in (
            λ p. absurd (⊎_elim (λ x. b.left (subst (Pinned s) x p)) (λ x. b.right (subst (Pinned s) x p)) (leaf_child G.cuts j c (removed G parent n o c) I e)),
            λ p. absurd (((m.pins n N).0 p).0.uncut c),
          )
      passed n i j N I e (no c) =
          let S : LeafOf s n = record { low = N.low; uncut = c; parent = ((m.cuts (n / 2)).0 N.parent).0 } in
          let h = same_leaf G.cuts j I S e in
          (λ p. (m.pins n N).1 (S, subst (Pinned s) h p), λ p. subst⁻¹ (Pinned s) h ((m.pins n N).0 p).1)
