-- The cuts of a split, one after the other: what is cut so far and what the next node forces are, together, what k forces, and each cut gets the pin of
-- the old leaf above it. What is left is the panel that the call promises.
use mathlib.Core.Path.{◌≡◌, refl, sym, ap, ◌∙◌, subst}
use mathlib.Core.Logic.Iff
use mathlib.Core.Logic.{◌≢◌, ◌⊎◌, inl, inr, ⊎_elim, ◌↔◌}
use mathlib.Core.List.{List}
use Prim.Native.Nat.{ℕ, suc, ◌/◌, ◌^◌, ◌≤◌, ◌<◌}
use native.Mathlib.Decide.{dec_lt}
use native.Mathlib.Omega.{arith}
use lib.Pow.{pow_pos}
use Rattle.nodes.specs.Depth.{depth_of}
use Rattle.nodes.specs.Neighbours.{edge}
use Rattle.nodes.proofs.Depths.{At, at_parent, depth_is, depth_half, below_depth}
use Rattle.nodes.proofs.Edges.{edge_low, edge_depth, edge_level, edge_mutual, edge_other}
use Rattle.words.specs.Words.{leaf_bit}
use Rattle.cuts.proofs.Leaves.{leaf_depth}
use Rattle.panel.proofs.GoodPanels.{good_bits}
use Rattle.panel.specs.Panels.{deep_of, CutOf, Good, LeafOf}
use Rattle.panel.specs.Calls.{SplitAt}
use Rattle.cuts.specs.Cuts.{Smallest}
use Rattle.cuts.specs.inner.Steps.{NodeOf}
use Rattle.cutting.specs.inner.Changing.{CutUnder}
use Rattle.cuts.proofs.ForcedCuts.{next, smallest_iff}
use Rattle.cuts.proofs.ForcedChain.{Chain, chain_start, chain_root, chain_cut, chain_last, chain_step, chain_smallest}
use Rattle.cutting.proofs.AtWork.{AtWork, CutIn, work_start, work_under, under_add, work_cuts, work_good}
use Rattle.cutting.proofs.Passing.{PinsStay, stay_start, stay_under, stay_passed}

-- on the way to k's cut, node m is next
pub record Splitting (s : List ℕ) (k : ℕ) (bs : List ℕ) (m : ℕ) : Type 0 where
  pub work : AtWork s bs
  pub leaf : LeafOf s k
  pub chain : Chain (CutOf s) k (CutIn s bs) (depth_of m) m
  pub deep : depth_of m < deep_of s
  pub pins : PinsStay s bs

module _ {s : List ℕ} (G : Good s) where
  -- the split that is promised
  split_made : {k : ℕ} {t : List ℕ} → AtWork s t → Smallest (λ n. CutOf s n ⊎ (n ≡ k)) (CutIn s t) → PinsStay s t → SplitAt s k t
  split_made w c p =
      let g = work_good G w c.good p.on in
      record { good = g; long = w.long; cuts = smallest_iff (λ n. Iff.symm (work_cuts G w n)) c; pins = stay_passed G p g w.long }

  pub splitting_start : {k : ℕ} → LeafOf s k → depth_of k < deep_of s → Splitting s k s k
  splitting_start l d = record { work = (work_start G); leaf = l; chain = chain_start G.cuts l; deep = d; pins = stay_start G }

  module _ {k : ℕ} {bs : List ℕ} {m : ℕ} (c : Splitting s k bs m) where
    pub splitting_node : NodeOf (deep_of s) m
    splitting_node =
        let h : 1 ≤ m = omega (arith, c.chain.at.low, pow_pos (depth_of m)) in
        record { low = h; high = below_depth m (deep_of s) h (omega (arith, c.deep)) }

    -- node 1 is cut
    pub splitting_low : (CutIn s bs m → ⊥) → 2 ≤ m
    splitting_low z = go (dec_lt 1 m)
      where
        go : Dec (1 < m) → 2 ≤ m
        go (yes h) = omega arith
        go (no h) = absurd (z (chain_root G.cuts c.chain (omega arith)))

    -- where the next node is cut, all is done
    pub splitting_cut : CutIn s bs m → SplitAt s k bs
    splitting_cut q = split_made c.work (chain_smallest G.cuts c.leaf (chain_cut G.cuts c.chain q)) c.pins

    module _ (low : 2 ≤ m) (uncut : CutIn s bs m → ⊥) {xs : List ℕ} (a : CutUnder (deep_of s) bs m m xs) where
      own : Chain (CutOf s) k (CutIn s bs) (suc (depth_of (m / 2))) m
      own = subst (λ d. Chain (CutOf s) k (CutIn s bs) d m) (depth_half m low) c.chain

      pub work_1 : AtWork s xs
      work_1 = work_under G c.work a

      -- m was a leaf
      was_leaf : LeafOf s m
      was_leaf = record { low = low; uncut = λ p. uncut (c.chain.old m p); parent = c.chain.parent low }

      pub pins_1 : PinsStay s xs
      pins_1 = stay_under G c.work c.chain.old c.pins 0 was_leaf (let e : m / 1 ≡ m = omega arith in e) a

      old_1 : (n : ℕ) → CutOf s n → CutIn s xs n
      old_1 n p = (under_add G c.work a n).1 (inl (c.chain.old n p))

      -- its own cut is the last where it has no neighbour
      pub splitting_last : edge m ≡ 0 → SplitAt s k xs
      splitting_last z = split_made work_1 (chain_smallest G.cuts c.leaf (chain_last G.cuts own z (under_add G c.work a))) pins_1

      -- the neighbour was a leaf where its parent is cut, and else the parent was
      module _ (z : edge m ≢ 0) where
        e_at : At (suc (depth_of (m / 2))) (edge m)
        e_at = edge_level (suc (depth_of (m / 2))) m own.at z

        -- its parent is cut only where it was
        parent_old : CutIn s xs (edge m / 2) → CutOf s (edge m / 2)
        parent_old p = ⊎_elim (λ q. ⊎_elim (λ x. x) (λ h. absurd (omega (arith, depth_is (at_parent e_at), depth_half m low))) (c.chain.deep (edge m / 2) q))
            (λ e. absurd (omega (arith, ap depth_of e, depth_is (at_parent e_at), depth_half m low))) ((under_add G c.work a (edge m / 2)).0 p)

        -- it was not cut, and is not yet
        old_uncut : CutOf s (edge m) → ⊥
        old_uncut q = was_leaf.uncut (subst (CutOf s) (edge_mutual m z) (G.cuts.over (edge m) (omega (arith, e_at.low, pow_pos (depth_of (m / 2)))) q (λ w. omega (arith, edge_mutual m z, low))))

        pub across_uncut : CutIn s xs (edge m) → ⊥
        across_uncut p = ⊎_elim (λ q. ⊎_elim old_uncut (λ h. omega (arith, edge_depth m z)) (c.chain.deep (edge m) q)) (edge_other m z) ((under_add G c.work a (edge m)).0 p)

        own_leaf : CutIn s xs (edge m / 2) → LeafOf s (edge m)
        own_leaf p = record { low = omega (arith, e_at.low, pow_pos (depth_of (m / 2))); uncut = old_uncut; parent = parent_old p }

        parent_leaf : (CutIn s xs (edge m / 2) → ⊥) → LeafOf s (edge m / 2)
        parent_leaf p = record { low = big; uncut = λ q. p (old_1 (edge m / 2) q); parent = next (CutOf s) G.cuts (depth_of (m / 2)) m own.at (c.chain.parent low) z big }
          where
            some : Dec (1 < edge m / 2) → 2 ≤ edge m / 2
            some (yes h) = omega arith
            some (no h) =
                absurd (p (old_1 (edge m / 2) (subst (CutOf s) (let e : 1 ≡ edge m / 2 = omega (arith, e_at.low, pow_pos (depth_of (m / 2))) in e) G.cuts.root)))

            big : 2 ≤ edge m / 2
            big = some (dec_lt 1 (edge m / 2))

        -- so the pin that its cut gets is that of the old leaf l which it is or lies below
        abbrev pub Held : ℕ → Type 0
        Held l = (i : ℕ) × LeafOf s l × (edge m / 2 ^ i ≡ l)

        pub held_own : CutIn s xs (edge m / 2) → Held (edge m)
        held_own p = (0, own_leaf p, let e : edge m / 1 ≡ edge m = omega arith in e)

        pub held_above : (CutIn s xs (edge m / 2) → ⊥) → Held (edge m / 2)
        held_above p = (1, parent_leaf p, refl)

        pub held_node : {l : ℕ} → Held l → (1 ≤ l) × (depth_of l ≤ deep_of s)
        held_node {l} (i, L, e) = (omega (arith, L.low), leaf_depth (deep_of s) (leaf_bit (deep_of s) s) (good_bits s G) l L)

      -- and else both are cut, and the neighbour's parent is next
      pub splitting_step : (z : edge m ≢ 0) {l : ℕ} → Held z l → {ys : List ℕ} → CutUnder (deep_of s) xs (edge m) l ys → Splitting s k ys (edge m / 2)
      splitting_step z {l} (i, L, e) {ys} b = record {
        work = work_under G work_1 b;
        leaf = c.leaf;
        chain = subst (λ d. Chain (CutOf s) k (CutIn s ys) d (edge m / 2)) (sym (depth_is after.at)) after;
        deep = omega (arith, depth_is after.at, depth_half m low, c.deep);
        pins = stay_under G work_1 old_1 pins_1 i L e b;
      }
        where
          both : (n : ℕ) → CutIn s ys n ↔ (CutIn s bs n ⊎ (n ≡ m) ⊎ (n ≡ edge m))
          both n =
              let i = under_add G c.work a n in
              let j = under_add G work_1 b n in (
                λ q. ⊎_elim (λ x. ⊎_elim inl (λ y. inr (inl y)) (i.0 x)) (λ x. inr (inr x)) (j.0 q),
                ⊎_elim (λ x. j.1 (inl (i.1 (inl x)))) (⊎_elim (λ x. j.1 (inl (i.1 (inr x)))) (λ x. j.1 (inr x))),
              )

          after : Chain (CutOf s) k (CutIn s ys) (depth_of (m / 2)) (edge m / 2)
          after = chain_step G.cuts own z both

  -- a node that was not cut is not where another was
  pub still_uncut : {bs ys : List ℕ} {n l m : ℕ} → AtWork s bs → CutUnder (deep_of s) bs n l ys → m ≢ n → (CutIn s bs m → ⊥) → CutIn s ys m → ⊥
  still_uncut {m = m} w u z f c = ⊎_elim f z ((under_add G w u m).0 c)

-- the node across has a parent, one level nearer to node 1
pub across_low : (m : ℕ) → edge m ≢ 0 → 2 ≤ edge m
across_low m z = edge_low (edge m) (λ e. omega (arith, edge_mutual m z, edge_low m z))

pub across_above : (m : ℕ) → edge m ≢ 0 → depth_of m ≡ suc (depth_of (edge m / 2))
across_above m z = sym (edge_depth m z) ∙ depth_half (edge m) (across_low m z)
