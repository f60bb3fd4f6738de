-- The cuts that a merge takes back, and the leaves that it needs. What is left is the panel that the call promises.
use mathlib.Core.Path.{◌≡◌, ◌∙◌, subst, subst⁻¹}
use mathlib.Core.Logic.Iff
use mathlib.Core.Logic.{◌⊎◌, inl, inr}
use mathlib.Core.List.{List}
use Prim.Native.Nat.{ℕ, ◌+◌, ◌*◌, ◌/◌, ◌<◌}
use native.Mathlib.Omega.{arith}
use Rattle.nodes.specs.Depth.{depth_of}
use Rattle.nodes.specs.Neighbours.{edge}
use Rattle.words.specs.Words.{leaf_bit}
use Rattle.panel.specs.Panels.{deep_of, CutOf, Good, LeafOf}
use Rattle.panel.specs.Calls.{Together, Unpinned, MergeAt}
use Rattle.cutting.specs.inner.Changing.{CutPut}
use Rattle.cuts.proofs.Places.{cut_low, cut_depth}
use Rattle.cuts.proofs.ForcedCuts.{good_iff}
use Rattle.cuts.proofs.TakingBack.{Mergeable, kept_good, mergeable_parent, mergeable_sibling}
use Rattle.cutting.proofs.ToMerge.{parent_low}
use Rattle.cutting.proofs.AtWork.{shallow, work_start, work_put, put_pins, work_drop, work_good}
use Rattle.cutting.proofs.Keeping.{TakenBack, left_cuts, kept_on, pins_kept}

module _ {s : List ℕ} (G : Good s) where
  -- where q has no neighbour, its own cut is all that is taken back
  pub merging_alone : {q : ℕ} {xs : List ℕ} → CutPut (deep_of s) s q 0 xs → edge q ≡ 0 → TakenBack s q xs
  merging_alone a z = record {
    work = work_put G (work_start G) a (omega arith);
    cuts = λ n. let i = work_drop G (work_start G) a n in
        (λ c. ((i.0 c).0, (i.0 c).1, omega (arith, cut_low (deep_of s) (leaf_bit (deep_of s) s) (shallow G) n (i.0 c).0)), λ k. i.1 (k.0, k.1));
    pins = put_pins G (work_start G) a (omega arith);
  }

  pub merging_both : {q : ℕ} {xs ys : List ℕ} → CutPut (deep_of s) s q 0 xs → CutPut (deep_of s) xs (edge q) 0 ys → TakenBack s q ys
  merging_both a b =
      let w = work_put G (work_start G) a (omega arith) in record {
        work = work_put G w b (omega arith);
        cuts = λ n. let i = work_drop G (work_start G) a n in
            let j = work_drop G w b n in
            (λ c. let (x, y) = j.0 c in ((i.0 x).0, (i.0 x).1, y), λ k. j.1 (i.1 (k.0, k.1), k.2));
        pins = λ p. put_pins G w b (omega arith) p ∙ put_pins G (work_start G) a (omega arith) p;
      }

  -- the depth of a node that can be merged is that of a bit
  pub merging_deep : {q : ℕ} → Mergeable (CutOf s) q → depth_of q < deep_of s
  merging_deep {q} M = cut_depth (deep_of s) (leaf_bit (deep_of s) s) (shallow G) q (subst (CutOf s) (omega arith) M.own.0.parent)

  -- the leaves that a merge of k needs are those of its parent
  pub together_mergeable : {k : ℕ} → LeafOf s k → 1 < depth_of k → Together s k → Mergeable (CutOf s) (k / 2)
  together_mergeable {k} l d t = mergeable_parent (CutOf s) k (parent_low l.low d) l t.beside t.across

  pub mergeable_together : {k : ℕ} → Mergeable (CutOf s) (k / 2) → Together s k
  mergeable_together {k} m = record { beside = mergeable_sibling (CutOf s) k m; across = m.other }

  -- the children of the cuts that it takes back are the leaves that it removes
  pub removed : {q : ℕ} → Mergeable (CutOf s) q → (n : ℕ) → (n ≡ q) ⊎ (n ≡ edge q) → CutOf s n → LeafOf s (2 * n) × LeafOf s (2 * n + 1)
  removed m n (inl e) c = subst⁻¹ (λ x. LeafOf s (2 * x) × LeafOf s (2 * x + 1)) e m.own
  removed m n (inr e) c =
      subst⁻¹ (λ x. LeafOf s (2 * x) × LeafOf s (2 * x + 1)) e (m.other (λ z. omega (arith, cut_low (deep_of s) (leaf_bit (deep_of s) s) (shallow G) n c)))

  -- the merge that is promised
  pub merge_made : {k : ℕ} {t : List ℕ} → Mergeable (CutOf s) (k / 2) → Unpinned s k → TakenBack s (k / 2) t → MergeAt s k t
  merge_made {k} M U b = record {
    good = work_good G b.work (good_iff (λ n h. Iff.symm (b.cuts n)) (kept_good (CutOf s) G.cuts (k / 2) M)) (kept_on G U b);
    long = b.work.long;
    cuts = left_cuts G U b;
    pins = pins_kept G U b;
  }
