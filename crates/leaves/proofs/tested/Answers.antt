-- The range is row 3, and how many nodes are cut down to k decides the others.
use mathlib.Core.Path.{refl, subst⁻¹}
use mathlib.Core.List.{[]}
use Prim.Native.Nat.{ℕ, ◌-◌, ◌/◌, ◌^◌}
use native.Mathlib.Omega.{arith}
use Rattle.nodes.proofs.Depths.{depth_le}
use Rattle.cuts.specs.Cuts.{LeafAbove}
use Rattle.panel.specs.Panels.{CutOf}
use Rattle.panel.proofs.Lengths.{fits_small}
use Rattle.panel.proofs.LeafRows.{below_leaf, is_leaf}
use Rattle.panel.proofs.Judgements.{no_ancestor}
use Rattle.leaves.proofs.FirstWays.{known}
use Rattle.leaves.proofs.tested.Goals as goal

pub returns-then-cuts-d : goal.returns-then-cuts-d
returns-then-cuts-d c =
    let k = c.args.k.0 in
    let a = subst⁻¹ (λ (x : ℕ). LeafAbove (CutOf c.args.panel.now) k (k / 2 ^ (x - c.cuts_to-cuts.result))) c.depth-d.ensures (c.cuts_to-cuts.ensures.above (omega (arith, c.if-cuts-d.true, c.depth-d.ensures))) in
    record { answers = below_leaf c.requires.0 (known c.requires.1 c.in_range.ensures c.if-not-in_range.false) (_, a); ancestor = record { leaf = λ _. a; none = λ z. absurd (z refl) } }

pub returns : goal.returns
returns c =
    record { answers = is_leaf c.requires.0 [] (c.cuts_to-cuts.ensures.leaf (omega (arith, c.if-cuts-d.false, c.if-d-cuts.false, c.depth-d.ensures))) refl; ancestor = no_ancestor (omega arith) }

pub overflow_shr-result : goal.overflow_shr-result
overflow_shr-result c = omega (arith, c.depth-d.ensures, depth_le _ _ (known c.requires.1 c.in_range.ensures c.if-not-in_range.false).high, fits_small c.requires.0.fits)
