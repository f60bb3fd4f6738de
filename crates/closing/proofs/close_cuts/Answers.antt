-- The levels passed ask for nothing that is not cut, and no cut is made that a good set could do without.
use mathlib.Core.Path.{◌≡◌, refl, subst}
use mathlib.Core.Logic.{inr}
use Prim.Native.Nat.{◌+◌, ◌-◌, ◌^◌}
use native.Mathlib.Omega.{arith}
use Rattle.nodes.proofs.Depths.{at_root, depth_is}
use Rattle.words.specs.Words.{leaf_bit}
use Rattle.cuts.specs.Cuts.{Cut}
use Rattle.cuts.proofs.ForcedCuts.{smallest_of}
use Rattle.cuts.proofs.Closing.{Closing, closing_level, closing_ends}
use Rattle.closing.proofs.Drawing.{only_then}
use Rattle.closing.proofs.close_cuts.Goals as goal

pub cut_above-requires : goal.cut_above-requires
cut_above-requires c = (c.requires, omega arith, omega (arith, c.requires.low, depth_is at_root))

pub loop-d-preserved : goal.loop-d-preserved
loop-d-preserved c =
    let D = c.args.deep in
    let l = c.loop-d in
    let e : l.d ≡ l.d - 1 + 1 = omega arith in (
      omega arith,
      only_then l.invariant.1 c.draw_level.ensures.only,
      closing_level (l.d - 1) (omega arith) (subst (λ x. Closing (Cut D (leaf_bit D c.cut_above.new.bytes)) (Cut D (leaf_bit D l.bytes)) (2 ^ x)) e l.invariant.2) c.draw_level.ensures.cuts,
    )

pub returns : goal.returns
returns c =
    let r = c.cut_above.ensures in
    let D = c.args.deep in
    let l = c.loop-d in
    let e : l.d ≡ 1 = omega arith in
    record {
      only = only_then r.only l.invariant.1;
      cuts = smallest_of r.cuts (closing_ends ((r.cuts 1).1 (inr refl)) (subst (λ x. Closing (Cut D (leaf_bit D c.cut_above.new.bytes)) (Cut D (leaf_bit D l.bytes)) (2 ^ x)) e l.invariant.2));
    }
