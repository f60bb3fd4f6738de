-- The numbers selected are those of the child on the way to n, and one level less is left.
use mathlib.Core.Path.{◌∙◌}
use Prim.Native.Nat.{◌-◌, ◌/◌, ◌%◌, ◌^◌}
use native.Mathlib.Omega.{arith}
use Rattle.std.proofs.lemmas.Grind.{common_steps}
use lib.Dec.{eqb}
use borrow.Author.Tests.{eqb-true, eqb-false}
use Rattle.descents.proofs.Downward.{children, stop_over, chosen, next}
use Rattle.descents.proofs.+leaf_over.Goals as goal

pub returns-then-own-lt2 : goal.returns-then-own-lt2
returns-then-own-lt2 t c = stop_over c.requires.0 c.requires.1 c.requires.2 c.if-own-lt2.true

pub overflow_mul-first : goal.overflow_mul-first
overflow_mul-first t c = omega (arith, children _ c.requires.0 _ _ _ _ c.requires.1 c.if-own-lt2.false)

pub get_field-l-requires : goal.get_field-l-requires
get_field-l-requires t c = omega (arith, children _ c.requires.0 _ _ _ _ c.requires.1 c.if-own-lt2.false)

pub overflow_add-first : goal.overflow_add-first
overflow_add-first t c = omega (arith, children _ c.requires.0 _ _ _ _ c.requires.1 c.if-own-lt2.false)

pub overflow_sub-to_left : goal.overflow_sub-to_left
overflow_sub-to_left t c = (children _ c.requires.0 _ _ _ _ c.requires.1 c.if-own-lt2.false).levels

pub overflow_sub-left : goal.overflow_sub-left
overflow_sub-left t c = (children _ c.requires.0 _ _ _ _ c.requires.1 c.if-own-lt2.false).levels

pub overflow_sub-own : goal.overflow_sub-own
overflow_sub-own t c =
    let k = children _ c.requires.0 _ _ _ _ c.requires.1 c.if-own-lt2.false in
    omega (arith, k, c.get_field-l.ensures ∙ k.holds)

pub overflow_add-before : goal.overflow_add-before
overflow_add-before t c =
    let k = children _ c.requires.0 _ _ _ _ c.requires.1 c.if-own-lt2.false in
    grind (arith, common_steps, k.counts, c.requires.2, k.sums, c.get_field-l.ensures ∙ k.holds)

pub leaf_over-requires : goal.leaf_over-requires
leaf_over-requires t c =
    let k = children _ c.requires.0 _ _ _ _ c.requires.1 c.if-own-lt2.false in
    let d = c.args.n.0 / 2 ^ (c.args.left - 1) % 2 in
    let b = eqb d 0 in
    let h = chosen b k (c.get_field-l.ensures ∙ k.holds) c.select_unpredictable-at.ensures (next c.args.n.0 c.args.left b k.levels (eqb-true d 0) (eqb-false d 0)) c.select_unpredictable-leaves.ensures c.select_unpredictable-past.ensures in
    (omega (arith, k.levels, c.decreases), (c.requires.0, h.spot, omega (arith, h.number, c.requires.2)))
