-- The numbers selected are those of the child below which the leaf stands, and one level less is left.
use mathlib.Core.Path.{◌∙◌, subst}
use native.Mathlib.Omega.{arith}
use lib.Dec.{ltb}
use borrow.Author.Tests.{ltb-true, ltb-false}
use Rattle.panel.specs.Calls.{LeafNumbered}
use Rattle.descents.proofs.Downward.{children, stop, chosen, fewer}
use Rattle.descents.proofs.+leaf_below.Goals as goal

pub returns-then-word-lt2 : goal.returns-then-word-lt2
returns-then-word-lt2 t c = record { leaf = stop _ c.requires.0 _ _ _ _ c.requires.1 c.if-word-lt2.true; number = omega arith }

pub overflow_mul-first : goal.overflow_mul-first
overflow_mul-first t c = omega (arith, children _ c.requires.0 _ _ _ _ c.requires.1 c.if-word-lt2.false)

pub get_field-l-requires : goal.get_field-l-requires
get_field-l-requires t c = omega (arith, children _ c.requires.0 _ _ _ _ c.requires.1 c.if-word-lt2.false)

pub overflow_add-first : goal.overflow_add-first
overflow_add-first t c = omega (arith, children _ c.requires.0 _ _ _ _ c.requires.1 c.if-word-lt2.false)

pub overflow_mul-k : goal.overflow_mul-k
overflow_mul-k t c = omega (arith, children _ c.requires.0 _ _ _ _ c.requires.1 c.if-word-lt2.false)

pub overflow_mul-k-2 : goal.overflow_mul-k-2
overflow_mul-k-2 t c = omega (arith, children _ c.requires.0 _ _ _ _ c.requires.1 c.if-word-lt2.false)

pub overflow_add-k : goal.overflow_add-k
overflow_add-k t c = omega (arith, children _ c.requires.0 _ _ _ _ c.requires.1 c.if-word-lt2.false)

pub overflow_sub-word : goal.overflow_sub-word
overflow_sub-word t c =
    let k = children _ c.requires.0 _ _ _ _ c.requires.1 c.if-word-lt2.false in
    omega (arith, k, c.get_field-l.ensures ∙ k.holds)

pub overflow_sub-left : goal.overflow_sub-left
overflow_sub-left t c = (children _ c.requires.0 _ _ _ _ c.requires.1 c.if-word-lt2.false).levels

pub leaf_below-requires : goal.leaf_below-requires
leaf_below-requires t c =
    let k = children _ c.requires.0 _ _ _ _ c.requires.1 c.if-word-lt2.false in
    let l = c.get_field-l.result in
    let b = ltb c.args.i.0 l in
    (omega (arith, k.levels, c.decreases), (c.requires.0, (chosen b k (c.get_field-l.ensures ∙ k.holds) c.select_unpredictable-at.ensures c.select_unpredictable-child.ensures c.select_unpredictable-leaves.ensures c.select_unpredictable-past.ensures).spot, (fewer b (ltb-true c.args.i.0 l) (ltb-false c.args.i.0 l) c.requires.2 c.select_unpredictable-leaves.ensures c.select_unpredictable-past.ensures).1))

pub returns : goal.returns
returns t c =
    let k = children _ c.requires.0 _ _ _ _ c.requires.1 c.if-word-lt2.false in
    let l = c.get_field-l.result in
    let b = ltb c.args.i.0 l in
    subst (λ x. LeafNumbered c.args.panel.now.now x c.leaf_below.result) (omega (arith, (chosen b k (c.get_field-l.ensures ∙ k.holds) c.select_unpredictable-at.ensures c.select_unpredictable-child.ensures c.select_unpredictable-leaves.ensures c.select_unpredictable-past.ensures).number, (fewer b (ltb-true c.args.i.0 l) (ltb-false c.args.i.0 l) c.requires.2 c.select_unpredictable-leaves.ensures c.select_unpredictable-past.ensures).0)) c.leaf_below.ensures
