-- The tests are the leaves that the merge needs, each a node of the panel; at the border there is no pair across.
use mathlib.Core.Path.{◌≡◌, subst}
use Prim.Native.Nat.{◌+◌, ◌*◌}
use native.Mathlib.Omega.{arith}
use Rattle.cuts.specs.Cuts.{sibling}
use Rattle.panel.specs.Panels.{LeafOf}
use Rattle.panel.proofs.GoodPanels.{leaf_in_range}
use Rattle.cutting.proofs.ToMerge.{parent_low, range_small, across_in}
use Rattle.changes.proofs.together.Goals as goal

pub overflow_mul-q : goal.overflow_mul-q
overflow_mul-q c = omega (arith, range_small c.requires.0.fits (leaf_in_range _ c.requires.0 _ c.requires.2))

pub overflow_add-q : goal.overflow_add-q
overflow_add-q c = omega (arith, range_small c.requires.0.fits (leaf_in_range _ c.requires.0 _ c.requires.2))

pub edge_of-e-requires : goal.edge_of-e-requires
edge_of-e-requires c =
    (parent_low c.requires.2.low c.requires.3, omega (arith, range_small c.requires.0.fits (leaf_in_range _ c.requires.0 _ c.requires.2)))

-- the two across
pub overflow_mul-e : goal.overflow_mul-e
overflow_mul-e c =
    let p = across_in (leaf_in_range _ c.requires.0 _ c.requires.2) c.requires.3 c.edge_of-e.ensures c.if-e-eq0.false in
    omega (arith, range_small c.requires.0.fits p.0)

pub is_leaf-requires : goal.is_leaf-requires
is_leaf-requires c =
    let p = across_in (leaf_in_range _ c.requires.0 _ c.requires.2) c.requires.3 c.edge_of-e.ensures c.if-e-eq0.false in
    (c.requires.0, c.requires.1, p.0)

pub leaf_beside-requires-then-is_leaf : goal.leaf_beside-requires-then-is_leaf
leaf_beside-requires-then-is_leaf c =
    let p = across_in (leaf_in_range _ c.requires.0 _ c.requires.2) c.requires.3 c.edge_of-e.ensures c.if-e-eq0.false in
    let n = c.edge_of-e.result in
    let e : 2 * n ≡ sibling (2 * n + 1) = omega arith in
    (c.requires.0, c.requires.1, p.1, subst (LeafOf c.args.panel.now) e (c.is_leaf.ensures.yes c.if-is_leaf.true))
