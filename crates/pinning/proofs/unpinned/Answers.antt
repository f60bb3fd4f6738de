-- The tests are the two sides of the merge, one by one; at the border there is no other side.
use native.Mathlib.Omega.{arith}
use Rattle.cutting.proofs.ToMerge.{parent_low, range_small, across_in}
use Rattle.pinning.proofs.unpinned.Goals as goal

pub edge_of-e-requires : goal.edge_of-e-requires
edge_of-e-requires c =
    let p = c.requires in
    (parent_low p.2.low p.3, omega (arith, range_small p.0.fits p.2))

pub bare-requires-else-e-eq0 : goal.bare-requires-else-e-eq0
bare-requires-else-e-eq0 c =
    let p = c.requires in
    let w = across_in p.2 p.3 c.edge_of-e.ensures c.if-e-eq0.false in
    (p.0, p.1, w.0, w.1)
