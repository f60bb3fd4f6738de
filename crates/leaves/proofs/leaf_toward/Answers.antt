-- The shift finds the first node of depth D below k, and the descent the leaf on the way to it.
use mathlib.Core.Path.{refl}
use Rattle.leaves.proofs.FirstWays.{shallow, start_toward, stop_toward}
use Rattle.leaves.proofs.leaf_toward.Goals as goal

pub overflow_sub-levels : goal.overflow_sub-levels
overflow_sub-levels c = let p = c.requires in shallow _ p.0 _ p.2 p.1 c.depth.ensures

pub leaf_over-node-requires : goal.leaf_over-node-requires
leaf_over-node-requires c =
    let p = c.requires in
    let s = start_toward _ p.0 _ p.2 p.1 c.depth.ensures refl c.count-n.ensures in
    (p.0, s.0, s.1)

pub returns : goal.returns
returns c =
    let p = c.requires in
    stop_toward _ p.0 _ p.2 p.1 c.depth.ensures refl c.leaf_over-node.ensures
