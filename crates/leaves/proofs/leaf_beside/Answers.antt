-- The sibling's parent, which is cut, is the node's own.
use native.Mathlib.Omega.{arith}
use Rattle.panel.proofs.Lengths.{good_room}
use Rattle.leaves.proofs.leaf_beside.Goals as goal

pub is_cut-requires : goal.is_cut-requires
is_cut-requires c =
    let p = c.requires in (good_room _ p.0 p.1, rw p.1 (record { low = omega (arith, p.2.low); high = p.2.high }))
