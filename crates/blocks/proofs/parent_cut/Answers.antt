-- A node that is not cut asks nothing; of one that is cut the parent's bit says it.
use native.Mathlib.Omega.{arith}
use Rattle.nodes.proofs.Depths.{depth_half}
use Rattle.blocks.proofs.parent_cut.Goals as goal

pub is_cut_above-requires : goal.is_cut_above-requires
is_cut_above-requires c =
    (c.requires.0, omega arith, omega (arith, depth_half c.args.q.0 (omega arith)))
