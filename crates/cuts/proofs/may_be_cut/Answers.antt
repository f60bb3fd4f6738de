-- Node 1 asks nothing; of any other the parent's bit and what stands across the long side say it.
use native.Mathlib.Omega.{arith}
use Rattle.nodes.proofs.Depths.{depth_half}
use Rattle.cuts.proofs.may_be_cut.Goals as goal

pub is_cut_above-requires : goal.is_cut_above-requires
is_cut_above-requires c =
    (c.requires.0, omega arith, omega (arith, depth_half c.args.n.0 (omega arith)))
