-- Above the highest one bit of 32 stand the leading zeros, so its place is 31 less their number.
use native.Mathlib.Omega.{arith}
use Rattle.nodes.proofs.Depths.{depth_zeros}
use Rattle.nodes.proofs.numbers.depth.Goals as goal

pub returns : goal.returns
returns c = omega (arith, depth_zeros c.args.n.0 (omega arith) (omega arith))
