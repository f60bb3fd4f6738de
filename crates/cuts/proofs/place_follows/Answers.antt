-- Place 0 names no node, a place whose bit is not set no cut; of any other the test of the node that it names says it.
use mathlib.Core.Path.{ap}
use native.Mathlib.Omega.{arith}
use Rattle.nodes.specs.Depth.{depth_of}
use Rattle.cuts.proofs.Naming.{found}
use Rattle.cuts.proofs.place_follows.Goals as goal

pub may_be_cut-requires : goal.may_be_cut-requires
may_be_cut-requires c =
    let f = found c.args.deep c.args.p (omega arith) (omega arith) (omega arith) in
    (c.requires.0, omega (arith, f.low, c.named_node.ensures), omega (arith, f.levels, ap depth_of c.named_node.ensures))
