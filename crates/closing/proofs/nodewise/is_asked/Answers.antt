-- The node's own bit says whether it is cut, and else the bit of its edge neighbour, where that is a node.
use mathlib.Core.Path.{ap, ◌∙◌}
use native.Mathlib.Omega.{arith}
use Rattle.nodes.specs.Depth.{depth_of}
use Rattle.nodes.proofs.Depths.{below_depth}
use Rattle.nodes.proofs.Edges.{edge_depth}
use Rattle.closing.proofs.nodewise.is_asked.Goals as goal

pub edge_of-e-requires : goal.edge_of-e-requires
edge_of-e-requires c =
    (c.requires.1, omega (arith, below_depth c.args.n.0 16 (omega arith) (omega arith)))

pub is_cut_above-requires-then-e-ne0 : goal.is_cut_above-requires-then-e-ne0
is_cut_above-requires-then-e-ne0 c =
    let e = c.edge_of-e.ensures in
    (c.requires.0, omega arith, omega (arith, ap depth_of e, edge_depth c.args.n.0 (λ z. c.if-e-ne0.true (e ∙ z))))
