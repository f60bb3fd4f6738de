-- The edge neighbour is none, or its bit says whether it is cut.
use mathlib.Core.Path.{ap, ◌∙◌}
use native.Mathlib.Omega.{arith}
use Rattle.nodes.specs.Depth.{depth_of}
use Rattle.nodes.proofs.Depths.{below_depth}
use Rattle.nodes.proofs.Edges.{edge_depth}
use Rattle.cuts.proofs.across_cut.Goals as goal

pub edge_of-e-requires : goal.edge_of-e-requires
edge_of-e-requires c =
    omega (arith, below_depth c.args.n.0 16 (omega arith) (omega arith))

pub is_cut_above-requires : goal.is_cut_above-requires
is_cut_above-requires c =
    let e = c.edge_of-e.ensures in
    (c.requires.0, omega arith, omega (arith, ap depth_of e, edge_depth c.args.n.0 (λ z. c.if-e-eq0.false (e ∙ z))))
