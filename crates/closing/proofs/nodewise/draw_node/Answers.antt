-- The node and its parent are cut, one after the other.
use native.Mathlib.Omega.{arith}
use Rattle.nodes.proofs.Depths.{depth_half}
use Rattle.closing.proofs.Drawing.{drawn_node, only_room}
use Rattle.closing.proofs.nodewise.draw_node.Goals as goal

pub cut_above-requires-then-is_asked : goal.cut_above-requires-then-is_asked
cut_above-requires-then-is_asked c =
    (only_room c.requires.0 c.cut_above.ensures.only, omega (arith, c.requires.1), omega (arith, c.requires.2, depth_half c.args.n.0 c.requires.1))

pub returns-then-is_asked : goal.returns-then-is_asked
returns-then-is_asked c =
    drawn_node (c.is_asked.ensures.yes c.if-is_asked.true) c.cut_above.ensures c.cut_above-then-is_asked.ensures
