-- At each level the triangle is that of the node's ancestor, by `CornersAt`; at the last the ancestor is the node.
use native.Mathlib.Omega.{arith}
use Rattle.nodes.proofs.Depths.{depth_pos}
use Rattle.nodes.proofs.Descents.{start_above}
use Rattle.triangles.proofs.CornerDescents.{corners_start, corners_fit, corners_left, corners_right}
use Rattle.triangles.proofs.corners_of.Goals as goal

pub overflow_sub-levels : goal.overflow_sub-levels
overflow_sub-levels c = omega (arith, depth_pos c.args.n.0 (omega arith))

pub overflow_shr-k : goal.overflow_shr-k
overflow_shr-k c = (start_above c.args.n.0 c.depth-levels.result (omega arith) (omega arith) c.depth-levels.ensures).fits

pub loop-level-init : goal.loop-level-init
loop-level-init c = corners_start c.args.n.0 c.depth-levels.result _ (omega arith) (omega arith) c.depth-levels.ensures c.first_corners-t.ensures

pub left_corners-t-requires : goal.left_corners-t-requires
left_corners-t-requires c = corners_fit c.loop-level.invariant

pub loop-level-preserved-then-k-level-eq0 : goal.loop-level-preserved-then-k-level-eq0
loop-level-preserved-then-k-level-eq0 c = corners_left c.loop-level-test.true c.loop-level.invariant c.left_corners-t.ensures c.if-k-level-eq0.true

pub right_corners-t-requires : goal.right_corners-t-requires
right_corners-t-requires c = corners_fit c.loop-level.invariant

pub loop-level-preserved : goal.loop-level-preserved
loop-level-preserved c = corners_right c.loop-level-test.true c.loop-level.invariant c.right_corners-t.ensures c.if-k-level-eq0.false
