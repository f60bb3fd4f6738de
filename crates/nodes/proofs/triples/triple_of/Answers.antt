-- At each level the triple is that of the node's ancestor, by `TripleAt`; at the last the ancestor is the node.
use mathlib.Core.Path.{refl}
use native.Mathlib.Omega.{arith}
use Rattle.nodes.proofs.Depths.{depth_pos}
use Rattle.nodes.proofs.Descents.{start_above, start_low, triple_start, triple_fits, triple_left, triple_right}
use Rattle.nodes.proofs.triples.triple_of.Goals as goal

pub overflow_sub-levels : goal.overflow_sub-levels
overflow_sub-levels c = omega (arith, depth_pos c.args.n.0 (omega arith))

pub overflow_shr-t : goal.overflow_shr-t
overflow_shr-t c = (start_above c.args.n.0 c.depth-levels.result (omega arith) (omega arith) c.depth-levels.ensures).fits

pub overflow_sub-t : goal.overflow_sub-t
overflow_sub-t c = omega (arith, start_low c.args.n.0 c.depth-levels.result (omega arith) (omega arith) c.depth-levels.ensures)

pub loop-level-init : goal.loop-level-init
loop-level-init c = triple_start c.args.n.0 c.depth-levels.result _ (omega arith) (omega arith) c.depth-levels.ensures refl

pub left_child-t-requires : goal.left_child-t-requires
left_child-t-requires c =
    let f = triple_fits c.loop-level-test.true c.loop-level.invariant c.requires.1 in
    (f.0, f.2, f.3)

pub loop-level-preserved-then-child-eq0 : goal.loop-level-preserved-then-child-eq0
loop-level-preserved-then-child-eq0 c = triple_left c.loop-level-test.true c.loop-level.invariant c.left_child-t.ensures c.if-child-eq0.true

pub right_child-t-requires : goal.right_child-t-requires
right_child-t-requires c =
    let f = triple_fits c.loop-level-test.true c.loop-level.invariant c.requires.1 in
    (f.0, f.1, f.3)

pub loop-level-preserved : goal.loop-level-preserved
loop-level-preserved c = triple_right c.loop-level-test.true c.loop-level.invariant c.right_child-t.ensures c.if-child-eq0.false
