-- The nodes passed are drawn; in which order, within a level, does not matter.
use mathlib.Core.Path.{◌≡◌, subst}
use Prim.Native.Nat.{◌*◌, ◌%◌, ◌^◌}
use native.Mathlib.Omega.{arith}
use lib.Pow.{pow_mono}
use Rattle.nodes.proofs.Depths.{pow_next, at_from, depth_is}
use Rattle.cuts.specs.inner.Closing.{CutsDrawn}
use Rattle.closing.proofs.Drawing.{drawn_none, drawn_then, only_room}
use Rattle.closing.proofs.nodewise.draw_nodes.Goals as goal

pub loop-n-init : goal.loop-n-init
loop-n-init c =
    let a = c.args in
    let small = pow_mono {i = a.d} {j = 16} (omega (arith, c.requires.0.high, c.requires.2)) in
    let first : 2 ^ a.d ≡ 1 * 2 ^ a.d % 4294967296 = omega (arith, small) in
    (omega (arith, small, pow_next a.d), omega arith, omega (arith, small), subst (λ n. CutsDrawn a.deep (2 ^ a.d) n a.bytes.now a.bytes.now) first (drawn_none a.deep (2 ^ a.d) a.bytes.now))

pub draw_node-requires : goal.draw_node-requires
draw_node-requires c =
    let i = c.loop-n.invariant in
    (only_room c.requires.0 i.3.only, omega (arith, i.1, pow_mono {i = 1} {j = c.args.d} c.requires.1), omega (arith, depth_is (at_from i.1 (omega (arith, i.0)))))

pub loop-n-preserved : goal.loop-n-preserved
loop-n-preserved c =
    let i = c.loop-n.invariant in
    (i.0, omega (arith, i.1), omega (arith, i.0), drawn_then c.args.d (omega arith) i.1 (omega arith) (omega (arith, i.0)) i.3 c.draw_node.ensures)
