-- Each turn halves the words of x and moves the upper halves to the middle of their lanes: in the end they are its bits.
use Prim.Native.Nat.{◌/◌}
use native.Mathlib.Omega.{arith}
use Rattle.goodcuts.proofs.Spreading.{Turn, spread_first, spread_last, turn}
use Rattle.goodcuts.proofs.shallow.spread.Goals as goal

here : (c : goal.In-loop-w)
    → Turn c.args.deep c.args.x (c.loop-w.w / 2) (c.loop-w.lane / 2) c.loop-w.ones c.loop-w.y
here c = turn c.requires.0 c.loop-w-test.true c.loop-w.invariant

pub loop-w-init : goal.loop-w-init
loop-w-init c = spread_first c.requires.0 c.requires.1

pub overflow_shl-mask : goal.overflow_shl-mask
overflow_shl-mask c = omega (arith, here c)

pub overflow_sub-mask : goal.overflow_sub-mask
overflow_sub-mask c = omega (arith, here c)

pub overflow_mul-mask : goal.overflow_mul-mask
overflow_mul-mask c = omega (arith, here c)

pub overflow_shr-y : goal.overflow_shr-y
overflow_shr-y c = omega (arith, here c)

pub overflow_shl-y : goal.overflow_shl-y
overflow_shl-y c = omega (arith, here c)

pub overflow_add-y : goal.overflow_add-y
overflow_add-y c = omega (arith, here c)

pub overflow_shl-ones : goal.overflow_shl-ones
overflow_shl-ones c = omega (arith, here c)

pub overflow_add-ones : goal.overflow_add-ones
overflow_add-ones c = omega (arith, here c)

pub loop-w-preserved : goal.loop-w-preserved
loop-w-preserved c = (here c).next

pub returns : goal.returns
returns c = spread_last (omega arith) c.loop-w.invariant
