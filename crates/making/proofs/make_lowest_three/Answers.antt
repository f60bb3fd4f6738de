-- Each turn makes the sums over eight leaf bits more, and leaves those that are made.
use Prim.Native.Nat.{◌-◌}
use native.Mathlib.Omega.{arith}
use Rattle.words.proofs.Rooms.{quarter}
use Rattle.sums.proofs.Steps.{blocks_none}
use Rattle.sums.proofs.LowThree.{seven_next, seven_all}
use Rattle.making.proofs.make_lowest_three.Goals as goal

pub loop-i-init : goal.loop-i-init
loop-i-init c = (quarter c.requires, blocks_none c.args.bytes.now)

pub loop-i-preserved : goal.loop-i-preserved
loop-i-preserved c = (c.loop-i.invariant.0, seven_next (omega arith) c.loop-i.invariant.1 c.make_seven.ensures)

pub returns : goal.returns
returns c =
    let a = c.args in
    let l = c.loop-i in
    seven_all a.deep (a.deep - 3) (omega arith) (omega arith) (rw l.invariant.0.is at l.invariant.1)
