-- Each turn makes the sums over 64 leaf bits more, and leaves those that are made.
use Prim.Native.Nat.{◌-◌}
use native.Mathlib.Omega.{arith}
use Rattle.words.proofs.Rooms.{blocks}
use Rattle.sums.proofs.Steps.{blocks_none}
use Rattle.sums.proofs.LowSix.{six_next, six_all}
use Rattle.making_six.proofs.make_lowest_six.Goals as goal

pub loop-j-init : goal.loop-j-init
loop-j-init c = (blocks c.requires.0 c.requires.1, blocks_none c.args.bytes.now)

pub loop-j-preserved : goal.loop-j-preserved
loop-j-preserved c = (c.loop-j.invariant.0, six_next (omega arith) c.loop-j.invariant.1 c.make_six.ensures)

pub returns : goal.returns
returns c =
    let a = c.args in
    let l = c.loop-j in
    six_all a.deep (a.deep - 6) (omega arith) (omega arith) (rw l.invariant.0.is at l.invariant.1)
