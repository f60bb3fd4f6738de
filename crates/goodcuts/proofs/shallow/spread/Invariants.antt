use Rattle.goodcuts.proofs.Spreading.{Spreading}
use Rattle.goodcuts.proofs.shallow.spread.Given as goal

abbrev pub invariant-loop-w : goal.invariant-loop-w
invariant-loop-w l = Spreading l.deep l.x l.w l.lane l.ones l.y

abbrev pub decreases-loop-w : goal.decreases-loop-w
decreases-loop-w l = l.w
