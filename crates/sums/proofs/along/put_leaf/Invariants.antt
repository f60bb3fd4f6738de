use Prim.Native.Nat.{◌/◌, ◌≤◌, ◌<◌}
use Rattle.sums.proofs.Climbing.{Climbed, OnPath}
use Rattle.sums.proofs.along.put_leaf.Given as goal

abbrev pub invariant-loop-k : goal.invariant-loop-k
invariant-loop-k l = OnPath l.deep l.k l.top l.w × (1 ≤ l.w) × (1 < l.k) × Climbed l.deep l.old l.v (l.k / 2) l.initial.bytes l.bytes

abbrev pub decreases-loop-k : goal.decreases-loop-k
decreases-loop-k l = l.k
