use Rattle.std.proofs.Common.{◌-◌, ◌≤◌}
use Rattle.scanner.proofs.print.Given as goal

abbrev pub invariant-loop-done : goal.invariant-loop-done
invariant-loop-done l = l.done ≤ l.n

abbrev pub decreases-loop-done : goal.decreases-loop-done
decreases-loop-done l = l.n - l.done
