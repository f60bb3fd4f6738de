use Rattle.std.proofs.Common.{take}
use Rattle.steps.specs.Holding.{depth_or_0, Keeps}
use Rattle.turns.specs.Runs.{Runs}
use Rattle.turns.proofs.in_turn.Given as goal

abbrev pub invariant-loop-i : goal.invariant-loop-i
invariant-loop-i l = record {
  runs : Runs l.first l.last l.records (depth_or_0 l.initial.deep) l.initial.buffer (take l.i l.answers) (depth_or_0 l.deep) l.buffer;
  keeps : Keeps l.deep l.buffer;
}
