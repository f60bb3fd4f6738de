use Rattle.steps.specs.Holding.{depth_or_0}
use Rattle.printing.proofs.Filling.{Filling}
use Rattle.printing.proofs.Run.fill.Given as goal

abbrev pub invariant-loop-j : goal.invariant-loop-j
invariant-loop-j l = Filling l.self.answers.now l.self.buffer.now (depth_or_0 l.self.deep) l.from l.initial.block l.block l.n l.j l.size
