-- The invariant: what stands in the block is the text of the lines so far. Each is sure to fit, so at least one is collected.
use native.Mathlib.Omega.{arith}
use borrow.Author.Rules.{rules}
use Rattle.printing.specs.Printing.Lines.{none}
use Rattle.printing.proofs.Filling.{filled_more}
use Rattle.printing.proofs.Run.fill.Goals as goal

pub loop-j-init : goal.loop-j-init
loop-j-init c = record { forward = search rules; within = omega arith; room = search rules; inside = search rules; long = search rules; text = none }

pub loop-j-preserved : goal.loop-j-preserved
loop-j-preserved c = filled_more c.loop-j.invariant (omega arith) (omega arith) c.numbers-x.ensures c.add-size.auto.out c.add-size.ensures
