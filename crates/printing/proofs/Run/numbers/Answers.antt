-- A line that is none of a record's is the leaf's whose number is as many lines behind the last answer.
use Rattle.std.proofs.Common.{◌-◌, ◌<◌, length, arith}
use Rattle.steps.specs.Steps.{leaves_in}
use Rattle.steps.specs.Holding.{depth_or_0}
use Rattle.steps.proofs.Keeping.{keeps_holds}
use Rattle.printing.specs.Printing.Numbers.{answer}
use Rattle.printing.proofs.Showing.{leaf_numbers, few_leaves}
use Rattle.printing.proofs.Run.numbers.Goals as goal

pub returns-then-j-self : goal.returns-then-j-self
returns-then-j-self c = rw c.from.ensures (answer c.if-j-self.true)

pub overflow_cast-i : goal.overflow_cast-i
overflow_cast-i c =
    let a = c.args.self.now in
    let h : c.args.j - length a.answers.now < leaves_in (depth_or_0 a.deep) a.buffer.now = omega arith in
    record { fits = few_leaves (keeps_holds _ _ c.requires.0.keeps) h }

pub returns : goal.returns
returns c =
    let a = c.args.self.now in
    let h : c.args.j - length a.answers.now < leaves_in (depth_or_0 a.deep) a.buffer.now = omega arith in
    rw (c.from-2.ensures, c.from-3.ensures, c.in-Some.is) (leaf_numbers (omega arith) (rw c.in-Some.is at h) c.size.ensures c.leaf_at-k.ensures)
