-- The invariant: what was read are parts of whole records, each worked through from what the one before left.
use Rattle.std.proofs.Common.{arith}
use Rattle.requests.proofs.Parts.{reading_none, reading_more, reading_ended, reading_limit}
use Rattle.scanner.proofs.Ends.{last_part, full_part}
use Rattle.scanner.proofs.scan.Goals as goal

pub loop-ran-init : goal.loop-ran-init
loop-ran-init c = record { reading = reading_none _ _; keeps = tt }

pub loop-ran-preserved : goal.loop-ran-preserved
loop-ran-preserved c =
    let part = full_part c.run.ensures.part c.if-got-lt-PART.false in
    record { reading = reading_more c.loop-ran.invariant.reading (omega arith) part; keeps = c.run.ensures.keeps }

pub returns-then-got-lt-PART-clause-ended : goal.returns-then-got-lt-PART-clause-ended
returns-then-got-lt-PART-clause-ended c = reading_ended c.loop-ran.invariant.reading c.requires (last_part c.run.ensures.part c.if-got-lt-PART.true)

pub returns-clause-ended : goal.returns-clause-ended
returns-clause-ended c = reading_limit c.loop-ran.invariant.reading c.requires c.loop-ran-test.false
