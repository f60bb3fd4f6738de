-- The invariant: the answers so far, the depth and the buffer are those of the records so far in turn, and the open panel is good.
use Rattle.std.proofs.Common.{arith}
use Rattle.records.specs.InTurn.InTurn.{none}
use Rattle.turns.proofs.Filling.{filled_more}
use Rattle.turns.proofs.in_turn.Goals as goal

pub loop-i-init : goal.loop-i-init
loop-i-init c = record { runs = none; keeps = c.requires.0 }

pub loop-i-preserved : goal.loop-i-preserved
loop-i-preserved c =
    let h = c.loop-i.invariant in
    record {
      runs = filled_more _ _ h.runs (omega arith) c.record_at.ensures c.number.ensures c.step-done.ensures.step (λ i. (c.type_inv.buffer i).fits);
      keeps = c.step-done.ensures.keeps;
    }
