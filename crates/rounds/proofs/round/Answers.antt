-- Past the judgement the two tests are the table's last rows, and the records in turn are worked through on the panel itself.
use native.Mathlib.Omega.{arith}
use Rattle.panel.proofs.Judgements.{judged_good}
use Rattle.rounds.proofs.Making.{round_done}
use Rattle.rounds.proofs.round.Goals as goal

pub returns : goal.returns
returns c =
    let (good, deep) = judged_good c.good_depth.ensures c.in_ok-deep.was in
    round_done good deep (omega arith) (omega arith) c.in_turn.auto.answers c.in_turn.ensures.runs
