-- The part's answers are those of its records in turn, in the place that is lent for them: as many are answered in the end as the part says.
use mathlib.Core.Path.{ap, ◌∙◌}
use Prim.Native.Nat.{min}
use lib.ListN.{length}
use Rattle.requests.proofs.Placing.{part_placed}
use Rattle.requests.proofs.run.Goals as goal

pub returns-clause-part : goal.returns-clause-part
returns-clause-part c =
    part_placed _ _ _ _ _ c.requires.1 (c.min-count.ensures ∙ ap (λ n. min n (length c.args.answers.now)) c.count_after.ensures) c.in_turn.auto.answers c.in_turn.ensures.runs
