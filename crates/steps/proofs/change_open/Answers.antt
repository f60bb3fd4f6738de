-- The part that is lent is the open panel, which is good; where none is open, no bytes have no right length.
use Rattle.std.proofs.Common.{◌≡◌, rules}
use Rattle.answers.specs.Refusals.{answer_number}
use Rattle.answers.proofs.Refusing.{handed}
use Rattle.steps.proofs.Answering.{none_called, lent_called}
use Rattle.steps.proofs.Keeping.{called_keeps}
use Rattle.steps.proofs.change_open.Goals as goal

pub returns-in_err-deep-clause-called : goal.returns-in_err-deep-clause-called
returns-in_err-deep-clause-called c =
    let none = c.in_err-deep.ensures in
    let result = handed c.from_residual.ensures.1 in
    let one : answer_number c.from_residual.result ≡ 1 = search rules in
    rw (one, none.ok_part) (none_called _ _ _ c.requires.1)

pub returns : goal.returns
returns c =
    let some = c.in_ok-deep.ensures.ok_part in
    let p = lent_called c.size.ensures c.change.ensures in
    record { called = rw some p; keeps = rw some (called_keeps p (rw some at c.requires.0)) }
