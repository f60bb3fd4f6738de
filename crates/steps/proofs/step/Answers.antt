-- Past the test of a bad record the kind picks the call, and each call has its own contract.
use Rattle.std.proofs.Common.{◌≡◌, rules}
use Rattle.answers.specs.Refusals.{answer_number}
use Rattle.answers.proofs.Refusing.{handed}
use Rattle.steps.specs.Steps.Step.{bad}
use Rattle.steps.proofs.Answering.{step_call}
use Rattle.steps.proofs.step.Goals as goal

pub returns-in_err-kind-clause-step : goal.returns-in_err-kind-clause-step
returns-in_err-kind-clause-step c =
    let none = c.in_err-kind.ensures in
    let result = handed c.from_residual.ensures.1 in
    let nine : answer_number c.from_residual.result ≡ 9 = search rules in
    rw nine (bad (rw none.ok_part at c.read.ensures))

pub returns-in-Open-clause-step : goal.returns-in-Open-clause-step
returns-in-Open-clause-step c =
    let (fine, kind, number) = rw c.in_ok-kind.ensures.ok_part at c.read.ensures in step_call fine number (rw c.in-Open.is at kind) c.open.ensures.called

pub returns-in_default-clause-step : goal.returns-in_default-clause-step
returns-in_default-clause-step c =
    let (fine, kind, number) = rw c.in_ok-kind.ensures.ok_part at c.read.ensures in step_call fine number kind c.change_open.ensures.called
