-- The test of leaf k is the first rows of the table, the depth its last, and the work is done only behind them.
use mathlib.Core.Path.{refl, subst⁻¹}
use native.Mathlib.Omega.{arith}
use Rattle.std.specs.Prelude.{⊤, Result}
use Rattle.answers.specs.declared.Refusal.{Refusal}
use Rattle.answers.specs.Refusals.{answer_number}
use Rattle.answers.proofs.Refusing.{handed}
use Rattle.panel.specs.Calls.{Split}
use Rattle.panel.proofs.Judgements.{tested_no, tested_leaf}
use Rattle.changes.proofs.split.Goals as goal

pub returns-in_err-tested-clause-split : goal.returns-in_err-tested-clause-split
returns-in_err-tested-clause-split c =
    subst⁻¹ (λ (r : Result ⊤ Refusal). Split c.args.panel.now c.args.k.0 (answer_number r) c.args.panel.now) (handed c.from_residual.ensures.1) (tested_no c.tested.ensures.answers c.in_err-tested.was refl)

pub split_leaf-requires : goal.split_leaf-requires
split_leaf-requires c =
    (c.requires.0, c.requires.1, tested_leaf c.tested.ensures.answers c.in_ok-tested.was, omega (arith, c.depth.ensures))
