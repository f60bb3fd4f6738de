-- The test of leaf k is the table's rows, and behind them the pin is read.
use mathlib.Core.Path.{◌≡◌, refl, sym, subst⁻¹}
use mathlib.Core.Bool.{Bool, true, false}
use mathlib.Core.List.{List, []}
use Prim.Native.Nat.{ℕ}
use native.Mathlib.Decide.{ℕ_discrete}
use native.Mathlib.Omega.{arith}
use Rattle.std.specs.Prelude.{Result, Ok}
use Rattle.answers.specs.declared.Refusal.{Refusal}
use Rattle.answers.specs.Refusals.{answer_number, answer_pin}
use Rattle.answers.proofs.Refusing.{handed}
use Rattle.tables.specs.inner.Says.{Says}
use Rattle.tables.proofs.Tables.{is_done}
use Rattle.cuts.specs.Cuts.{place_of}
use Rattle.pins.proofs.PinBits.{pin_lt}
use Rattle.panel.specs.Panels.{deep_of, Pinned, pin_of}
use Rattle.panel.specs.Calls.{PinOf}
use Rattle.panel.proofs.LeafRows.{is_leaf}
use Rattle.panel.proofs.Judgements.{no_ancestor, tested_no, tested_leaf}
use Rattle.pinning.proofs.pinned.Goals as goal

-- what is told is the pin
told : (s : List ℕ) (k : ℕ) (b : Bool) → Says (Pinned s k) b → answer_pin (Ok b) ≡ pin_of s k
told s k true h = sym (h.yes refl)
told s k false h = go (ℕ_discrete (pin_of s k) 1)
  where
    go : Dec (pin_of s k ≡ 1) → 0 ≡ pin_of s k
    go (yes p) = absurd (h.no refl p)
    go (no z) = omega (arith, pin_lt (deep_of s) s (place_of (deep_of s) k))

pub returns-in_err-tested-clause-pin_of : goal.returns-in_err-tested-clause-pin_of
returns-in_err-tested-clause-pin_of c =
    subst⁻¹ (λ (r : Result Bool Refusal). PinOf c.args.panel.now c.args.k.0 (answer_number r) (answer_pin r)) (handed c.from_residual.ensures.1) (tested_no c.tested.ensures.answers c.in_err-tested.was refl)

pub returns : goal.returns
returns c =
    record { pin_of = is_done (is_leaf c.requires.0 [] (tested_leaf c.tested.ensures.answers c.in_ok-tested.was) refl) (told c.args.panel.now c.args.k.0 _ c.is_pinned.ensures); ancestor = no_ancestor (omega arith) }
