-- The test of leaf k is the table's rows, and behind them its pin is put.
use mathlib.Core.Path.{refl, subst⁻¹}
use mathlib.Core.List.{[]}
use native.Mathlib.Omega.{arith}
use Rattle.std.specs.Prelude.{⊤, Result}
use Rattle.answers.specs.declared.Refusal.{Refusal}
use Rattle.answers.specs.Refusals.{answer_number}
use Rattle.answers.proofs.Refusing.{handed}
use Rattle.tables.proofs.Tables.{is_done}
use Rattle.panel.specs.Calls.{PinPut}
use Rattle.panel.proofs.GoodPanels.{leaf_in_range}
use Rattle.panel.proofs.LeafRows.{is_leaf}
use Rattle.panel.proofs.Lengths.{good_pins}
use Rattle.panel.proofs.Judgements.{no_ancestor, tested_no, tested_leaf}
use Rattle.pinning.proofs.Pins.{put_at, range_place}
use Rattle.pinning.proofs.put_pin.Goals as goal

pub returns-in_err-tested-clause-pin_put : goal.returns-in_err-tested-clause-pin_put
returns-in_err-tested-clause-pin_put c =
    subst⁻¹ (λ (r : Result ⊤ Refusal). PinPut c.args.panel.now c.args.k.0 c.args.v (answer_number r) c.args.panel.now) (handed c.from_residual.ensures.1) (tested_no c.tested.ensures.answers c.in_err-tested.was refl)

pub leaf_place-requires : goal.leaf_place-requires
leaf_place-requires c = let p = c.requires in range_place p.0 p.1 (leaf_in_range _ p.0 _ (tested_leaf c.tested.ensures.answers c.in_ok-tested.was))

pub put_pin-requires : goal.put_pin-requires
put_pin-requires c =
    let p = c.requires in (good_pins _ p.0 p.1, c.leaf_place.ensures.1, p.2)

pub returns : goal.returns
returns c =
    let p = c.requires in
    record { pin_put = is_done (is_leaf p.0 [] (tested_leaf c.tested.ensures.answers c.in_ok-tested.was) refl) (put_at p.0 (tested_leaf c.tested.ensures.answers c.in_ok-tested.was) p.2 p.1 c.leaf_place.ensures.0 c.put_pin.ensures); ancestor = no_ancestor (omega arith) }
