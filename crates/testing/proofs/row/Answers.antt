-- Each turn compares one word more with the sum of its children's words, where the running places say.
use mathlib.Core.Path.{sym, ap₂, ◌∙◌}
use Prim.Native.Nat.{ℕ, ◌+◌, ◌^◌}
use native.Mathlib.Omega.{arith}
use Rattle.bits.proofs.Laws.{field_lt}
use Rattle.tables.proofs.Tables.{says_yes, says_no}
use Rattle.sums.proofs.Rows.{running_first, row_first, row_end, here, sums_next}
use Rattle.testing.proofs.row.Goals as goal

pub loop-init : goal.loop-init
loop-init c =
    record { places = running_first c.requires c.row_start-p.ensures c.row_start-c.ensures; right = λ k lo hi. absurd (omega (arith, row_first c.requires)) }

pub get_field-x-requires : goal.get_field-x-requires
get_field-x-requires c = omega (arith, here c.requires c.loop.invariant.places c.loop.auto.counter c.loop-test.true)

pub overflow_add-c : goal.overflow_add-c
overflow_add-c c = omega (arith, here c.requires c.loop.invariant.places c.loop.auto.counter c.loop-test.true)

pub get_field-y-requires : goal.get_field-y-requires
get_field-y-requires c = omega (arith, here c.requires c.loop.invariant.places c.loop.auto.counter c.loop-test.true)

pub get_field-requires : goal.get_field-requires
get_field-requires c = omega (arith, here c.requires c.loop.invariant.places c.loop.auto.counter c.loop-test.true)

pub overflow_add-x : goal.overflow_add-x
overflow_add-x c = omega (arith, here c.requires c.loop.invariant.places c.loop.auto.counter c.loop-test.true, field_lt)

pub returns-then-get_field-x : goal.returns-then-get_field-x
returns-then-get_field-x c =
    let h = here c.requires c.loop.invariant.places c.loop.auto.counter c.loop-test.true in
    let kids = ap₂ (λ (x y : ℕ). x + y) (c.get_field-x.ensures ∙ h.left_word) (c.get_field-y.ensures ∙ h.right_word) in
    says_no (λ s. c.if-get_field-x.true (c.get_field.ensures ∙ h.own_word ∙ s c.loop.counter h.low h.high ∙ sym kids))

pub overflow_add-p-in-loop : goal.overflow_add-p-in-loop
overflow_add-p-in-loop c = omega (arith, here c.requires c.loop.invariant.places c.loop.auto.counter c.loop-test.true)

pub overflow_add-c-in-loop : goal.overflow_add-c-in-loop
overflow_add-c-in-loop c = omega (arith, here c.requires c.loop.invariant.places c.loop.auto.counter c.loop-test.true)

pub loop-preserved : goal.loop-preserved
loop-preserved c =
    let a = c.args in
    let l = c.loop in
    let h = here c.requires l.invariant.places l.auto.counter c.loop-test.true in
    let kids = ap₂ (λ (x y : ℕ). x + y) (c.get_field-x.ensures ∙ h.left_word) (c.get_field-y.ensures ∙ h.right_word) in
    record {
      places = h.next;
      right = sums_next a.deep a.bytes.now (2 ^ a.d) l.counter l.invariant.right (sym (c.get_field.ensures ∙ h.own_word) ∙ c.if-get_field-x.false ∙ kids);
    }

pub returns : goal.returns
returns c = says_yes (λ k lo hi. c.loop.invariant.right k lo (omega (arith, row_end c.requires)))
