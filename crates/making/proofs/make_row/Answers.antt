-- Each turn makes one word more of the row the sum of its children's words, which stand in the next row and do not change.
use mathlib.Core.List.{List}
use mathlib.Core.Path.{◌≡◌, ap₂, ◌∙◌}
use Prim.Native.Nat.{ℕ, ◌+◌, ◌-◌, ◌*◌, ◌%◌, ◌^◌, ◌≤◌, ◌<◌}
use native.Mathlib.Omega.{arith}
use lib.Pow.{pow_pos}
use Rattle.bits.proofs.Laws.{field_lt}
use Rattle.nodes.proofs.Depths.{pow_next}
use Rattle.words.specs.inner.Working.{put_word, Room}
use Rattle.words.proofs.Rooms.{room_same}
use Rattle.sums.specs.inner.Rows.{Made}
use Rattle.sums.proofs.Rows.{Running, Here, running_first, row_first, row_end, here}
use Rattle.sums.proofs.Steps.{sum_of, made_none, made_step}
use Rattle.making.proofs.make_row.Goals as goal

-- a turn's places, in bytes that are as long as at first
known : {D d k p c : ℕ} {xs ys : List ℕ} → Room D xs × (d < D) → Made D (2 ^ d) k xs ys → Running D k p c
    → 1 * 2 ^ d % 2 ^ 64 ≤ k → k < 2 * 2 ^ d % 2 ^ 64 → Here D d k p c ys (D - d)
known given made = here (room_same made.long given.0, given.1)

pub loop-init : goal.loop-init
loop-init c =
    record { places = running_first c.requires c.row_start-p.ensures c.row_start-c.ensures; made = made_none c.args.deep (2 ^ c.args.d) _ c.args.bytes.now (row_first c.requires) }

pub get_field-x-requires : goal.get_field-x-requires
get_field-x-requires c = omega (arith, known c.requires c.loop.invariant.made c.loop.invariant.places c.loop.auto.counter c.loop-test.true)

pub overflow_add-c : goal.overflow_add-c
overflow_add-c c = omega (arith, known c.requires c.loop.invariant.made c.loop.invariant.places c.loop.auto.counter c.loop-test.true)

pub get_field-y-requires : goal.get_field-y-requires
get_field-y-requires c = omega (arith, known c.requires c.loop.invariant.made c.loop.invariant.places c.loop.auto.counter c.loop-test.true)

pub overflow_add-x : goal.overflow_add-x
overflow_add-x c = omega (arith, known c.requires c.loop.invariant.made c.loop.invariant.places c.loop.auto.counter c.loop-test.true, field_lt)

pub put_field-requires : goal.put_field-requires
put_field-requires c = omega (arith, known c.requires c.loop.invariant.made c.loop.invariant.places c.loop.auto.counter c.loop-test.true, field_lt)

pub overflow_add-p-in-loop : goal.overflow_add-p-in-loop
overflow_add-p-in-loop c = omega (arith, known c.requires c.loop.invariant.made c.loop.invariant.places c.loop.auto.counter c.loop-test.true)

pub overflow_add-c-in-loop : goal.overflow_add-c-in-loop
overflow_add-c-in-loop c = omega (arith, known c.requires c.loop.invariant.made c.loop.invariant.places c.loop.auto.counter c.loop-test.true)

pub loop-preserved : goal.loop-preserved
loop-preserved c =
    let a = c.args in
    let l = c.loop in
    let h = known c.requires c.loop.invariant.made c.loop.invariant.places c.loop.auto.counter c.loop-test.true in
    let e : c.put_field.new.bytes ≡ put_word a.deep l.bytes l.counter (sum_of a.deep l.bytes l.counter) =
    c.put_field.ensures ∙ h.own_put _
    ∙ ap₂ (λ (x y : ℕ). put_word a.deep l.bytes l.counter (x + y)) (c.get_field-x.ensures ∙ h.left_word) (c.get_field-y.ensures ∙ h.right_word) in
    record { places = h.next; made = rw e (made_step (pow_pos a.d) h.low (omega (arith, h.high, pow_next a.d)) h.node (omega arith) l.invariant.made) }

pub returns : goal.returns
returns c =
    let e : c.loop.counter ≡ 2 ^ (c.args.d + 1) = omega (arith, row_first c.requires, row_end c.requires, pow_next c.args.d) in
    rw e at c.loop.invariant.made
