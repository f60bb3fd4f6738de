-- The window holds the field, so storing the window with so much more and less at the field's lowest digit is putting the field so changed.
use mathlib.Core.Path.{◌≡◌, sym, ap, ap₂, ◌∙◌}
use Prim.Native.Nat.{ℕ, ◌+◌, ◌-◌, ◌*◌, ◌/◌, ◌%◌, ◌^◌}
use native.Mathlib.Omega.{arith}
use Rattle.bits.specs.Bits.{field}
use Rattle.bits.specs.inner.Puts.{put_field}
use Rattle.bits.proofs.Windows.{with_field, field_window, put_window, Moved, moved}
use borrow.Author.Rules.{rules}
use Rattle.fields.proofs.move_field.Goals.{After-get_bytes-n}
use Rattle.fields.proofs.move_field.Goals as goal

-- the number in the field
got : (c : After-get_bytes-n) → let a = c.args in field a.bytes.now a.s a.w ≡ c.get_bytes-n.result / 2 ^ (a.s - 8 * (a.s / 8)) % 2 ^ a.w
got c =
    let a = c.args in
    field_window a.bytes.now a.s a.w (8 * (a.s / 8)) 32 (omega arith) (omega arith)
    ∙ ap (λ (x : ℕ). x / 2 ^ (a.s - 8 * (a.s / 8)) % 2 ^ a.w) (sym c.get_bytes-n.ensures.value)

-- and what becomes of it
change : (c : After-get_bytes-n) → let a = c.args in Moved c.get_bytes-n.result (a.s - 8 * (a.s / 8)) a.w a.up a.down
change c =
    let a = c.args in
    moved c.get_bytes-n.result (a.s - 8 * (a.s / 8)) a.w a.up a.down c.get_bytes-n.ensures.fits (omega arith) (omega arith) (omega (arith, got c, c.requires.3)) (omega (arith, got c, c.requires.4))

pub overflow_add-n : goal.overflow_add-n
overflow_add-n c = record { fits = (change (goal.at.overflow_add-n c).After-get_bytes-n).fits }

pub overflow_sub-n : goal.overflow_sub-n
overflow_sub-n c = (change (goal.at.overflow_sub-n c).After-get_bytes-n).takes

pub returns : goal.returns
returns c =
    let a = c.args in
    let k = a.s - 8 * (a.s / 8) in
    let v = field a.bytes.now a.s a.w + a.up - a.down in
    let b = (goal.at.returns c).After-get_bytes-n in
    c.put_bytes.ensures
    ∙ ap (put_field a.bytes.now (8 * (a.s / 8)) 32)
    (c.from.ensures ∙ (change b).is ∙ ap₂ (λ (x y : ℕ). with_field x k a.w (y + a.up - a.down)) c.get_bytes-n.ensures.value (sym (got b)))
    ∙ put_window a.bytes.now (λ j. search rules) a.s a.w v (8 * (a.s / 8)) 32 (omega arith) (omega arith) (omega arith) (omega arith)
