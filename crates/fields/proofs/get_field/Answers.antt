-- The window holds the field, so the number above it shifted down and cut to w digits is the field's.
use native.Mathlib.Omega.{arith}
use mathlib.Core.Path.{sym, ap₂, ◌∙◌}
use Prim.Native.Nat.{ℕ, ◌-◌, ◌*◌, ◌/◌, ◌%◌, ◌^◌}
use Rattle.bits.proofs.Laws.{one_shl}
use Rattle.bits.proofs.Windows.{field_window}
use Rattle.fields.proofs.get_field.Goals as goal

pub overflow_shr-result : goal.overflow_shr-result
overflow_shr-result c = omega (arith, c.place-i.ensures.high c.args.w (omega arith) (omega arith))

pub returns : goal.returns
returns c =
    let a = c.args in
    let i = c.place-i.result in
    ap₂ (λ (x y : ℕ). x / 2 ^ (a.s - 8 * i) % y) c.get_bytes-n.ensures.value (one_shl a.w 32 (omega arith))
    ∙ sym (field_window a.bytes.now a.s a.w (8 * i) 32 c.place-i.ensures.low (c.place-i.ensures.high a.w (omega arith) (omega arith)))
