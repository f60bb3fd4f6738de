-- The window holds the field, so storing the window with w digits replaced is putting the field.
use mathlib.Core.Path.{ap, ◌∙◌, subst⁻¹}
use Prim.Native.Nat.{ℕ, ◌+◌, ◌-◌, ◌*◌, ◌≤◌, ◌<◌}
use native.Mathlib.Omega.{arith}
use lib.Pow.{pow_pos}
use borrow.Author.Rules.{rules}
use Rattle.bits.specs.inner.Puts.{put_field}
use Rattle.bits.proofs.Laws.{one_shl}
use Rattle.bits.proofs.Windows.{with_field, put_window, placed}
use Rattle.fields.proofs.put_field.Goals.{After-get_bytes-n}
use Rattle.fields.proofs.put_field.Goals as goal

-- the window holds the field
ends : (c : After-get_bytes-n) → c.args.s + c.args.w ≤ 8 * c.place-i.result + 32
ends c = c.place-i.ensures.high c.args.w (omega arith) (omega arith)

pub overflow_shl-low : goal.overflow_shl-low
overflow_shl-low c = omega (arith, ends (goal.at.overflow_shl-low c).After-get_bytes-n)

pub nonzero_rem-low : goal.nonzero_rem-low
nonzero_rem-low c = let k = c.args.s - 8 * c.place-i.result in subst⁻¹ (λ (x : ℕ). 0 < x) (one_shl k 32 (omega (arith, ends (goal.at.nonzero_rem-low c).After-get_bytes-n))) (pow_pos k)

pub overflow_shr-high : goal.overflow_shr-high
overflow_shr-high c = omega (arith, ends (goal.at.overflow_shr-high c).After-get_bytes-n)

pub overflow_shl-high-2 : goal.overflow_shl-high-2
overflow_shl-high-2 c = omega (arith, ends (goal.at.overflow_shl-high-2 c).After-get_bytes-n)

pub returns : goal.returns
returns c =
    let a = c.args in
    let i = c.place-i.result in
    let k = a.s - 8 * i in
    let n = c.get_bytes-n in
    let h = ends (goal.at.returns c).After-get_bytes-n in
    c.put_bytes.ensures
    ∙ ap (put_field a.bytes.now (8 * i) 32)
    (c.from.ensures ∙ placed n.result k a.w a.v n.ensures.fits (omega (arith, h)) (omega (arith, h, c.place-i.ensures.low)) (search rules)
    ∙ ap (λ (x : ℕ). with_field x k a.w a.v) n.ensures.value)
    ∙ put_window a.bytes.now (λ j. search rules) a.s a.w a.v (8 * i) 32 (search rules) c.place-i.ensures.low h (omega (arith, c.place-i.ensures.inside))
