-- The bit that names the node says whether it is cut, so it is what the count gains; below the node one level less is left.
use mathlib.Core.Path.{refl, subst, subst⁻¹}
use Prim.Native.Nat.{ℕ, ◌+◌, ◌-◌, ◌^◌, ◌≤◌, ◌<◌}
use native.Mathlib.Omega.{arith}
use lib.Bits.{and_le_r}
use lib.Pow.{pow_mono, pow-add}
use Rattle.panel.specs.Panels.{deep_of}
use Rattle.panel.proofs.Lengths.{fits_small, good_room}
use Rattle.descents.specs.inner.Descents.{Passed}
use Rattle.descents.proofs.Downward.{inside, back, passed_bit, named_next}
use Rattle.descents.proofs.+cuts_toward.Goals as goal

pub get_bit-requires : goal.get_bit-requires
get_bit-requires t c =
    let p = c.requires in
    let o : 1 ≤ c.args.left = omega (arith, p.1, p.2) in
    omega (arith, inside p.0 p.3 o p.4, (good_room _ p.0 refl).long, pow-add 2 (deep_of c.args.panel.now.now) 2)

pub overflow_add-cut : goal.overflow_add-cut
overflow_add-cut t c =
    let p = c.requires in
    let o : 1 ≤ c.args.left = omega (arith, p.1, p.2) in
    omega (arith, (subst⁻¹ (λ (x : ℕ). Passed c.args.panel.now.now (c.args.left - 1) c.args.n.0 (c.args.before + x)) c.get_bit.ensures (passed_bit p.0 p.3 o p.4)).most, fits_small p.0.fits)

pub returns-then-left-last : goal.returns-then-left-last
returns-then-left-last t c =
    let p = c.requires in
    let o : 1 ≤ c.args.left = omega (arith, p.1, p.2) in
    subst (λ (x : ℕ). Passed c.args.panel.now.now (x - 1) c.args.n.0 (c.args.before + c.get_bit.result)) c.if-left-last.true
    (subst⁻¹ (λ (x : ℕ). Passed c.args.panel.now.now (c.args.left - 1) c.args.n.0 (c.args.before + x)) c.get_bit.ensures (passed_bit p.0 p.3 o p.4))

pub overflow_add-at : goal.overflow_add-at
overflow_add-at t c =
    let p = c.requires in
    let o : 1 ≤ c.args.left = omega (arith, p.1, p.2) in
    let b = back p.0 p.3 o p.4 in
    let f : c.args.at + c.args.half < 2 ^ 20 = omega (arith, b, inside p.0 p.3 o p.4, pow_mono (fits_small p.0.fits)) in
    omega (arith, f, and_le_r c.args.n.0 c.args.half)

pub overflow_sub-at : goal.overflow_sub-at
overflow_sub-at t c =
    let p = c.requires in
    let o : 1 ≤ c.args.left = omega (arith, p.1, p.2) in
    let b = back p.0 p.3 o p.4 in
    let f : c.args.at + c.args.half < 2 ^ 20 = omega (arith, b, inside p.0 p.3 o p.4, pow_mono (fits_small p.0.fits)) in
    omega (arith, b)

pub cuts_toward-requires : goal.cuts_toward-requires
cuts_toward-requires t c =
    let p = c.requires in
    let o : 1 ≤ c.args.left = omega (arith, p.1, p.2) in
    (omega (arith, c.decreases, o), (p.0, p.1, omega (arith, p.2, c.if-left-last.false), subst⁻¹ (λ (x : ℕ). Passed c.args.panel.now.now (c.args.left - 1) c.args.n.0 (c.args.before + x)) c.get_bit.ensures (passed_bit p.0 p.3 o p.4), named_next p.0 p.3 o p.4 (omega (arith, p.1, p.2, c.if-left-last.false))))
