-- Three puts apart from one another and from the leaf bits, and what each puts is a row of sums over one leaf byte.
use mathlib.Core.Path.{refl, ap, ◌∙◌, subst⁻¹}
use Prim.Native.Nat.{◌+◌, ◌*◌}
use Rattle.bits.specs.inner.Puts.{put_field}
use Rattle.bits.proofs.Puts.{puts_are}
use Rattle.sums.specs.inner.Rows.{SevenMade}
use Rattle.sums.proofs.LowThree.{seven_puts, seven_made}
use Rattle.making.proofs.make_seven.Goals as goal

pub returns : goal.returns
returns c =
    let a = c.args in
    let e = puts_are a.bytes.now (seven_puts a.m a.i c.seven-s.result) _ (_, (c.put_bytes.ensures ∙ ap (put_field a.bytes.now (8 * (2 * a.m + a.i)) 8) c.from.ensures, (_, (c.put_field.ensures, (_, (c.put_field-2.ensures, refl)))))) in
    subst⁻¹ (SevenMade a.m a.i a.bytes.now) e (seven_made c.seven-s.ensures a.m a.i a.bytes.now c.requires.0 c.requires.2 c.get_bytes.ensures.value)
