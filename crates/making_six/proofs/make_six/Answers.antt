-- Six puts apart from one another and from the leaf bits, and what each puts is a row of sums over 64 leaf bits.
use mathlib.Core.Path.{refl, subst⁻¹}
use Rattle.bits.proofs.Puts.{puts_are}
use Rattle.sums.specs.inner.Rows.{SixMade}
use Rattle.sums.proofs.LowSix.{six_puts, six_made}
use Rattle.making_six.proofs.make_six.Goals as goal

pub returns : goal.returns
returns c =
    let a = c.args in
    let s = c.six_rows-s.result in
    let e = puts_are a.bytes.now (six_puts a.m a.j s.twos s.fours s.eights s.sixteens s.halves s.all) _
    (_, (c.put_bytes.ensures, (_, (c.put_bytes-2.ensures, (_, (c.put_bytes-3.ensures, (_, (c.put_field.ensures, (_, (c.put_field-2.ensures, (_, (c.put_field-3.ensures, refl)))))))))))) in
    subst⁻¹ (SixMade a.m a.j a.bytes.now) e (six_made c.six_rows-s.ensures a.m a.j a.bytes.now c.requires.0 c.requires.2 c.get_bytes.ensures.value)
