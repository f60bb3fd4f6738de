-- The word is read, met by the one across, and written in its place.
use mathlib.Core.Path.{sym, ap, ◌∙◌, subst}
use Prim.Native.Nat.{ℕ, ◌+◌, ◌-◌, ◌*◌}
use native.Mathlib.Omega.{arith}
use Rattle.bits.specs.Bits.{field}
use Rattle.bits.specs.inner.Puts.{put_field}
use Rattle.cuts.specs.inner.Closing.{CutsDrawn}
use Rattle.closing.specs.inner.Wordwise.{WordDrawn}
use Rattle.closing.proofs.NearWords.{near_place, word_cuts}
use Rattle.closing.proofs.wordwise.draw_word.Goals as goal

pub get_bytes-b-requires : goal.get_bytes-b-requires
get_bytes-b-requires c = omega (arith, c.word_place-i.ensures, near_place c.requires.0 (omega (arith, c.requires.1)) c.requires.2)

pub put_bytes-requires : goal.put_bytes-requires
put_bytes-requires c = omega (arith, c.word_place-i.ensures, near_place c.requires.0 (omega (arith, c.requires.1)) c.requires.2)

pub returns : goal.returns
returns c =
    let a = c.args in
    let bs = a.bytes.now in
    let i = c.word_place-i.ensures in
    subst (CutsDrawn a.deep (16 * a.m.0) (16 * a.m.0 + 16) bs) (ap (λ (x : ℕ). put_field bs (8 * x) 32 c.drawn.result) (sym i) ∙ ap (put_field bs (8 * c.word_place-i.result) 32) (sym c.from.ensures) ∙ sym c.put_bytes.ensures)
    (word_cuts a.deep (a.deep - 5) a.m.0 (omega (arith, c.requires.2)) c.requires.0.high (near_place c.requires.0 (omega (arith, c.requires.1)) c.requires.2).at c.requires.1 bs c.requires.0 c.far_word-y.ensures
    (subst (λ x. WordDrawn x c.far_word-y.result c.drawn.result) (c.get_bytes-b.ensures.value ∙ ap (λ (x : ℕ). field bs (8 * x) 32) i) c.drawn.ensures))
