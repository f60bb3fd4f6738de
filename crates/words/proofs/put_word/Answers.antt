-- What is written where the word lies is the field that a word is.
use mathlib.Core.Path.{ap₂, ◌∙◌, subst⁻¹}
use Prim.Native.Nat.{ℕ, ◌^◌, ◌<◌}
use native.Mathlib.Omega.{arith}
use Rattle.bits.specs.inner.Puts.{put_field}
use Rattle.words.specs.inner.Working.{put_word}
use Rattle.words.proofs.Rooms.{word_inside}
use Rattle.words.proofs.put_word.Goals as goal

pub put_field-requires : goal.put_field-requires
put_field-requires c =
    let i = word_inside c.requires.0 c.requires.1 in
    let s = c.slot-start.ensures in
    (i.bytes, omega (arith, i, s), omega (arith, i, s), omega (arith, i, s), subst⁻¹ (λ (x : ℕ). c.args.v < 2 ^ x) s.width c.requires.2)

pub returns : goal.returns
unfolding put_word
returns c = c.put_field.ensures ∙ ap₂ (λ (x y : ℕ). put_field c.args.bytes.now x y c.args.v) c.slot-start.ensures.start c.slot-start.ensures.width
