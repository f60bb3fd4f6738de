-- What is read where the word lies is the field that a word is.
use mathlib.Core.Path.{ap₂, ◌∙◌}
use native.Mathlib.Omega.{arith}
use Rattle.bits.specs.Bits.{field}
use Rattle.words.specs.Words.{word}
use Rattle.words.proofs.Rooms.{word_inside}
use Rattle.words.proofs.get_word.Goals as goal

pub get_field-requires : goal.get_field-requires
get_field-requires c = omega (arith, word_inside c.requires.0 c.requires.1, c.slot-start.ensures)

pub returns : goal.returns
unfolding word
returns c = c.get_field.ensures ∙ ap₂ (field c.args.bytes.now) c.slot-start.ensures.start c.slot-start.ensures.width
