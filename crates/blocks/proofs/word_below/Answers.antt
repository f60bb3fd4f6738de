-- The leaf bits begin at bit 3 * 2 ^ D, so the word below q = 2 ^ (D - 6) + j starts at byte 16 * 2 ^ (D - 6) + 8 q.
use mathlib.Core.Path.{ap, ◌∙◌, subst⁻¹}
use Prim.Native.Nat.{◌+◌, ◌*◌}
use native.Mathlib.Omega.{arith}
use Rattle.bits.specs.Bits.{field}
use Rattle.words.specs.Words.{leaf_bit}
use Rattle.cuts.specs.Cuts.{Cut}
use Rattle.leafwords.specs.inner.LeafWord.{CutWord}
use Rattle.leafwords.proofs.LeafWords.{below, cut_word}
use Rattle.blocks.proofs.word_below.Goals as goal

pub get_bytes-requires : goal.get_bytes-requires
get_bytes-requires c = omega (arith, below c.requires.0 c.requires.1 c.requires.2)

pub returns : goal.returns
returns c =
    let a = c.args in
    let b = below c.requires.0 c.requires.1 c.requires.2 in
    subst⁻¹ (CutWord (Cut a.deep (leaf_bit a.deep a.bytes.now)) a.q.0) (c.get_bytes.ensures.value ∙ ap (λ x. field a.bytes.now (8 * (x + 8 * a.q.0)) 64) b.is)
    (cut_word a.deep _ (omega arith) (omega arith) a.bytes.now a.q.0 b.at)
