-- The leaf words are tested one by one, and together they are all.
use native.Mathlib.Omega.{arith}
use borrow.Author.Rules.{rules}
use Rattle.words.specs.Words.{leaf_bit}
use Rattle.words.proofs.Rooms.{blocks}
use Rattle.leafwords.specs.inner.LeafWord.{BlockFollows}
use Rattle.leafwords.proofs.LeafWords.{blocks_all, all_blocks}
use Rattle.tables.proofs.Each.{says_each}
use Rattle.blocks.proofs.blocks_follow.Goals as goal

pub returns : goal.returns
returns c =
    let a = c.args in
    let f = leaf_bit a.deep a.bytes.now in
    let e = blocks c.requires.0 (omega arith) in
    let s = says_each (BlockFollows a.deep f) _ _ _ c.all.result c.all.ensures.ran (λ x q k. search rules) (λ x q k. search rules) in
    record {
      yes = λ t. blocks_all a.deep f (omega arith) (omega arith) (λ j h. s.yes t j (omega arith) (omega (arith, e)));
      no = λ t g. s.no t (λ j l h. all_blocks a.deep f (omega arith) (omega arith) g j (omega (arith, e)));
    }
