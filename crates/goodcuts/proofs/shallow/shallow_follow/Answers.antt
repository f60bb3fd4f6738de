-- What the word's parts ask of each other is all that a good set of cuts asks; where node 1 alone is cut, that is nothing.
use mathlib.Core.Path.{sym, ap, ◌∙◌, subst⁻¹}
use Prim.Native.Nat.{◌-◌, ◌*◌, ◌/◌, ◌^◌, ◌<◌}
use native.Mathlib.Omega.{arith}
use Rattle.bits.specs.Bits.{digit}
use Rattle.bits.proofs.Laws.{field_lt}
use Rattle.tables.proofs.Tables.{says_yes}
use Rattle.words.specs.Words.{leaf_bit}
use Rattle.bits.specs.inner.Abreast.{abreast}
use Rattle.cuts.specs.Cuts.{Cut}
use Rattle.leafwords.specs.inner.LeafWord.{CutWord}
use Rattle.leafwords.proofs.LeafWords.{root_all, all_root}
use Rattle.goodcuts.proofs.Spreading.{root_names, alone, alone_follows}
use Rattle.goodcuts.proofs.shallow.shallow_follow.Goals as goal

pub overflow_shl-deep-2 : goal.overflow_shl-deep-2
overflow_shl-deep-2 c = omega (arith, alone c.requires.1)

pub returns-then-x-deep : goal.returns-then-x-deep
returns-then-x-deep c =
    let a = c.args in
    says_yes (alone_follows a.deep c.requires.0.low c.requires.1 a.bytes.now (ap (λ x. x / 2) (sym c.leaves_of-x.ensures) ∙ c.if-x-deep.true ∙ (alone c.requires.1).is))

pub spread-requires : goal.spread-requires
spread-requires c =
    let a = c.args in
    (c.requires.1, subst⁻¹ (λ x. x < 2 ^ 2 ^ a.deep) c.leaves_of-x.ensures (field_lt a.bytes.now (3 * 2 ^ a.deep) (2 ^ a.deep)))

pub returns : goal.returns
returns c =
    let a = c.args in
    let l = c.requires.1 in
    let w = subst⁻¹ (CutWord (Cut a.deep (leaf_bit a.deep a.bytes.now)) 1)
    (c.spread.ensures ∙ ap (λ x. abreast (2 ^ a.deep) (2 ^ (6 - a.deep)) (digit x)) c.leaves_of-x.ensures)
    (root_names a.deep l a.bytes.now) in
    let r = c.root_follows.ensures in
    record { yes = λ t. root_all _ _ l w (r.yes t); no = λ t all. r.no t (all_root _ _ l w all) }
