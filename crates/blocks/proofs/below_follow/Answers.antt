-- What the parts of the test say of the word is all that a good set of cuts asks of the nodes it names.
use Prim.Native.Nat.{ℕ, ◌+◌, ◌*◌, ◌/◌, ◌≤◌}
use mathlib.Core.Path.{◌≡◌}
use native.Mathlib.Omega.{arith}
use borrow.Author.Rules.{rules}
use Rattle.bits.specs.Bits.{digit}
use Rattle.tables.specs.inner.Says.{Says}
use Rattle.tables.proofs.Tables.{says_yes, says_no}
use Rattle.words.specs.Words.{leaf_bit}
use Rattle.cuts.specs.Cuts.{Cut}
use Rattle.leafwords.specs.inner.LeafWord.{CutWord, ParentsBeside, InnerSame, TopSame, SidesFollow, BelowFollow}
use Rattle.leafwords.proofs.Crossing.{across, levels}
use Rattle.leafwords.proofs.LeafWords.{none_follow, parents_up, up_parents, inner_up, up_inner, top_up, up_top, outer_whole, half_across, below_follow, ups, all_both, top_both, outer_at}
use Rattle.blocks.proofs.below_follow.Goals as goal
use Rattle.blocks.proofs.below_follow.Goals.{then-top_same, else-top_same}

-- what is tested of the word and of q's parent
abbrev Within : (ℕ → Type 0) → ℕ → ℕ → Type 0
Within P q b = ParentsBeside b × InnerSame b × TopSame b × (digit b 32 ≡ 1 → P (q / 2))

module _ (D : ℕ) (f : ℕ → ℕ) {q b : ℕ} (w : CutWord (Cut D f) q b) (low : 2 ≤ q) where
  follow : Within (Cut D f) q b → SidesFollow (Cut D f) q → BelowFollow (Cut D f) q
  follow p o =
      let in' = inner_up w p.1 in
      let top = top_up w p.2 in
      below_follow _ q (parents_up w p.0) (λ _ c. p.3 ((outer_whole w).own.0 c))
      (levels _ q (across _ q low o.own top (λ r h. in'.middle 2 (omega arith) (omega arith) r h)) (half_across _ q (omega arith) in' (2 * q) (omega arith) o.left) (half_across _ q (omega arith) in' (2 * q + 1) (omega arith) o.right))

  within : BelowFollow (Cut D f) q → Within (Cut D f) q b
  within f = (
    up_parents w (ups _ _ (omega arith) f),
    up_inner w (all_both _ _ (omega arith) f),
    up_top w (top_both _ _ (omega arith) f low),
    λ x. (f 0 _ (omega arith) (omega arith) ((outer_whole w).own.1 x)).up low,
  )

  sides : BelowFollow (Cut D f) q → SidesFollow (Cut D f) q
  sides f = record {
    own = outer_at _ _ (omega arith) f 0 q (omega arith) (omega arith) low;
    left = outer_at _ _ (omega arith) f 1 (2 * q) (omega arith) (omega arith) (omega arith);
    right = outer_at _ _ (omega arith) f 1 (2 * q + 1) (omega arith) (omega arith) (omega arith);
  }

pub returns-then-b-lt2 : goal.returns-then-b-lt2
returns-then-b-lt2 c = says_yes (none_follow c.word_below-b.ensures c.if-b-lt2.true)

pub returns-then-parent_cut : goal.returns-then-parent_cut
returns-then-parent_cut c =
    let a = c.args in
    let f = leaf_bit a.deep a.bytes.now in
    let b = c.word_below-b.result in
    let s1 : Says (ParentsBeside b × InnerSame b) c.if-parents_beside.value = search rules in
    let s2 : Says (ParentsBeside b × InnerSame b × TopSame b) c.if-inner_same.value = search rules in
    let p : Within (Cut a.deep f) a.q.0 b = elim c.if-top_same.branch [
      | then-top_same w ↦ let i = s2.yes w.if-top_same.true in (i.0, i.1, i.2, w.parent_cut.ensures.yes (cc))
      | else-top_same w ↦ cc
    ] in
    let s = c.sides_follow.ensures in
    record {
      yes = λ t. follow a.deep f c.word_below-b.ensures c.requires.1 p (s.yes t);
      no = λ t g. s.no t (sides a.deep f c.word_below-b.ensures c.requires.1 g);
    }

pub returns-else-parent_cut : goal.returns-else-parent_cut
returns-else-parent_cut c =
    let a = c.args in
    let f = leaf_bit a.deep a.bytes.now in
    let b = c.word_below-b.result in
    let s1 : Says (ParentsBeside b × InnerSame b) c.if-parents_beside.value = search rules in
    let s2 : Says (ParentsBeside b × InnerSame b × TopSame b) c.if-inner_same.value = search rules in
    let s3 : Says (Within (Cut a.deep f) a.q.0 b) c.if-top_same.value = search rules in
    rw c.if-parent_cut.false (says_no (λ g. s3.no c.if-parent_cut.false (within a.deep f c.word_below-b.ensures c.requires.1 g)))
