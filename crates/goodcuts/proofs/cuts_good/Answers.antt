-- Cuts are good where node 1 is cut and all places follow.
use Prim.Native.Nat.{ℕ}
use mathlib.Core.Bool.{Bool}
use native.Mathlib.Omega.{arith}
use lib.Pow.{pow_mono}
use Rattle.tables.specs.inner.Says.{Says}
use Rattle.nodes.proofs.Depths.{pow_next}
use Rattle.cuts.specs.Cuts.{Cut, GoodCuts}
use Rattle.cuts.specs.inner.Steps.{AllFollow}
use Rattle.cuts.proofs.Following.{follows_good}
use Rattle.leafwords.proofs.LeafWords.{good_all}
use Rattle.goodcuts.proofs.cuts_good.Goals as goal

says_good : {D : ℕ} {f : ℕ → ℕ} {r : Bool} → Cut D f 1 → Says (AllFollow D f) r → Says (GoodCuts (Cut D f)) r
says_good root s = record {
  yes = λ t. follows_good _ _ root (λ p l h. s.yes t p h l);
  no = λ t g. s.no t (good_all g);
}

pub is_cut-requires : goal.is_cut-requires
is_cut-requires c =
    (c.requires, record { low = omega arith; high = omega (arith, pow_next c.args.deep, pow_mono {i = 3} {j = c.args.deep} c.requires.low) })

pub returns-then-deep-lt7 : goal.returns-then-deep-lt7
returns-then-deep-lt7 c = says_good (c.is_cut.ensures.yes c.if-not-is_cut.false) c.shallow_follow.ensures

pub returns-else-deep-lt7 : goal.returns-else-deep-lt7
returns-else-deep-lt7 c = says_good (c.is_cut.ensures.yes c.if-not-is_cut.false) c.blocks_follow.ensures
