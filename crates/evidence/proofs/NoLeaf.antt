-- Why a node is no leaf: in range and not a leaf is exactly one of two, the node is itself cut or an ancestor is the leaf; and 4 and 10 say which.
use mathlib.Core.Path.{◌≡◌}
use mathlib.Core.Logic.{◌⊎◌, inl, inr, ◌↔◌}
use mathlib.Core.List.{List, ◌++◌}
use Prim.Native.Nat.{ℕ}
use Rattle.tables.specs.Table.{Row, Answers}
use Rattle.tables.proofs.Exactness.{Differing, refused_exactly}
use Rattle.cuts.specs.Cuts.{LeafAbove}
use Rattle.cuts.proofs.Covering.{above_once, above_no_leaf, above_no_cut}
use Rattle.panel.specs.Panels.{CutOf, Good, InRange, LeafOf, BelowLeaf}
use Rattle.panel.specs.Calls.{leaf_rows}
use Rattle.panel.proofs.GoodPanels.{dec_cuts, one_of_three}

-- what holds of a node in range of a good panel: cut and below a leaf exclude each other, together they are "not a leaf", and there is one leaf above
pub record WhyNoLeaf (s : List ℕ) (k : ℕ) : Type 0 where
  pub apart : CutOf s k → BelowLeaf s k → ⊥
  pub either : (LeafOf s k → ⊥) ↔ (CutOf s k ⊎ BelowLeaf s k)
  pub one : (a b : ℕ) → LeafAbove (CutOf s) k a → LeafAbove (CutOf s) k b → a ≡ b

pub why_no_leaf : (s : List ℕ) → Good s → (k : ℕ) → InRange s k → WhyNoLeaf s k
why_no_leaf s G k R = record {
  apart = λ c b. above_no_cut G.cuts b.1 c;
  either = (λ h. left h (one_of_three s G k R.low), right);
  one = λ a b x y. above_once x y;
}
  where
    left : (LeafOf s k → ⊥) → LeafOf s k ⊎ (CutOf s k ⊎ BelowLeaf s k) → CutOf s k ⊎ BelowLeaf s k
    left h (inl l) = absurd (h l)
    left h (inr x) = x

    right : CutOf s k ⊎ BelowLeaf s k → LeafOf s k → ⊥
    right (inl c) l = l.uncut c
    right (inr b) l = above_no_leaf b.1 l

-- ---- what a call that takes leaf k answers, whatever rows stand behind those of a leaf

-- 4 exactly where k is in range and itself cut, 10 exactly where an ancestor is the leaf
pub record SaysWhy (s : List ℕ) (k n : ℕ) : Type 0 where
  pub cut : (n ≡ 4) ↔ (Good s × InRange s k × CutOf s k)
  pub below : (n ≡ 10) ↔ (Good s × InRange s k × BelowLeaf s k)

-- as refusals are exact: that k is not uncut says that it is cut, and in range a node that is neither a leaf nor cut lies below a leaf
module _ {s : List ℕ} {k : ℕ} (G : Good s) where
  cut_sure : ((CutOf s k → ⊥) → ⊥) → CutOf s k
  cut_sure f = go (dec_cuts G k)
    where
      go : Dec (CutOf s k) → CutOf s k
      go (yes c) = c
      go (no u) = absurd (f u)

  below_sure : InRange s k → (CutOf s k → ⊥) → ((BelowLeaf s k → ⊥) → ⊥) → BelowLeaf s k
  below_sure r u f = go (one_of_three s G k r.low)
    where
      go : LeafOf s k ⊎ (CutOf s k ⊎ BelowLeaf s k) → BelowLeaf s k
      go (inl l) = absurd (f (λ b. above_no_leaf b.1 l))
      go (inr (inl c)) = absurd (u c)
      go (inr (inr b)) = b

pub says_why : {s : List ℕ} {k n : ℕ} (more : List Row) → Differing (leaf_rows s k ++ more) → Answers (leaf_rows s k ++ more) n → SaysWhy s k n
says_why {s} {k} {n} more d a =
    let x = (refused_exactly (leaf_rows s k ++ more) n d a).1.1.1 in
    let cut = x.0 in
    let below = x.1.0 in
    record {
      cut = (λ e. let (((_, g), r), f) = cut.0 e in (g, r, cut_sure g f), λ (g, r, c). cut.1 ((((tt, g.fits), g), r), λ u. u c));
      below = (
        λ e. let ((((_, g), r), u), f) = below.0 e in (g, r, below_sure g r u f),
        λ (g, r, b). below.1 (((((tt, g.fits), g), r), above_no_cut g.cuts b.1), λ u. u b),
      );
    }
