-- Numbers name leaves: 0 to the count less 1, and no others, each leaf once, left to right; and number_of and leaf_at undo each other.
use mathlib.Core.Path.{◌≡◌, refl, sym, subst}
use mathlib.Core.Logic.{◌↔◌}
use mathlib.Core.List.{List, [], ◌∷◌}
use Prim.Native.Nat.{ℕ, ◌<◌}
use Rattle.tables.specs.Table.{unless}
use Rattle.tables.proofs.Tables.{is_done}
use Rattle.cuts.specs.Cuts.{place_of}
use Rattle.panel.specs.Panels.{deep_of, Good, LeafOf, number_in, leaf_count}
use Rattle.panel.specs.Calls.{LeafNumbered, LeafAt, NumberOf}
use Rattle.panel.proofs.GoodPanels.{number_lt, number_leaf, number_once, number_order}
use Rattle.panel.proofs.LeafRows.{is_leaf, is_number, good_past, leaf_past}

-- numbers 0 to count - 1, and no others, name every leaf once, left to right
pub record NumbersName (s : List ℕ) : Type 0 where
  pub of_leaf : (k : ℕ) → LeafOf s k → number_in s k < leaf_count s
  pub leaf_of : (i : ℕ) → i < leaf_count s → (k : ℕ) × LeafNumbered s i k
  pub once : (i k m : ℕ) → LeafNumbered s i k → LeafNumbered s i m → k ≡ m
  pub in_order : (k m : ℕ) → LeafOf s k → LeafOf s m → (place_of (deep_of s) k < place_of (deep_of s) m) ↔ (number_in s k < number_in s m)

pub numbers_name : (s : List ℕ) → Good s → NumbersName s
numbers_name s G = record { of_leaf = number_lt s G; leaf_of = number_leaf s G; once = number_once s G; in_order = number_order s G }

-- number_of undoes leaf_at ..
pub number_of_leaf_at : (s : List ℕ) (i k : ℕ) → LeafAt s i 0 k → NumberOf s k 0 i
number_of_leaf_at s i k x =
    let g = (good_past (unless 8 (i < leaf_count s) ∷ []) x.answer).0 in
    let l = x.done refl in
    is_done (is_leaf g [] l.leaf refl) (sym l.number)

-- .. and leaf_at undoes number_of
pub leaf_at_number_of : (s : List ℕ) (k i : ℕ) → NumberOf s k 0 i → LeafAt s i 0 k
leaf_at_number_of s k i y =
    let (g, l, _) = leaf_past [] y.answer in
    let e = y.done refl in
    is_done (is_number g (subst (λ x. x < leaf_count s) (sym e) (number_lt s g k l))) (record { leaf = l; number = sym e })
