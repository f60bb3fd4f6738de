-- The part of the lent buffer that the code hands on: the panel at its start.
use mathlib.Core.Path.{◌≡◌, refl, sym, ap, ◌∙◌, subst}
use mathlib.Core.Logic.{◌≢◌}
use mathlib.Core.List.{List, [], ◌++◌}
use Prim.Native.Nat.{ℕ, zero, suc, ◌≤◌, ◌<◌}
use native.Mathlib.Decide.{dec_lt}
use native.Mathlib.Omega.{arith}
use lib.ListN.{length, get_or, drop, length-take, take-append-drop, get_or-append, get_or-eq_default}
use lib.Seq.{length-take-le, take_at}
use Rattle.bits.specs.Bits.{Bytes}
use Rattle.nodes.specs.Limits.{least_depth, greatest_depth}
use Rattle.panel.specs.Panels.{size_of, Fits, RightLength, leaf_count}
use Rattle.panel.proofs.Lengths.{length_least}
use Rattle.steps.specs.Steps.{panel_in, changed, leaves_in}
use Rattle.steps.specs.Holding.{Holds}

-- ---- the panel at the start of the buffer

-- no bytes have no right length
pub none_right : RightLength [] → ⊥
none_right f = omega (arith, length_least [] f)

module _ (D : ℕ) (b : List ℕ) where
  -- a panel that has as many bytes as its depth says lies inside the buffer
  pub inside : length (panel_in D b) ≡ size_of D → size_of D ≤ length b
  inside e = omega (arith, length-take (size_of D) b)

  -- a buffer that is long enough fits a panel of that depth ..
  pub room : least_depth ≤ D → D ≤ greatest_depth → size_of D ≤ length b → Fits (panel_in D b) D
  room l h e = record { low = l; high = h; long = length-take-le (size_of D) b e }

  -- .. and one that is too short fits none
  pub no_room : length b < size_of D → Fits (panel_in D b) D → ⊥
  no_room h f = omega (arith, inside f.long)

  -- what was put there is there
  pub panel_changed : (t : List ℕ) → length t ≡ size_of D → panel_in D (changed D b t) ≡ t
  panel_changed t e = take_at t (drop (size_of D) b) (size_of D) e

  -- the same bytes put back change nothing
  pub same_changed : (t : List ℕ) → t ≡ panel_in D b → changed D b t ≡ b
  same_changed t e = ap (λ x. x ++ drop (size_of D) b) e ∙ take-append-drop (size_of D) b

pub bytes_front : (xs ys : List ℕ) → Bytes (xs ++ ys) → Bytes xs
bytes_front xs ys h i = go (dec_lt i (length xs))
  where
    go : Dec (i < length xs) → get_or xs i 0 < 256
    go (yes l) = subst (λ x. x < 256) (get_or-append xs ys 0 i l) (h i)
    go (no l) = let e = get_or-eq_default xs 0 (let m : length xs ≤ i = omega arith in m) in omega arith

-- ---- a buffer that holds a good panel

module _ {D : ℕ} {b : List ℕ} (h : Holds D b) (z : D ≢ 0) where
  pub held_fits : Fits (panel_in D b) D
  held_fits = subst (Fits (panel_in D b)) (sym (h.deep z)) (h.good z).fits

  pub held_length : length (panel_in D b) ≡ size_of D
  held_length = held_fits.long

-- ---- the leaves of the open panel

pub leaves_none : (D : ℕ) (b : List ℕ) → D ≡ 0 → leaves_in D b ≡ 0
leaves_none D b e = ap (λ d. leaves_in d b) e

pub leaves_open : (D : ℕ) (b : List ℕ) → D ≢ 0 → leaves_in D b ≡ leaf_count (panel_in D b)
leaves_open zero b z = absurd (z refl)
leaves_open (suc d) b z = refl

-- where there are leaves, a panel is open
pub is_open : (D i : ℕ) (b : List ℕ) → i < leaves_in D b → D ≢ 0
is_open D i b h e = omega (arith, leaves_none D b e, h)

-- the panel put into the buffer is the open one
pub leaves_changed : (D : ℕ) (b t : List ℕ) → D ≢ 0 → length t ≡ size_of D → leaves_in D (changed D b t) ≡ leaf_count t
leaves_changed D b t z e = leaves_open D (changed D b t) z ∙ ap leaf_count (panel_changed D b t e)
