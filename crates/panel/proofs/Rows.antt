-- The rows of the panel calls' tables, as a `return` proves them: the judgement's own, and those behind it.
use mathlib.Core.Path.{refl}
use mathlib.Core.Logic.{◌≢◌, inl, inr}
use mathlib.Core.List.{List, ◌++◌}
use Prim.Native.Nat.{ℕ}
use native.Mathlib.Omega.{arith}
use Rattle.tables.specs.Table.{Row, Answers}
use Rattle.tables.proofs.Exactness.{Without, answers_among}
use Rattle.panel.specs.Panels.{RightLength, Good}
use Rattle.panel.specs.Calls.{panel_rows, Judged}

pub wrong_length : {s : List ℕ} → (RightLength s → ⊥) → Judged s 1
wrong_length f = inl (f, refl)

pub not_good : {s : List ℕ} → RightLength s → (Good s → ⊥) → Judged s 2
not_good l f = inr (l, inl (f, refl))

pub is_good : {s : List ℕ} → Good s → Judged s 0
is_good g = inr (g.fits, inr (g, refl))

-- past it the rows behind decide
pub behind : {s : List ℕ} (rows : List Row) {n : ℕ} → Good s → Answers rows n → Answers (panel_rows s ++ rows) n
behind rows g a = inr (g.fits, inr (g, a))

-- on a good panel none answers 1 or 2
pub past_judge : {s : List ℕ} {n : ℕ} (rows : List Row) → Good s → Without 1 rows → Without 2 rows → Answers (panel_rows s ++ rows) n → (n ≢ 1) × (n ≢ 2)
past_judge rows g v w (inl p) = absurd (p.0 g.fits)
past_judge rows g v w (inr (_, inl p)) = absurd (p.0 g)
past_judge {n = n} rows g v w (inr (_, inr (_, a))) = (answers_among rows 1 n (omega arith) v a, answers_among rows 2 n (omega arith) w a)
