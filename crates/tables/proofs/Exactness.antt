-- Refusals are exact: by a table whose numbers differ, a number is answered exactly where all rows before its own pass and its own does not.
use mathlib.Core.Path.{sym, ◌∙◌}
use mathlib.Core.Logic.{◌≢◌, ◌⊎◌, inl, inr}
use mathlib.Core.List.{List, [], ◌∷◌}
use Prim.Native.Nat.{ℕ}
use Rattle.tables.specs.Table.{Row, Answers, Outcome}
use Rattle.tables.specs.Exactly.{ExactlyAfter, Exactly}

-- n is none of the table's numbers
abbrev pub Without : ℕ → List Row → Type 0
Without n [] = Unit {0}
Without n (r ∷ rows) = (n ≢ r.number) × Without n rows

-- the numbers of a table differ from one another, and none is 0
abbrev pub Differing : List Row → Type 0
Differing [] = Unit {0}
Differing (r ∷ rows) = (r.number ≢ 0) × Without r.number rows × Differing rows

-- an answer is 0 or one of the table's numbers
pub answers_among : (rows : List Row) (m n : ℕ) → m ≢ 0 → Without m rows → Answers rows n → n ≢ m
answers_among [] m n z w a e = z (sym e ∙ a)
answers_among (r ∷ rows) m n z (d, w) (inl a) e = d (sym e ∙ a.1)
answers_among (r ∷ rows) m n z (d, w) (inr a) e = answers_among rows m n z w a.1 e

pub outcome_without : {rows : List Row} {A : Type 0} {Done Refused : A → Type 0} {n : ℕ} {x : A} (m : ℕ) → m ≢ 0 → Without m rows
    → Outcome rows A Done Refused n x → n ≢ m
outcome_without {rows} {n = n} m z w o = answers_among rows m n z w o.answer

-- the rows before pass and those behind decide, or one of them has given the answer
abbrev So-far : Type 0 → List Row → ℕ → Type 0
So-far P rows n = (P × Answers rows n) ⊎ ((P → ⊥) × (n ≢ 0) × Without n rows)

exactly_after : (P : Type 0) (rows : List Row) (n : ℕ) → Differing rows → So-far P rows n → ExactlyAfter P rows n
exactly_after P [] n u (inl (p, z)) = (λ _. p, λ _. z)
exactly_after P [] n u (inr (f, z, w)) = (λ e. absurd (z e), λ p. absurd (f p))
exactly_after P (r ∷ rows) n (z, w, u) (inl (p, inl (f, e))) =
    ((λ _. (p, f), λ _. e), exactly_after (P × r.passes) rows n u (inr (λ x. f x.1, λ o. z (sym e ∙ o), rw e w)))
exactly_after P (r ∷ rows) n (z, w, u) (inl (p, inr (y, a))) =
    ((λ e. absurd (answers_among rows r.number n z w a e), λ x. absurd (x.1 y)), exactly_after (P × r.passes) rows n u (inl ((p, y), a)))
exactly_after P (r ∷ rows) n (z, w, u) (inr (f, o, (d, v))) =
    ((λ e. absurd (d e), λ x. absurd (f x.0)), exactly_after (P × r.passes) rows n u (inr (λ x. f x.0, o, v)))

pub refused_exactly : (rows : List Row) (n : ℕ) → Differing rows → Answers rows n → Exactly rows n
refused_exactly rows n u a = exactly_after (Unit {0}) rows n u (inl (tt, a))
