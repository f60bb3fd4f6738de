-- One law serves every call: by one table, one input has one outcome. And how a `return` makes an outcome.
use mathlib.Core.Path.{◌≡◌, refl, sym, ◌∙◌}
use mathlib.Core.Bool.{true, false, true≢false}
use mathlib.Core.Logic.{◌≢◌, inl, inr}
use mathlib.Core.List.{List, [], ◌∷◌, ◌++◌}
use Prim.Native.Nat.{ℕ}
use native.Mathlib.Decide.{ℕ_discrete}
use lib.Dec.{eqb}
use borrow.Author.Tests.{eqb-true, eqb-false}
use Rattle.tables.specs.Table.{Row, Answers, Outcome}
use Rattle.tables.specs.inner.Says.{Says}

pub answers_one : (rows : List Row) (n m : ℕ) → Answers rows n → Answers rows m → n ≡ m
answers_one [] n m p q = p ∙ sym q
answers_one (r ∷ rows) n m (inl p) (inl q) = p.1 ∙ sym q.1
answers_one (r ∷ rows) n m (inl p) (inr q) = absurd (p.0 q.0)
answers_one (r ∷ rows) n m (inr p) (inl q) = absurd (q.0 p.0)
answers_one (r ∷ rows) n m (inr p) (inr q) = answers_one rows n m p.1 q.1

module _ (rows : List Row) (A : Type 0) (Done Refused : A → Type 0) where
  -- where what is done is settled, and what is refused is settled, the outcome is
  pub outcome_one : ((x y : A) → Done x → Done y → x ≡ y) → ((x y : A) → Refused x → Refused y → x ≡ y)
      → (n m : ℕ) (x y : A) → Outcome rows A Done Refused n x → Outcome rows A Done Refused m y → (n ≡ m) × (x ≡ y)
  outcome_one one-done one-refused n m x y p q = (e, go (ℕ_discrete n 0))
    where
      e : n ≡ m
      e = answers_one rows n m p.answer q.answer

      go : Dec (n ≡ 0) → x ≡ y
      go (yes z) = one-done x y (p.done z) (q.done (sym e ∙ z))
      go (no h) = one-refused x y (p.refused h) (q.refused (λ z. h (e ∙ z)))

module _ {rows : List Row} {A : Type 0} {Done Refused : A → Type 0} {x : A} where
  pub is_done : Answers rows 0 → Done x → Outcome rows A Done Refused 0 x
  is_done a d = record { answer = a; done = λ _. d; refused = λ h. absurd (h refl) }

  pub is_refused : {n : ℕ} → n ≢ 0 → Answers rows n → Refused x → Outcome rows A Done Refused n x
  is_refused z a r = record { answer = a; done = λ e. absurd (z e); refused = λ _. r }

-- a refusal by the first rows of a table is one by the whole table
pub refused_more : (rows more : List Row) (n : ℕ) → n ≢ 0 → Answers rows n → Answers (rows ++ more) n
refused_more [] more n z a = absurd (z a)
refused_more (r ∷ rows) more n z (inl p) = inl p
refused_more (r ∷ rows) more n z (inr p) = inr (p.0, refused_more rows more n z p.1)

-- ---- a test that says whether P holds

pub says_yes : {P : Type 0} → P → Says P true
says_yes p = record { yes = λ _. p; no = λ e. absurd (true≢false e) }

pub says_no : {P : Type 0} → (P → ⊥) → Says P false
says_no h = record { yes = λ e. absurd (true≢false (sym e)); no = λ _. h }

pub says_equal : {P : Type 0} (a b : ℕ) → (a ≡ b → P) → (P → a ≡ b) → Says P (eqb a b)
says_equal a b to from = record { yes = λ e. to (eqb-true a b e); no = λ e p. eqb-false a b e (from p) }
