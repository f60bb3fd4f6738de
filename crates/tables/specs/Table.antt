-- A table of refusals, its rows in the order of testing, and the outcome of a call by it: the first row that applies is answered.
use Rattle.std.specs.Prelude.{◌≡◌, ◌⊎◌, List, [], ◌∷◌, ℕ}

-- a row of the table: its number, and what must hold for it not to be answered
pub record Row : Type 1 where
  pub number : ℕ
  pub passes : Type 0

-- refused with n unless P holds
abbrev pub unless : ℕ → Type 0 → Row
unless n P = record { number = n; passes = P }

-- refused with n where P holds
abbrev pub when : ℕ → Type 0 → Row
when n P = unless n (P → ⊥)

-- n is the answer: the number of the first row that does not pass, or 0
abbrev pub Answers : List Row → ℕ → Type 0
Answers [] n = n ≡ 0
Answers (r ∷ rows) n = ((r.passes → ⊥) × (n ≡ r.number)) ⊎ (r.passes × Answers rows n)

-- a call that answers n and leaves x behind: what is so of x where it is done, and where it is refused
pub record Outcome (rows : List Row) (A : Type 0) (Done Refused : A → Type 0) (n : ℕ) (x : A) : Type 0 where
  pub answer : Answers rows n
  pub done : n ≡ 0 → Done x
  pub refused : (n ≡ 0 → ⊥) → Refused x
