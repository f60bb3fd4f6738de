-- What it means that refusals are exact, of a table and an answer.
use Rattle.std.specs.Prelude.{◌≡◌, ◌↔◌, List, [], ◌∷◌, ℕ}
use Rattle.tables.specs.Table.{Row}

-- where the rows before pass exactly if P holds: each row's number is the answer n exactly where P holds and that row does not pass, and 0 is
-- exactly where P holds and all rows pass
abbrev pub ExactlyAfter : Type 0 → List Row → ℕ → Type 0
ExactlyAfter P [] n = (n ≡ 0) ↔ P
ExactlyAfter P (r ∷ rows) n = ((n ≡ r.number) ↔ (P × (r.passes → ⊥))) × ExactlyAfter (P × r.passes) rows n

abbrev pub Exactly : List Row → ℕ → Type 0
Exactly rows n = ExactlyAfter (Unit {0}) rows n
