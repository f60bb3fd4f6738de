-- What can be printed. Only our own functions speak of it.
use Rattle.std.specs.Prelude.{List, ℕ, Option, ◌≤◌, length}
use Rattle.records.specs.Records.{most_records}
use Rattle.steps.specs.Holding.{Keeps}

-- no more answers than a run gives, and a good panel, or none
pub record Shown (given : List ℕ) (deep : Option ℕ) (b : List ℕ) : Type 0 where
  pub few : length given ≤ most_records
  pub keeps : Keeps deep b
