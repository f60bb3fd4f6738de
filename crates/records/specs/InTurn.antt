-- Records in turn, each a step from what the one before left.
use Rattle.std.specs.Prelude.{List, [], ◌∷◌, ◌++◌, ℕ, length}
use Rattle.records.specs.Records.{record_at}

-- the first records of rs in turn, from s: their answers, and what they leave. `Step r s n t` says that record r answers n, and from s leaves t
pub data InTurn (S : Type 0) (Step : List ℕ → S → ℕ → S → Type 0) (rs : List ℕ) (s : S) : List ℕ → S → Type 0 where
  none : InTurn S Step rs s [] s
  more :
      {given : List ℕ} {n : ℕ} {t u : S} → InTurn S Step rs s given t → Step (record_at rs (length given)) t n u
      → InTurn S Step rs s (given ++ (n ∷ [])) u
