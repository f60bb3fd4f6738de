-- Records in turn on a lent buffer, at whose start the panel of some depth is open, or none where the depth is 0.
use Rattle.std.specs.Prelude.{List, ℕ}
use Rattle.bits.specs.Bits.{Bytes}
use Rattle.records.specs.InTurn.{InTurn}
use Rattle.steps.specs.Steps.{Step}

-- the step of a record from and to the depth of the open panel and the buffer, which holds bytes after it
abbrev pub StepBytes : ℕ → ℕ → List ℕ → ℕ × List ℕ → ℕ → ℕ × List ℕ → Type 0
StepBytes first last r x n y = Step first last r x.0 x.1 n y.0 y.1 × Bytes y.1

-- the first records in turn, of the kinds from `first` to `last`, from a buffer b where the panel of depth C is open: their answers, and the depth
-- and the buffer after them
abbrev pub Runs : ℕ → ℕ → List ℕ → ℕ → List ℕ → List ℕ → ℕ → List ℕ → Type 0
Runs first last rs C b given D u = InTurn (ℕ × List ℕ) (StepBytes first last) rs (C, b) given (D, u)
