-- What the program prints, by "The request file": each record prints one line, its number from 1 and its answer; then, if a panel is open, each
-- leaf prints one line, its leaf number and its node. `given` are the answers; b is the buffer, with the panel of depth D at its start, or none where D is 0.
use Rattle.std.specs.Prelude.{◌≡◌, List, [], ◌++◌, ℕ, ◌+◌, ◌<◌, length, get_or}
use Rattle.panel.specs.Calls.{LeafNumbered}
use Rattle.steps.specs.Steps.{panel_in, leaves_in}
use Rattle.lines.specs.Lines.{Line}

-- how many lines: one for each answer and one for each leaf
abbrev pub line_count : List ℕ → ℕ → List ℕ → ℕ
line_count given D b = length given + leaves_in D b

-- the two numbers of line j, from 0
pub data Numbers (given : List ℕ) (D : ℕ) (b : List ℕ) : ℕ → ℕ → ℕ → Type 0 where
  answer : {j : ℕ} → j < length given → Numbers given D b j (j + 1) (get_or given j 0)
  leaf : {j i k : ℕ} → j ≡ length given + i → i < leaves_in D b → LeafNumbered (panel_in D b) i k → Numbers given D b j i k

-- the text of the lines from one up to another: whole, in order, and nothing between them
pub data Lines (given : List ℕ) (D : ℕ) (b : List ℕ) (from : ℕ) : ℕ → List ℕ → Type 0 where
  none : Lines given D b from from []
  more : {j x y : ℕ} {t u : List ℕ} → Lines given D b from j t → Numbers given D b j x y → Line x y u → Lines given D b from (j + 1) (t ++ u)
