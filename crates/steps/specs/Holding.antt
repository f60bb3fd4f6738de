-- What every record keeps true of the lent buffer.
use Rattle.std.specs.Prelude.{◌≡◌, ◌≢◌, List, ℕ, Option, None, Some}
use Rattle.panel.specs.Panels.{deep_of, Good}
use Rattle.steps.specs.Steps.{panel_in}

-- the panel of depth D at the start of the buffer is good, or none is open
pub record Holds (D : ℕ) (b : List ℕ) : Type 0 where
  pub good : D ≢ 0 → Good (panel_in D b)
  pub deep : D ≢ 0 → D ≡ deep_of (panel_in D b)

-- the depth of the open panel as a number: 0 where none is open
abbrev pub depth_or_0 : Option ℕ → ℕ
depth_or_0 None = 0
depth_or_0 (Some D) = D

-- the panel that is open, if one is, is good and of this depth
abbrev pub Keeps : Option ℕ → List ℕ → Type 0
Keeps None b = Unit
Keeps (Some D) b = Good (panel_in D b) × (D ≡ deep_of (panel_in D b))
