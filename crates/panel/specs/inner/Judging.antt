-- What a judgement says, and its parts.
use Rattle.std.specs.Prelude.{◌≡◌, List, ℕ, Option, None, Some}
use Rattle.tables.specs.Table.{Outcome}
use Rattle.panel.specs.Panels.{deep_of, RightLength}
use Rattle.panel.specs.Calls.{panel_rows}

-- r is the panel's depth, or none where its length is wrong
abbrev pub Deep : List ℕ → Option ℕ → Type 0
Deep s None = RightLength s → ⊥
Deep s (Some d) = RightLength s × (d ≡ deep_of s)

-- the judgement n, with the depth d
abbrev pub GoodDepth : List ℕ → ℕ → ℕ → Type 0
GoodDepth s n d = Outcome (panel_rows s) ℕ (λ x. x ≡ deep_of s) (λ x. x ≡ 0) n d
