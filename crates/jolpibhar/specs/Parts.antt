-- A part of a panel told by numbers, for C has no slices.
use Rattle.std.specs.Prelude.{◌≡◌, List, ℕ, ◌-◌, ◌*◌, ◌^◌}
use Rattle.tables.specs.Table.{Outcome}
use Rattle.panel.specs.Panels.{deep_of}
use Rattle.panel.specs.Calls.{panel_rows}

-- the place of its first byte, and how many bytes it has
pub record Part : Type 0 where
  pub start : ℕ
  pub size : ℕ

abbrev pub no_part : Part
no_part = record { start = 0; size = 0 }

-- the bytes that the leaf bits fill: `take size (drop start s)` is `leaf_part s`
abbrev pub leaf_place : List ℕ → Part
leaf_place s = record { start = 3 * 2 ^ (deep_of s - 3); size = 2 ^ (deep_of s - 3) }

-- `panel_leaf_bits` of panel s answers n, with the part p
abbrev pub LeafBytes : List ℕ → ℕ → Part → Type 0
LeafBytes s n p = Outcome (panel_rows s) Part (λ x. x ≡ leaf_place s) (λ x. x ≡ no_part) n p
