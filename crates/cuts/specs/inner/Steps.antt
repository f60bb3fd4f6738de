-- What the steps of reading and judging cuts say.
use Rattle.std.specs.Prelude.{◌≡◌, ◌≢◌, ℕ, ◌+◌, ◌/◌, ◌^◌, ◌≤◌, ◌<◌}
use Rattle.nodes.specs.Neighbours.{edge}
use Rattle.cuts.specs.Cuts.{Cut, named}

-- p is the place of the leaf bit that names node n
pub record CutPlace (D n p : ℕ) : Type 0 where
  pub low : 0 < p
  pub high : p < 2 ^ D
  pub names : named D p ≡ n

-- what a good set of cuts asks of node n where that is cut: that its parent is, and its edge neighbour, where that is a node
pub record Follows (P : ℕ → Type 0) (n : ℕ) : Type 0 where
  pub up : 2 ≤ n → P (n / 2)
  pub over : 2 ≤ n → edge n ≢ 0 → P (edge n)

-- a node of a tree of depth D
pub record NodeOf (D n : ℕ) : Type 0 where
  pub low : 1 ≤ n
  pub high : n < 2 ^ (D + 1)

-- the edge neighbour of n is none, or is cut
abbrev pub AcrossCut : (ℕ → Type 0) → ℕ → Type 0
AcrossCut P n = edge n ≢ 0 → P (edge n)

-- the node that place p names, where its bit is set, may be cut
abbrev pub PlaceFollows : ℕ → (ℕ → ℕ) → ℕ → Type 0
PlaceFollows D f p = 0 < p → f p ≡ 1 → Follows (Cut D f) (named D p)

-- so may all nodes that are cut
abbrev pub AllFollow : ℕ → (ℕ → ℕ) → Type 0
AllFollow D f = (p : ℕ) → p < 2 ^ D → PlaceFollows D f p
