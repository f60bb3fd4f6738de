-- The calls that take no panel, by the table of "When the scanner says no".
use Rattle.std.specs.Prelude.{◌≡◌, List, [], ◌∷◌, ℕ, ◌/◌, ◌%◌, ◌≤◌, Result, Ok, Err}
use Rattle.answers.specs.declared.Refusal.{Refusal}
use Rattle.nodes.specs.declared.triples.Triple.{Triple}
use Rattle.nodes.specs.Depth.{depth_of}
use Rattle.nodes.specs.Limits.{KnownNode}
use Rattle.nodes.specs.Neighbours.{none, neighbours_of}
use Rattle.triangles.specs.Corners.{Triangle, point, triangle, Exact, corners_of, turned}
use Rattle.tables.specs.Table.{Row, unless, Outcome}

abbrev pub node_rows : ℕ → List Row
node_rows n = unless 3 (KnownNode n) ∷ []

-- `neighbours` of n answers a, with the triple t
abbrev pub Neighbours : ℕ → ℕ → Triple → Type 0
Neighbours n a t = Outcome (node_rows n) Triple (λ x. x ≡ neighbours_of n) (λ x. x ≡ none) a t

abbrev pub no_corners : Triangle
no_corners = triangle (point 0 0) (point 0 0) (point 0 0)

-- the triangle that is handed out
abbrev pub answer_triangle : Result Triangle Refusal → Triangle
answer_triangle (Ok t) = t
answer_triangle (Err e) = no_corners

-- x are the corners of n, turned on the way out, and all whole numbers: the corner that its parent has not lies exactly in the middle of the
-- parent's long side
pub record Cornered (n : ℕ) (x : Triangle) : Type 0 where
  pub corners : x ≡ turned (depth_of n % 2) (corners_of n)
  pub whole : 2 ≤ n / 2 → Exact (corners_of (n / 2))

-- `corners` of n answers a, with the triangle t
abbrev pub Corners : ℕ → ℕ → Triangle → Type 0
Corners n a t = Outcome (node_rows n) Triangle (Cornered n) (λ x. x ≡ no_corners) a t
