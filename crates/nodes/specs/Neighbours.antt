-- A node's neighbours of its own depth, by the rules of "Neighbours (same depth)". 0 is none.
use Rattle.std.specs.Prelude.{ℕ, zero, suc, ◌+◌, ◌-◌, ◌*◌, ◌/◌, ◌%◌}
use Rattle.nodes.specs.declared.triples.Triple.{Triple}
use Rattle.nodes.specs.Depth.{depth_of}

abbrev pub none : Triple
none = record { left = 0; right = 0; edge = 0 }

-- node 2 starts as (0, 0, 3), node 3 as (0, 0, 2)
abbrev pub first_triple : ℕ → Triple
first_triple n = record { left = 0; right = 0; edge = 5 - n }

-- 2x + 1, or 0 if x is 0
abbrev pub right_child : ℕ → ℕ
right_child zero = 0
right_child (suc x) = 2 * suc x + 1

-- left child: left 2n + 1; right 2e + 1, or 0 if e is 0; edge 2r + 1, or 0 if r is 0
abbrev pub left_triple : Triple → ℕ → Triple
left_triple t n = record { left = 2 * n + 1; right = right_child t.edge; edge = right_child t.right }

-- right child: left 2e; right 2n; edge 2l
abbrev pub right_triple : Triple → ℕ → Triple
right_triple t n = record { left = 2 * t.edge; right = 2 * n; edge = 2 * t.left }

-- the left child of n where the last digit is 0, and else the right child
abbrev pub child_triple : ℕ → Triple → ℕ → Triple
child_triple zero t n = left_triple t n
child_triple (suc b) t n = right_triple t n

-- the neighbours of n, of depth d
unfoldable pub neighbours_at : ℕ → ℕ → Triple
neighbours_at zero n = none
neighbours_at (suc zero) n = first_triple n
neighbours_at (suc (suc d)) n = child_triple (n % 2) (neighbours_at (suc d) (n / 2)) (n / 2)

unfoldable pub neighbours_of : ℕ → Triple
neighbours_of n = neighbours_at (depth_of n) n

-- the neighbour across the long side
abbrev pub edge : ℕ → ℕ
edge n = (neighbours_of n).edge
