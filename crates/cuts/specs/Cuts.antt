-- Sets of cuts, their leaves, and the cuts that leaf bits name. A set of cuts is any P : ℕ → Type 0; f p is the leaf bit at place p.
use Rattle.std.specs.Prelude.{◌≡◌, Bool, true, ◌≢◌, ℕ, ◌+◌, ◌-◌, ◌*◌, ◌/◌, ◌^◌, ◌≤◌, ◌<◌}
use Rattle.std.specs.Int.Count.{count_trailing_zeros}
use Rattle.nodes.specs.Depth.{depth_of}
use Rattle.nodes.specs.Neighbours.{edge}
use Rattle.sums.specs.Rank.{rank}

-- ---- the cuts that leaf bits name

-- with t trailing zeros in p, the node (2 ^ D + p) / 2 ^ t is a right child, and its parent is cut
abbrev pub named : ℕ → ℕ → ℕ
named D p = (2 ^ D + p) / 2 ^ count_trailing_zeros 32 p / 2

-- node n is cut: a set leaf bit, other than bit 0, names it
pub record Cut (D : ℕ) (f : ℕ → ℕ) (n : ℕ) : Type 0 where
  pub place : ℕ
  pub low : 0 < place
  pub high : place < 2 ^ D
  pub set : f place ≡ 1
  pub names : named D place ≡ n

-- ---- good sets of cuts

-- they hold node 1, the parent of each cut node other than 1, and obey the long side rule:
-- if a node other than 1 is cut, and its edge neighbour is a node, that neighbour is cut
pub record GoodCuts (P : ℕ → Type 0) : Type 0 where
  pub root : P 1
  pub up : (n : ℕ) → 2 ≤ n → P n → P (n / 2)
  pub over : (n : ℕ) → 2 ≤ n → P n → edge n ≢ 0 → P (edge n)

-- Q is good, holds P, and lies in every good set that holds P
pub record Smallest (P Q : ℕ → Type 0) : Type 0 where
  pub good : GoodCuts Q
  pub holds : (n : ℕ) → P n → Q n
  pub least : (r : ℕ → Bool) → GoodCuts (λ n. r n ≡ true) → ((n : ℕ) → P n → r n ≡ true) → (n : ℕ) → Q n → r n ≡ true

-- ---- leaves

-- a leaf is not cut, and its parent is
pub record Leaf (P : ℕ → Type 0) (n : ℕ) : Type 0 where
  pub low : 2 ≤ n
  pub uncut : P n → ⊥
  pub parent : P (n / 2)

-- leaf a is an ancestor of node k, and of k and its ancestors no other is a leaf
pub record LeafAbove (P : ℕ → Type 0) (k a : ℕ) : Type 0 where
  pub levels : ℕ
  pub up : 0 < levels
  pub ancestor : k / 2 ^ levels ≡ a
  pub leaf : Leaf P a
  pub only : (j : ℕ) → Leaf P (k / 2 ^ j) → j ≡ levels

-- of the depth-D node N and its ancestors, exactly one is a leaf
pub record OneLeaf (D : ℕ) (P : ℕ → Type 0) (N : ℕ) : Type 0 where
  pub levels : ℕ
  pub within : levels ≤ D
  pub leaf : Leaf P (N / 2 ^ levels)
  pub only : (j : ℕ) → j ≤ D → Leaf P (N / 2 ^ j) → j ≡ levels

-- the leaves cover the panel exactly once
abbrev pub CoverOnce : ℕ → (ℕ → Type 0) → Type 0
CoverOnce D P = (N : ℕ) → 2 ^ D ≤ N → N < 2 ^ (D + 1) → OneLeaf D P N

-- a leaf k of depth d sets leaf bit k * 2 ^ (D - d) - 2 ^ D
abbrev pub place_of : ℕ → ℕ → ℕ
place_of D k = k * 2 ^ (D - depth_of k) - 2 ^ D

-- the number of leaf k: how many leaf bits are set left of its own
abbrev pub leaf_number : ℕ → (ℕ → ℕ) → ℕ → ℕ
leaf_number D f k = rank f (place_of D k)

-- the other child of k's parent
abbrev pub sibling : ℕ → ℕ
sibling k = 4 * (k / 2) + 1 - k
