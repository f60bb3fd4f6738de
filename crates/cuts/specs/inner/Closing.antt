-- What the steps that close a set of cuts leave, from the deepest level up: each cut node of a level has its edge neighbour cut with it,
-- and both have their parents cut.
use Rattle.std.specs.Prelude.{◌≡◌, ◌≢◌, ◌⊎◌, ◌↔◌, List, ℕ, ◌*◌, ◌/◌, ◌^◌, ◌≤◌, ◌<◌, length}
use Rattle.bits.specs.Bits.{bit}
use Rattle.nodes.specs.Neighbours.{edge}
use Rattle.words.specs.Words.{leaf_bit}
use Rattle.cuts.specs.Cuts.{Cut, Smallest}

-- node n is to be cut: it is, or its edge neighbour is
abbrev pub Asked : (ℕ → Type 0) → ℕ → Type 0
Asked P n = P n ⊎ ((edge n ≢ 0) × P (edge n))

-- .. and m is a node from n's numbers low to high, without high, of which this holds, or the parent of one
pub record Drawn (P : ℕ → Type 0) (low high m : ℕ) : Type 0 where
  pub by : ℕ
  pub from : low ≤ by
  pub below : by < high
  pub asked : Asked P by
  pub is : (m ≡ by) ⊎ (m ≡ by / 2)

-- Q is P with these cut besides
abbrev pub Draws : ℕ → ℕ → (ℕ → Type 0) → (ℕ → Type 0) → Type 0
Draws low high P Q = (m : ℕ) → Q m ↔ (P m ⊎ Drawn P low high m)

-- ys is xs with leaf bits changed, but for the first, and nothing else
pub record OnlyLeaves (D : ℕ) (xs ys : List ℕ) : Type 0 where
  pub long : length ys ≡ length xs
  pub same : (p : ℕ) → (p ≤ 3 * 2 ^ D) ⊎ (4 * 2 ^ D ≤ p) → bit ys p ≡ bit xs p

-- so is node n cut besides
pub record CutAlso (D n : ℕ) (xs ys : List ℕ) : Type 0 where
  pub only : OnlyLeaves D xs ys
  pub cuts : (m : ℕ) → Cut D (leaf_bit D ys) m ↔ (Cut D (leaf_bit D xs) m ⊎ (m ≡ n))

-- .. and those that are drawn
pub record CutsDrawn (D low high : ℕ) (xs ys : List ℕ) : Type 0 where
  pub only : OnlyLeaves D xs ys
  pub cuts : Draws low high (Cut D (leaf_bit D xs)) (Cut D (leaf_bit D ys))

-- the leaf bits name the smallest good set that holds what they named, and node 1
pub record CutsClosed (D : ℕ) (xs ys : List ℕ) : Type 0 where
  pub only : OnlyLeaves D xs ys
  pub cuts : Smallest (λ n. Cut D (leaf_bit D xs) n ⊎ (n ≡ 1)) (Cut D (leaf_bit D ys))
