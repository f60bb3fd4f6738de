-- Where a descent from node 1 stands, and where it stops.
use Rattle.std.specs.Prelude.{◌≡◌, List, ℕ, ◌+◌, ◌-◌, ◌*◌, ◌/◌, ◌^◌, ◌≤◌, ◌<◌}
use Rattle.nodes.specs.Depth.{depth_of}
use Rattle.words.specs.Words.{start, word}
use Rattle.panel.specs.Panels.{deep_of, CutOf, LeafOf, number_in, leaf_count}

-- leaf m, of number i, is node n of depth D or an ancestor of it
pub record OnWay (s : List ℕ) (n m i : ℕ) : Type 0 where
  pub leaf : LeafOf s m
  pub number : i ≡ number_in s m
  pub over : n / 2 ^ (deep_of s - depth_of m) ≡ m

-- node k is reached, left levels above depth D: it is node 1, or its parent is cut; its word w starts at bit p
pub record Spot (s : List ℕ) (left p k w : ℕ) : Type 0 where
  pub low : 1 ≤ k
  pub levels : depth_of k + left ≡ deep_of s
  pub place : p ≡ start (deep_of s) (depth_of k) k
  pub holds : w ≡ word (deep_of s) s k
  pub within : number_in s k + w ≤ leaf_count s
  pub reached : 2 ≤ k → CutOf s (k / 2)

-- the way from node 1 to n, a node of depth D, has come to the node left levels above n. Of those before it c are cut: all, or those above a leaf
pub record Passed (s : List ℕ) (left n c : ℕ) : Type 0 where
  pub low : 2 ^ deep_of s ≤ n
  pub high : n < 2 ^ (deep_of s + 1)
  pub most : c + left ≤ deep_of s
  pub cut : 1 ≤ c → CutOf s (n / 2 ^ (deep_of s + 1 - c))
  pub uncut : c + left < deep_of s → CutOf s (n / 2 ^ (deep_of s - c)) → ⊥

-- bit p of the panel is the leaf bit that names node k, left levels above depth D; half is how many places lie below each of its children
pub record NamedAt (s : List ℕ) (left p half k : ℕ) : Type 0 where
  pub place : p ≡ 2 * 2 ^ deep_of s + (2 * k + 1) * half
  pub below : half ≡ 2 ^ (left - 1)
