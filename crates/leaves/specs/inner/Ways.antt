-- Where the way to a node stops.
use Rattle.std.specs.Prelude.{◌≡◌, List, ℕ, ◌+◌, ◌-◌, ◌/◌, ◌^◌, ◌≤◌, ◌<◌}
use Rattle.nodes.specs.Depth.{depth_of}
use Rattle.cuts.specs.Cuts.{LeafAbove}
use Rattle.panel.specs.Panels.{CutOf, LeafOf, number_in}

-- leaf m, of number i, is the first depth-D node below k or an ancestor of it: k itself where k is a leaf, the leaf above k where its number is
-- less than k's, and where it is greater k is cut
pub record OnFirstWay (s : List ℕ) (k m i : ℕ) : Type 0 where
  pub leaf : LeafOf s m
  pub number : i ≡ number_in s m
  pub own : LeafOf s k → m ≡ k
  pub above : m < k → LeafAbove (CutOf s) k m
  pub cut : k < m → CutOf s k

-- from node 1 down to k c nodes are cut, k among them: so k is a leaf, or is cut, or lies below the leaf of depth c
pub record CutsTo (s : List ℕ) (k c : ℕ) : Type 0 where
  pub leaf : c ≡ depth_of k → LeafOf s k
  pub cut : depth_of k < c → CutOf s k
  pub above : c < depth_of k → LeafAbove (CutOf s) k (k / 2 ^ (depth_of k - c))

-- k is a node from 2 up of a tree of depth D
pub record Ranged (D k : ℕ) : Type 0 where
  pub low : 2 ≤ k
  pub high : k < 2 ^ (D + 1)
