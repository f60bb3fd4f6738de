-- When a panel is good.
use Rattle.std.specs.Prelude.{◌≡◌, List, ℕ, ◌+◌, ◌-◌, ◌*◌, ◌/◌, ◌^◌, ◌≤◌, ◌<◌, length, take, drop}
use Rattle.nodes.specs.Depth.{depth_of}
use Rattle.nodes.specs.Limits.{least_depth, greatest_depth}
use Rattle.words.specs.Words.{word, leaf_bit}
use Rattle.sums.specs.Sums.{Right}
use Rattle.cuts.specs.Cuts.{Cut, GoodCuts, Leaf, LeafAbove, place_of, leaf_number}
use Rattle.pins.specs.Pins.{pin_bit, PinsOnLeaves}

-- the length of a panel of depth D: the 2 ^ (D + 2) bits of its words and its 2 ^ D pin bits, which are 2 ^ (D - 1) + 2 ^ (D - 3) bytes
abbrev pub size_of : ℕ → ℕ
size_of D = (2 ^ (D + 2) + 2 ^ D) / 8

-- a panel of depth D, within the limits, is as many bytes
pub record Fits (s : List ℕ) (D : ℕ) : Type 0 where
  pub low : least_depth ≤ D
  pub high : D ≤ greatest_depth
  pub long : length s ≡ size_of D

-- D comes from the length
abbrev pub deep_of : List ℕ → ℕ
deep_of s = depth_of (length s) + 1

abbrev pub RightLength : List ℕ → Type 0
RightLength s = Fits s (deep_of s)

-- the cuts of a panel
abbrev pub CutOf : List ℕ → ℕ → Type 0
CutOf s = Cut (deep_of s) (leaf_bit (deep_of s) s)

-- the length is right, the spare bits are zero, the depth word agrees, every sum is right, leaf bit 0 is set, the cuts are good, and no
-- pin bit is set where no leaf bit is
pub record Good (s : List ℕ) : Type 0 where
  pub fits : RightLength s
  pub right : Right (deep_of s) s
  pub first : leaf_bit (deep_of s) s 0 ≡ 1
  pub cuts : GoodCuts (CutOf s)
  pub pins : PinsOnLeaves (deep_of s) s

-- a node of the panel: from 2 up to 2 ^ (D + 1) - 1
pub record InRange (s : List ℕ) (k : ℕ) : Type 0 where
  pub low : 2 ≤ k
  pub high : k < 2 ^ (deep_of s + 1)

abbrev pub LeafOf : List ℕ → ℕ → Type 0
LeafOf s k = Leaf (CutOf s) k

-- an ancestor of k is the leaf
abbrev pub BelowLeaf : List ℕ → ℕ → Type 0
BelowLeaf s k = (a : ℕ) × LeafAbove (CutOf s) k a

-- the pin bit in the place of leaf k's own leaf bit
abbrev pub pin_of : List ℕ → ℕ → ℕ
pin_of s k = pin_bit (deep_of s) s (place_of (deep_of s) k)

-- leaf k is pinned
abbrev pub Pinned : List ℕ → ℕ → Type 0
Pinned s k = pin_of s k ≡ 1

abbrev pub number_in : List ℕ → ℕ → ℕ
number_in s k = leaf_number (deep_of s) (leaf_bit (deep_of s) s) k

-- word 1 is the leaf count
abbrev pub leaf_count : List ℕ → ℕ
leaf_count s = word (deep_of s) s 1

-- the bytes that the leaf bits fill
abbrev pub leaf_part : List ℕ → List ℕ
leaf_part s = take (2 ^ (deep_of s - 3)) (drop (3 * 2 ^ (deep_of s - 3)) s)
