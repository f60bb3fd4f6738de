-- What the steps of changing a panel leave.
use Rattle.std.specs.Prelude.{◌≡◌, List, ℕ, ◌+◌, ◌≤◌}
use Rattle.nodes.specs.Depth.{depth_of}
use Rattle.words.specs.Words.{leaf_bit}
use Rattle.words.specs.inner.Working.{put_leaf_bit}
use Rattle.sums.specs.Sums.{SumsRight}
use Rattle.sums.specs.inner.Summed.{Summed}
use Rattle.cuts.specs.Cuts.{Cut, place_of}
use Rattle.cuts.specs.inner.Steps.{CutPlace}
use Rattle.pins.specs.Pins.{pin_bit, PinsOnLeaves}
use Rattle.pins.specs.inner.Steps.{put_pin, PinRoom}

-- ys is xs with the leaf bit that names node n set to v, and its sums right
pub record CutPut (D : ℕ) (xs : List ℕ) (n v : ℕ) (ys : List ℕ) : Type 0 where
  pub place : ℕ
  pub at : CutPlace D n place
  pub put : Summed D (put_leaf_bit D xs place v) ys

-- node n, whose children stand so many levels above depth D, may be cut next: the sums are right, no pin lies beside a leaf bit, and n is not cut
pub record Cuttable (D : ℕ) (bs : List ℕ) (n levels : ℕ) : Type 0 where
  pub room : PinRoom D bs
  pub sums : SumsRight D bs
  pub pins : PinsOnLeaves D bs
  pub low : 1 ≤ n
  pub deep : depth_of n + 1 + levels ≡ D
  pub uncut : Cut D (leaf_bit D bs) n → ⊥

-- ys is xs with node n cut: the leaf bit that names it is set, with its sums, and its pin becomes that of node l
pub record CutUnder (D : ℕ) (xs : List ℕ) (n l : ℕ) (ys : List ℕ) : Type 0 where
  pub half : List ℕ
  pub cut : CutPut D xs n 1 half
  pub put : ys ≡ put_pin D half cut.place (pin_bit D xs (place_of D l))
