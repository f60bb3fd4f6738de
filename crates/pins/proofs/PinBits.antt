-- Pin bits: a write to one leaves every other bit, and a write to a leaf bit leaves all of them.
use mathlib.Core.Path.{◌≡◌}
use mathlib.Core.Logic.{◌≢◌, inr}
use mathlib.Core.List.{List}
use Prim.Native.Nat.{ℕ, ◌+◌, ◌-◌, ◌*◌, ◌%◌, ◌^◌, ◌≤◌, ◌<◌}
use native.Mathlib.Nat.{mod-eq_of_lt}
use native.Mathlib.Omega.{arith}
use lib.ListN.{length}
use lib.Pow.{pow-add, pow_mono}
use Rattle.bits.specs.Bits.{bit}
use Rattle.bits.proofs.Laws.{length_put_bit, put_none, bit_put_same, bit_put_other, bit_lt, one_shl}
use Rattle.nodes.specs.Depth.{depth_of}
use Rattle.nodes.proofs.Depths.{pow_next, at_depth, at_below}
use Rattle.words.specs.Words.{leaf_bit}
use Rattle.words.specs.inner.Working.{put_leaf_bit}
use Rattle.sums.specs.Sums.{Right}
use Rattle.sums.specs.inner.Summed.{Summed}
use Rattle.sums.proofs.Unique.{right_same}
use Rattle.sums.proofs.Counts.{at_first}
use Rattle.words.proofs.Rooms.{room_same}
use Rattle.words.proofs.Leaves.{bit_put_leaf}
use Rattle.cuts.specs.Cuts.{place_of}
use Rattle.pins.specs.Pins.{pin_place, pin_bit}
use Rattle.pins.specs.inner.Steps.{put_pin, PinRoom}

pub pin_lt : (D : ℕ) (bs : List ℕ) (p : ℕ) → pin_bit D bs p < 2
unfolding pin_bit
pin_lt D bs p = bit_lt bs (pin_place D p)

pub pin_room_same : {D : ℕ} {xs ys : List ℕ} → length ys ≡ length xs → PinRoom D xs → PinRoom D ys
pin_room_same e r = record { words = room_same e r.words; pins = omega (arith, r.pins) }

-- ---- a pin is written

module _ (D : ℕ) (bs : List ℕ) (p v : ℕ) where
  pub length_put_pin : length (put_pin D bs p v) ≡ length bs
  unfolding put_pin
  length_put_pin = length_put_bit bs (pin_place D p) v

  -- where it is v already nothing changes
  pub put_pin_none : pin_bit D bs p ≡ v → put_pin D bs p v ≡ bs
  unfolding pin_bit put_pin
  put_pin_none = put_none bs (pin_place D p) v

  module _ (hv : v < 2) where
    pub pin_put_same : PinRoom D bs → p < 2 ^ D → pin_bit D (put_pin D bs p v) p ≡ v
    unfolding pin_bit put_pin
    pin_put_same r h = bit_put_same bs (pin_place D p) v (omega (arith, r.pins)) hv

    pub pin_put_other : (q : ℕ) → q ≢ p → pin_bit D (put_pin D bs p v) q ≡ pin_bit D bs q
    unfolding pin_bit put_pin
    pin_put_other q n = bit_put_other bs (pin_place D p) (pin_place D q) v hv (λ e. n (omega arith))

    -- every other bit
    pub bit_put_pin : (q : ℕ) → q ≢ pin_place D p → bit (put_pin D bs p v) q ≡ bit bs q
    unfolding put_pin
    bit_put_pin q n = bit_put_other bs (pin_place D p) q v hv n

    pub leaf_put_pin : (q : ℕ) → q < 2 ^ D → leaf_bit D (put_pin D bs p v) q ≡ leaf_bit D bs q
    unfolding leaf_bit
    leaf_put_pin q h = bit_put_pin (3 * 2 ^ D + q) (λ e. omega arith)

    pub right_put_pin : Right D bs → Right D (put_pin D bs p v)
    right_put_pin = right_same (λ q h. bit_put_pin q (λ e. omega (arith, pow-add 2 D 2)))

-- ---- words are written

-- a leaf bit
pub pin_put_leaf : (D : ℕ) (bs : List ℕ) (p v : ℕ) → v < 2 → p < 2 ^ D → (q : ℕ) → pin_bit D (put_leaf_bit D bs p v) q ≡ pin_bit D bs q
unfolding pin_bit
pin_put_leaf D bs p v hv h q = bit_put_leaf D bs p v hv (pin_place D q) h (inr (omega arith))

-- the sums
pub summed_pin : {D : ℕ} {xs ys : List ℕ} → Summed D xs ys → (p : ℕ) → pin_bit D ys p ≡ pin_bit D xs p
unfolding pin_bit
summed_pin {D} m p = m.same (pin_place D p) (inr (omega arith))

-- ---- the place of a leaf's own bit, as the code finds it

pub record LeafPlaced (D k : ℕ) : Type 0 where
  pub first : 2 ^ D ≤ k * 2 ^ (D - depth_of k)
  pub shift : k * 2 ^ (D - depth_of k) % 2 ^ 64 ≡ k * 2 ^ (D - depth_of k)
  pub deep : 1 * 2 ^ D % 2 ^ 64 ≡ 2 ^ D
  pub inside : place_of D k < 2 ^ D

pub leaf_placed : (D k : ℕ) → D ≤ 17 → 1 ≤ k → depth_of k ≤ D → LeafPlaced D k
leaf_placed D k l p h =
    let a = at_first D (depth_of k) (D - depth_of k) k (at_depth p) (omega arith) in
    let q : 2 ^ D ≤ 2 ^ 17 = pow_mono l in
    record {
      first = a.low;
      shift = mod-eq_of_lt (omega (arith, at_below a, pow_next D));
      deep = one_shl D 64 (omega arith);
      inside = omega (arith, at_below a, pow_next D);
    }
