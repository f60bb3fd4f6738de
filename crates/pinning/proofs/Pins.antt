-- The pins that the code reads and puts are those that the calls promise.
use mathlib.Core.Path.{◌≡◌, sym, ap, ◌∙◌, subst, subst⁻¹}
use mathlib.Core.List.{List}
use Prim.Native.Nat.{ℕ, ◌+◌, ◌*◌, ◌/◌, ◌≤◌, ◌<◌}
use native.Mathlib.Omega.{arith}
use lib.ListN.{length}
use Rattle.nodes.specs.Depth.{depth_of}
use Rattle.nodes.proofs.Depths.{pow_next, depth_le}
use Rattle.words.specs.Words.{leaf_bit}
use Rattle.cuts.specs.Cuts.{place_of}
use Rattle.cuts.proofs.Leaves.{leaf_place}
use Rattle.pins.specs.Pins.{pin_bit}
use Rattle.pins.specs.inner.Steps.{put_pin}
use Rattle.pins.proofs.PinBits.{length_put_pin, bit_put_pin, pin_put_same}
use Rattle.panel.specs.Panels.{deep_of, Good, InRange, LeafOf}
use Rattle.panel.specs.Calls.{PinAt}
use Rattle.panel.proofs.GoodPanels.{good_bits}
use Rattle.panel.proofs.Lengths.{fits_small, fits_pins}
use Rattle.panel.proofs.SameBytes.{deep_same}
use Rattle.cutting.proofs.ToMerge.{parent_low}

-- the pin of leaf k, put where the code puts it
module _ {s : List ℕ} (G : Good s) {k v : ℕ} (l : LeafOf s k) (h : v < 2) where
  abbrev after : List ℕ
  after = put_pin (deep_of s) s (place_of (deep_of s) k) v

  long : length after ≡ length s
  long = length_put_pin (deep_of s) s (place_of (deep_of s) k) v

  at : PinAt s k v after
  at = record {
    long = long;
    pin =
        subst (λ x. pin_bit x after (place_of x k) ≡ v) (sym (deep_same s after long))
        (pin_put_same (deep_of s) s (place_of (deep_of s) k) v h (fits_pins s (deep_of s) G.fits) (leaf_place (deep_of s) (leaf_bit (deep_of s) s) (good_bits s G) k l));
    rest = bit_put_pin (deep_of s) s (place_of (deep_of s) k) v h;
  }

  pub put_at : {t : List ℕ} {D p : ℕ} → D ≡ deep_of s → p ≡ place_of D k → t ≡ put_pin D s p v → PinAt s k v t
  put_at {D = D} d q e = subst⁻¹ (PinAt s k v) (e ∙ ap (λ x. put_pin D s x v) q ∙ ap (λ x. put_pin x s (place_of x k) v) d) at

-- a node of the panel has a place
pub range_place : {s : List ℕ} {D k : ℕ} → Good s → D ≡ deep_of s → InRange s k → (D ≤ 17) × (1 ≤ k) × (depth_of k ≤ D)
range_place {s} {D} {k} G d r = (omega (arith, fits_small G.fits), omega (arith, r.low), omega (arith, depth_le k (deep_of s) r.high))

-- both children of a node's parent are nodes of the panel with it
pub pair_in : {s : List ℕ} {k : ℕ} → InRange s k → 1 < depth_of k → InRange s (2 * (k / 2)) × InRange s (2 * (k / 2) + 1)
pair_in {s} {k} r d =
    let p = parent_low r.low d in
    let n = pow_next (deep_of s) in
    (record { low = omega arith; high = omega (arith, r.high) }, record { low = omega arith; high = omega (arith, r.high) })
