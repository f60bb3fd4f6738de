-- Two good panels of one length with the same cuts and the same pinned leaves have the same bytes: cuts settle the leaf bits, leaf bits settle
-- the words, and no pin lies beside a leaf.
use mathlib.Core.Path.{◌≡◌, sym, ap, ◌∙◌, subst}
use mathlib.Core.Logic.Iff
use mathlib.Core.Logic.{◌↔◌}
use mathlib.Core.List.{List}
use Prim.Native.Nat.{ℕ, ◌+◌, ◌-◌, ◌*◌, ◌/◌, ◌%◌, ◌^◌, ◌≤◌, ◌<◌}
use native.Mathlib.Nat.{zero-div}
use native.Mathlib.Decide.{ℕ_discrete, dec_lt}
use native.Mathlib.Omega.{arith}
use lib.ListN.{length, get_or-eq_default}
use lib.Pow.{pow-add}
use Rattle.bits.specs.Bits.{digit, bit}
use Rattle.bits.proofs.Laws.{Bytes}
use Rattle.nodes.specs.Depth.{depth_of}
use Rattle.words.specs.Words.{leaf_bit}
use Rattle.sums.specs.Sums.{Right}
use Rattle.sums.proofs.Counts.{leaf_bits}
use Rattle.sums.proofs.Unique.{right_one}
use Rattle.cuts.specs.Cuts.{Cut, place_of}
use Rattle.cuts.proofs.Leaves.{set_leaf}
use Rattle.cuts.proofs.OneBit.{bits_same}
use Rattle.pins.specs.Pins.{pin_bit, PinsOnLeaves}
use Rattle.pins.proofs.PinBits.{pin_lt}
use Rattle.panel.specs.Panels.{deep_of, CutOf, Good, LeafOf, Pinned}
use Rattle.panel.proofs.Lengths.{fits_small, fits_bits}
use Rattle.panel.proofs.GoodPanels.{good_bits}

-- the depth comes from the length
pub deep_same : (s t : List ℕ) → length t ≡ length s → deep_of t ≡ deep_of s
deep_same s t e = ap (λ n. depth_of n + 1) e

-- the cuts of a panel as long as s, by the depth of s
pub cut_of : (s t : List ℕ) → length t ≡ length s → (n : ℕ) → CutOf t n ↔ Cut (deep_of s) (leaf_bit (deep_of s) t) n
cut_of s t e n = (λ c. subst (λ D. Cut D (leaf_bit D t) n) (deep_same s t e) c, λ c. subst (λ D. Cut D (leaf_bit D t) n) (sym (deep_same s t e)) c)

-- behind the last byte all bits are 0
pub past : (bs : List ℕ) (p : ℕ) → 8 * length bs ≤ p → bit bs p ≡ 0
past bs p h = omega (arith, ap (λ (x : ℕ). digit x (p % 8)) (get_or-eq_default bs 0 {n = p / 8} (omega arith)), zero-div (2 ^ (p % 8)))

-- two bits are the same where one is set exactly if the other is
bits_iff : {a b : ℕ} → a < 2 → b < 2 → (a ≡ 1) ↔ (b ≡ 1) → a ≡ b
bits_iff {a} {b} x y i = go (ℕ_discrete a 1) (ℕ_discrete b 1)
  where
    go : Dec (a ≡ 1) → Dec (b ≡ 1) → a ≡ b
    go (yes p) q = p ∙ sym (i.0 p)
    go (no p) (yes q) = absurd (p (i.1 q))
    go (no p) (no q) = omega arith

module _ {s t : List ℕ} (S : Good s) (T : Good t) (e : length s ≡ length t) where
  d : deep_of t ≡ deep_of s
  d = deep_same s t (sym e)

  same_leaf_bits : ((n : ℕ) → 1 ≤ n → (CutOf s n ↔ CutOf t n)) → (p : ℕ) → p < 2 ^ deep_of s → leaf_bit (deep_of s) s p ≡ leaf_bit (deep_of s) t p
  same_leaf_bits c =
      bits_same (deep_of s) (omega (arith, fits_small S.fits)) (leaf_bit (deep_of s) s) (leaf_bit (deep_of s) t) (leaf_bits (deep_of s) s) (leaf_bits (deep_of s) t)
      (S.first ∙ sym (subst (λ D. leaf_bit D t 0 ≡ 1) d T.first)) (λ n h. Iff.trans (c n h) (cut_of s t (sym e) n))

  module _ (leaves : (p : ℕ) → p < 2 ^ deep_of s → leaf_bit (deep_of s) s p ≡ leaf_bit (deep_of s) t p) (pins : (k : ℕ) → LeafOf s k → Pinned s k ↔ Pinned t k) where
    -- at the place of a leaf
    own : (k p : ℕ) → LeafOf s k → place_of (deep_of s) k ≡ p → pin_bit (deep_of s) s p ≡ pin_bit (deep_of s) t p
    own k p l q =
        bits_iff (pin_lt (deep_of s) s p) (pin_lt (deep_of s) t p)
        (subst (λ x. (pin_bit (deep_of s) s x ≡ 1) ↔ (pin_bit (deep_of s) t x ≡ 1)) q
        (subst (λ x. (pin_bit (deep_of s) s (place_of (deep_of s) k) ≡ 1) ↔ (pin_bit x t (place_of x k) ≡ 1)) d (pins k l)))

    -- and beside them no pin is set
    same_pins : (p : ℕ) → p < 2 ^ deep_of s → pin_bit (deep_of s) s p ≡ pin_bit (deep_of s) t p
    same_pins p h = go (ℕ_discrete (leaf_bit (deep_of s) s p) 1)
      where
        go : Dec (leaf_bit (deep_of s) s p ≡ 1) → pin_bit (deep_of s) s p ≡ pin_bit (deep_of s) t p
        go (yes b) = let (k, l, q, u) = set_leaf (deep_of s) (leaf_bit (deep_of s) s) (good_bits s S) p h b in own k p l q
        go (no b) = omega (arith, leaf_bits (deep_of s) s p, S.pins p h, subst (λ x. PinsOnLeaves x t) d T.pins p h, leaves p h)

    -- behind the words stand the pins, and then nothing
    same_behind : (p : ℕ) → 2 ^ (deep_of s + 2) ≤ p → bit s p ≡ bit t p
    unfolding pin_bit
    same_behind p h = go (dec_lt p (5 * 2 ^ deep_of s))
      where
        four : 4 * 2 ^ deep_of s ≤ p
        four = omega (arith, pow-add 2 (deep_of s) 2)

        go : Dec (p < 5 * 2 ^ deep_of s) → bit s p ≡ bit t p
        go (yes l) =
            subst (λ x. bit s x ≡ bit t x) (let i : 4 * 2 ^ deep_of s + (p - 4 * 2 ^ deep_of s) ≡ p = omega (arith, four) in i)
            (same_pins (p - 4 * 2 ^ deep_of s) (omega (arith, four)))
        go (no l) = let b = fits_bits s (deep_of s) S.fits in past s p (omega arith) ∙ sym (past t p (omega arith))

  pub bytes_same : Bytes s → Bytes t → ((n : ℕ) → 1 ≤ n → (CutOf s n ↔ CutOf t n)) → ((k : ℕ) → LeafOf s k → Pinned s k ↔ Pinned t k) → s ≡ t
  bytes_same bs bt c pins =
      let leaves = same_leaf_bits c in
      right_one bs bt e S.right (subst (λ D. Right D t) d T.right) leaves (same_behind leaves pins)
