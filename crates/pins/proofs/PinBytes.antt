-- A pin byte and the leaf byte beside it hold the same eight places, and all bytes hold all places: what is tested or cleared in every byte is in every place.
use mathlib.Core.Path.{◌≡◌, ap, ap₂, ◌∙◌, subst}
use mathlib.Core.Logic.{◌↔◌, inl, inr, ⊎_elim}
use mathlib.Core.List.{List}
use Prim.Native.Nat.{ℕ, ◌+◌, ◌-◌, ◌*◌, ◌/◌, ◌%◌, ◌^◌, ◌≤◌, ◌<◌, min}
use native.Mathlib.Nat.{mul_left_comm, div-eq_of_lt, min-le_left, min-le_right}
use native.Mathlib.Decide.{dec_lt}
use native.Mathlib.Omega.{arith}
use Rattle.bits.specs.Bits.{digit, bit, field}
use Rattle.bits.specs.inner.Puts.{put_field}
use Rattle.bits.proofs.Digitwise.{and_digit}
use Rattle.bits.proofs.Laws.{run-digit, bit_lt, field_lt, le_or_lt, length-put_field, bit_in, bit_out}
use lib.Bits.{bit_and}
use lib.Dec.{eqb}
use lib.ListN.{length}
use lib.Pow.{pow_mono}
use Rattle.tables.specs.inner.Says.{Says}
use Rattle.tables.proofs.Tables.{says_equal}
use Rattle.words.specs.Words.{leaf_bit}
use Rattle.words.specs.inner.Working.{Room}
use Rattle.words.proofs.Rooms.{Quarter, bounds, whole_bytes}
use Rattle.pins.specs.Pins.{pin_place, pin_bit, PinsOnLeaves}
use Rattle.pins.specs.inner.Steps.{PinRoom, PinsInBytes, ByteOnLeaves, ClearedBetween, PinsCleared}
use Rattle.pins.proofs.PinBits.{pin_lt}
use Rattle.pins.proofs.Within.{and_within, within_and}

-- a byte has eight digits
high_digit : (x i : ℕ) → x < 256 → 8 ≤ i → digit x i ≡ 0
high_digit x i l h = ap (λ (z : ℕ). z % 2) (div-eq_of_lt (let b : x < 2 ^ i = omega (arith, pow_mono {i = 8} {j = i} h) in b))

module _ (D : ℕ) (low : 3 ≤ D) (bs : List ℕ) where
  byte_bit : (b j i : ℕ) → i < 8 → digit (field bs (8 * (b * 2 ^ (D - 3) + j)) 8) i ≡ bit bs (b * 2 ^ D + (8 * j + i))
  byte_bit b j i h =
      run-digit (bit bs) (bit_lt bs) (8 * (b * 2 ^ (D - 3) + j)) 8 i h
      ∙ ap (bit bs) (omega (arith, ap (λ (x : ℕ). b * x) (whole_bytes D low), mul_left_comm b 8 (2 ^ (D - 3))))

  pub says_byte : {x y : ℕ} (j : ℕ) → x ≡ field bs (8 * (4 * 2 ^ (D - 3) + j)) 8 → y ≡ field bs (8 * (3 * 2 ^ (D - 3) + j)) 8
      → Says (ByteOnLeaves D bs j) (eqb (bit_and x y) x)
  unfolding pin_bit leaf_bit
  says_byte {x} {y} j p q = says_equal (bit_and x y) x (λ e i h. omega (arith, pin i h, leaf i h, and_within x y e i)) (λ f. within_and x y (λ i. all f i (dec_lt i 8)))
    where
      pin : (i : ℕ) → i < 8 → digit x i ≡ bit bs (4 * 2 ^ D + (8 * j + i))
      pin i h = ap (λ u. digit u i) p ∙ byte_bit 4 j i h

      leaf : (i : ℕ) → i < 8 → digit y i ≡ bit bs (3 * 2 ^ D + (8 * j + i))
      leaf i h = ap (λ u. digit u i) q ∙ byte_bit 3 j i h

      all : ByteOnLeaves D bs j → (i : ℕ) → Dec (i < 8) → digit x i ≤ digit y i
      all f i (yes h) = omega (arith, pin i h, leaf i h, f i h)
      all f i (no h) = omega (arith, high_digit x i (omega (arith, p, field_lt bs (8 * (4 * 2 ^ (D - 3) + j)) 8)) (omega arith))

  pub bytes_all : ((j : ℕ) → j < 2 ^ (D - 3) → ByteOnLeaves D bs j) → PinsOnLeaves D bs
  bytes_all f p h =
      subst (λ q. pin_bit D bs q ≤ leaf_bit D bs q) (let e : 8 * (p / 8) + p % 8 ≡ p = omega arith in e)
      (f (p / 8) (omega (arith, whole_bytes D low)) (p % 8) (omega arith))

  pub all_bytes : PinsOnLeaves D bs → (j : ℕ) → j < 2 ^ (D - 3) → ByteOnLeaves D bs j
  all_bytes f j h i l = f (8 * j + i) (omega (arith, whole_bytes D low))

-- ---- by the number of bytes

-- the number of bytes, as the code computes it
abbrev pub eighth_of : ℕ → ℕ
eighth_of D = 1 * 2 ^ D % 2 ^ 64 / 8

pub eighth : {D : ℕ} {bs : List ℕ} → Room D bs → Quarter D (length bs) (eighth_of D)
eighth r =
    let b = bounds r in
    record { is = omega (arith, b); some = omega (arith, b); small = omega (arith, b); inside = omega (arith, b, r.long) }

pub in_bytes : {D : ℕ} {bs : List ℕ} → PinRoom D bs → PinsInBytes D (eighth_of D) bs
in_bytes r =
    let q = eighth r.words in
    let b = bounds r.words in
    record { whole = omega arith; small = q.small; room = omega (arith, r.pins) }

module _ {D n : ℕ} {bs : List ℕ} (w : PinsInBytes D n bs) where
  byte_digit : (b j i : ℕ) → i < 8 → digit (field bs (8 * (b * n + j)) 8) i ≡ bit bs (b * 2 ^ D + (8 * j + i))
  byte_digit b j i h =
      run-digit (bit bs) (bit_lt bs) (8 * (b * n + j)) 8 i h
      ∙ ap (bit bs) (omega (arith, ap (λ (x : ℕ). b * x) w.whole, mul_left_comm b 8 n))

  -- pin byte j is x, and the leaf byte beside it y
  module _ {x y : ℕ} (j : ℕ) (here : j < n) (p : x ≡ field bs (8 * (4 * n + j)) 8) (q : y ≡ field bs (8 * (3 * n + j)) 8) where
    pin : (i : ℕ) → i < 8 → digit x i ≡ pin_bit D bs (8 * j + i)
    unfolding pin_bit
    pin i h = ap (λ u. digit u i) p ∙ byte_digit 4 j i h

    leaf : (i : ℕ) → i < 8 → digit y i ≡ leaf_bit D bs (8 * j + i)
    unfolding leaf_bit
    leaf i h = ap (λ u. digit u i) q ∙ byte_digit 3 j i h

    -- the bits that both have, for the pin byte
    abbrev cleared : List ℕ
    cleared = put_field bs (8 * (4 * n + j)) 8 (bit_and x y)

    pin_cleared : (i : ℕ) → i < 8 → pin_bit D cleared (8 * j + i) ≡ min (pin_bit D bs (8 * j + i)) (leaf_bit D bs (8 * j + i))
    unfolding pin_bit
    pin_cleared i h =
        ap (bit cleared) (let e : 4 * 2 ^ D + (8 * j + i) ≡ 8 * (4 * n + j) + i = omega arith in e)
        ∙ bit_in bs (8 * (4 * n + j)) 8 (bit_and x y) i h (omega arith) ∙ and_digit x y i ∙ ap₂ min (pin i h) (leaf i h)

    pub byte_cleared : ClearedBetween D (8 * j) (8 * (j + 1)) bs cleared
    byte_cleared = record {
      long = length-put_field bs (8 * (4 * n + j)) 8 (bit_and x y);
      pins = λ r l h. subst (λ z. pin_bit D cleared z ≡ min (pin_bit D bs z) (leaf_bit D bs z)) (let e : 8 * j + (r - 8 * j) ≡ r = omega arith in e) (pin_cleared (r - 8 * j) (omega arith));
      same = λ r o. bit_out bs (8 * (4 * n + j)) 8 (bit_and x y) r (⊎_elim (λ l. inl (omega arith)) (λ l. inr (omega arith)) o);
    }

-- ---- pins cleared part by part

module _ {D a b c : ℕ} {xs ys zs : List ℕ} (low : a ≤ b) (mid : b ≤ c) (top : c ≤ 2 ^ D) (s : ClearedBetween D a b xs ys) (t : ClearedBetween D b c ys zs) where
  -- the part before stays
  before : (p : ℕ) → p < b → pin_bit D zs p ≡ pin_bit D ys p
  unfolding pin_bit
  before p h = t.same (pin_place D p) (inl (omega arith))

  -- and the part behind stood, with its leaf bits
  behind : (p : ℕ) → b ≤ p → pin_bit D ys p ≡ pin_bit D xs p
  unfolding pin_bit
  behind p h = s.same (pin_place D p) (inr (omega arith))

  beside : (p : ℕ) → p < c → leaf_bit D ys p ≡ leaf_bit D xs p
  unfolding leaf_bit
  beside p h = s.same (3 * 2 ^ D + p) (inl (omega arith))

  pub cleared_join : ClearedBetween D a c xs zs
  cleared_join = record {
    long = t.long ∙ s.long;
    pins = λ p l h. ⊎_elim (λ k. t.pins p k h ∙ ap₂ min (behind p k) (beside p h)) (λ k. before p k ∙ s.pins p l k) (le_or_lt b p);
    same = λ q o. t.same q (⊎_elim (λ k. inl (omega arith)) inr o) ∙ s.same q (⊎_elim inl (λ k. inr (omega arith)) o);
  }

-- all parts
pub cleared_all : {D b : ℕ} {xs ys : List ℕ} → 2 ^ D ≡ b → ClearedBetween D 0 b xs ys → PinsCleared D xs ys
unfolding leaf_bit
cleared_all {D} {b} {xs} {ys} e s = record {
  long = s.long;
  pins = λ p h. both (pin_lt D xs p) (bit_lt xs (3 * 2 ^ D + p)) (s.pins p (omega arith) (omega arith));
  same = λ q h. s.same q (inl (omega arith));
}
  where
    both : {x y z : ℕ} → x < 2 → y < 2 → z ≡ min x y → (z ≡ 1) ↔ ((x ≡ 1) × (y ≡ 1))
    both {x} {y} {z} h k e = (λ o. (omega (arith, min-le_left x y), omega (arith, min-le_right x y)), λ o. e ∙ ap₂ min o.0 o.1)
