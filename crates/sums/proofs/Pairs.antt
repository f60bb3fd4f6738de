-- Several words of a row side by side are one field, and a number's parts make it: so sums of a row are tested and made several at once.
use mathlib.Core.Path.{◌≡◌, sym, ap, ap₂, ◌∙◌, subst}
use mathlib.Core.List.{List}
use Prim.Native.Nat.{ℕ, zero, suc, ◌+◌, ◌-◌, ◌*◌, ◌/◌, ◌%◌, ◌^◌, ◌≤◌, ◌<◌}
use native.Mathlib.Nat.{add_assoc, add_comm, add-zero, div-one, zero-mul, suc-mul, mul-le-mul_right, mod-one, mod-eq_of_lt}
use native.Mathlib.Omega.{arith}
use lib.Pow.{mod-pow-add, shr_mod}
use Rattle.bits.specs.Bits.{digit, bit, field}
use Rattle.bits.proofs.Laws.{run_ext, run-digit, run_digits, bit_lt, field_lt}
use Rattle.nodes.proofs.Depths.{pow_next}
use Rattle.words.specs.Words.{word}
use Rattle.bits.specs.inner.Abreast.{part}
use Rattle.sums.specs.inner.Rows.{SumAt, SumsBetween, PairSums}
use Rattle.words.proofs.Slots.{from}
use Rattle.sums.proofs.Rows.{word_at, from_at}

-- a part of a field is a field
part_field : (bs : List ℕ) (s m a b : ℕ) → a + b ≤ m → field bs s m / 2 ^ a % 2 ^ b ≡ field bs (s + a) b
part_field bs s m a b h =
    sym (run_digits (field bs s m) a b)
    ∙ run_ext (digit (field bs s m)) (bit bs) a (s + a) b (λ i l. run-digit (bit bs) (bit_lt bs) s m (a + i) (omega arith) ∙ ap (bit bs) (sym (add_assoc s a i)))

-- its lowest bits
pub field-mod : (bs : List ℕ) (s m b : ℕ) → b ≤ m → field bs s m % 2 ^ b ≡ field bs s b
field-mod bs s m b h = ap (λ (x : ℕ). x % 2 ^ b) (sym (div-one (field bs s m))) ∙ part_field bs s m 0 b (omega arith) ∙ ap (λ (x : ℕ). field bs x b) (add-zero s)

-- its bits from bit a on
pub field_high : (bs : List ℕ) (s a b : ℕ) → field bs s (b + a) / 2 ^ a ≡ field bs (s + a) b
field_high bs s a b = sym (shr_mod b a (field_lt bs s (b + a))) ∙ part_field bs s (b + a) a b (omega arith)

-- n words of w bits side by side are one field
word-part : (D d w : ℕ) → d + w ≡ D + 1 → d ≤ D → (bs : List ℕ) (k n i : ℕ) → 2 ^ d ≤ k → k + n ≤ 2 ^ (d + 1) → i < n
    → part w (field bs (from D k) (n * w)) i ≡ word D bs (k + i)
word-part D d w h hd bs k n i lo hi l =
    part_field bs (from D k) (n * w) (i * w) w (omega (arith, suc-mul i w, mul-le-mul_right {m = suc i} {n = n} w l))
    ∙ ap (λ (s : ℕ). field bs s w) (sym (from_at D d w h hd k i lo (omega arith))) ∙ sym (word_at D d w h hd bs (k + i) (omega arith) (omega arith))

-- ---- sums of a row, several at once

module _ (D d w : ℕ) (h : d + w ≡ D) (hw : 1 ≤ w) (bs : List ℕ) (k n : ℕ) (lo : 2 ^ d ≤ k) (hi : k + n ≤ 2 ^ (d + 1)) where
  own : (i : ℕ) → i < n → part (w + 1) (field bs (from D k) (n * (w + 1))) i ≡ word D bs (k + i)
  own i l = word-part D d (w + 1) (omega arith) (omega arith) bs k n i lo hi l

  kids : (i : ℕ) → i < n
      → let x = field bs (from D (2 * k)) (2 * n * w) in part w x (2 * i) + part w x (2 * i + 1) ≡ word D bs (2 * (k + i)) + word D bs (2 * (k + i) + 1)
  kids i l = ap₂ (λ (x y : ℕ). x + y) (child (2 * i) (2 * (k + i)) (omega arith) (omega arith)) (child (2 * i + 1) (2 * (k + i) + 1) (omega arith) (omega arith))
    where
      child : (i j : ℕ) → i < 2 * n → 2 * k + i ≡ j → part w (field bs (from D (2 * k)) (2 * n * w)) i ≡ word D bs j
      child i j l e =
          word-part D (d + 1) w (omega arith) (omega arith) bs (2 * k) (2 * n) i (omega (arith, pow_next d)) (omega (arith, pow_next (d + 1))) l ∙ ap (word D bs) e

  pub pairs_sums : PairSums n w (field bs (from D (2 * k)) (2 * n * w)) (field bs (from D k) (n * (w + 1))) → SumsBetween D bs k (k + n)
  pairs_sums s j a b =
      let i = j - k in
      let e : k + i ≡ j = omega arith in
      subst (SumAt D bs) e (sym (own i (omega arith)) ∙ s i (omega arith) ∙ kids i (omega arith))

  pub sums_pairs : SumsBetween D bs k (k + n) → PairSums n w (field bs (from D (2 * k)) (2 * n * w)) (field bs (from D k) (n * (w + 1)))
  sums_pairs s i l = own i l ∙ s (k + i) (omega arith) (omega arith) ∙ sym (kids i l)

-- ---- the parts make the number

parts_mod : (n w x y : ℕ) → ((i : ℕ) → i < n → part w x i ≡ part w y i) → x % 2 ^ (n * w) ≡ y % 2 ^ (n * w)
parts_mod zero w x y h = let e = zero-mul w in ap (λ (m : ℕ). x % 2 ^ m) e ∙ mod-one x ∙ sym (ap (λ (m : ℕ). y % 2 ^ m) e ∙ mod-one y)
parts_mod (suc n) w x y h =
    let e : suc n * w ≡ w + n * w = suc-mul n w ∙ add_comm (n * w) w in
    ap (λ (m : ℕ). x % 2 ^ m) e ∙ mod-pow-add x w (n * w)
    ∙ ap₂ (λ (a b : ℕ). a * 2 ^ (n * w) + b) (h n (omega arith)) (parts_mod n w x y (λ i l. h i (omega arith)))
    ∙ sym (ap (λ (m : ℕ). y % 2 ^ m) e ∙ mod-pow-add y w (n * w))

-- the sums of the words in x are one number
pub pairs_one : (n w x : ℕ) {y z : ℕ} → y < 2 ^ (n * (w + 1)) → z < 2 ^ (n * (w + 1)) → PairSums n w x y → PairSums n w x z → y ≡ z
pairs_one n w x {y} {z} hy hz p q =
    sym (mod-eq_of_lt hy) ∙ parts_mod n (w + 1) y z (λ i l. p i l ∙ sym (q i l)) ∙ mod-eq_of_lt hz
