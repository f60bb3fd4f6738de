-- The same bit of each word of v bits, masked: two such numbers are compared word by word.
use mathlib.Core.Path.{◌≡◌, refl, sym, ap, ap₂, ◌∙◌}
use Prim.Native.Nat.{ℕ, zero, suc, ◌+◌, ◌*◌, ◌/◌, ◌^◌, ◌≤◌, ◌<◌}
use native.Mathlib.Omega.{arith}
use lib.Pow.{pow_mono}
use lib.Bits.{bit_and, and_le_l, and_le_r}
use Rattle.bits.specs.Bits.{digit}
use Rattle.bits.proofs.Laws.{digit_lt}
use Rattle.bits.specs.inner.Abreast.{abreast, Ones}
use Rattle.bits.proofs.Abreast.{bits_at, and_words, words_same, same_words}
use Rattle.leafwords.specs.inner.LeafWord.{Under, Same}

bit_fits : (n v k : ℕ) → 1 ≤ v → digit n k < 2 ^ v
bit_fits n v k h = omega (arith, digit_lt n k, pow_mono {i = 1} {j = v} h)

module _ {v mask : ℕ} (o : Ones v mask) (x : ℕ) where
  -- bit a of each word
  pub taken : (a : ℕ) → bit_and (x / 2 ^ a) mask ≡ abreast (64 / v) v (λ i. digit x (a + i * v))
  taken a = ap (bit_and (x / 2 ^ a)) o.is ∙ bits_at (64 / v) v a x o.some

  both_bits : (a p : ℕ) → ℕ → ℕ
  both_bits a p i = bit_and (digit x (a + i * v)) (digit x (p + i * v))

  taken_both : (a p : ℕ) → bit_and (bit_and (x / 2 ^ a) mask) (bit_and (x / 2 ^ p) mask) ≡ abreast (64 / v) v (both_bits a p)
  unfolding both_bits
  taken_both a p =
      ap₂ bit_and (taken a) (taken p) ∙ and_words (64 / v) v (λ i. digit x (a + i * v)) (λ i. digit x (p + i * v)) (λ i. bit_fits x v (a + i * v) o.some) (λ i. bit_fits x v (p + i * v) o.some)

  pub under_is : (a p : ℕ) → bit_and (bit_and (x / 2 ^ a) mask) (bit_and (x / 2 ^ p) mask) ≡ bit_and (x / 2 ^ a) mask → Under (64 / v) v a p x
  unfolding both_bits
  under_is a p e = record {
    at = λ i l.
        let h : both_bits a p i ≡ digit x (a + i * v) = words_same (64 / v) v (both_bits a p) (λ i. digit x (a + i * v)) (λ i. omega (arith, and_le_l (digit x (a + i * v)) (digit x (p + i * v)), bit_fits x v (a + i * v) o.some)) (λ i. bit_fits x v (a + i * v) o.some) (sym (taken_both a p) ∙ e ∙ taken a) i l in
        omega (arith, and_le_r (digit x (a + i * v)) (digit x (p + i * v)));
  }

  pub is_under : (a p : ℕ) → Under (64 / v) v a p x → bit_and (bit_and (x / 2 ^ a) mask) (bit_and (x / 2 ^ p) mask) ≡ bit_and (x / 2 ^ a) mask
  unfolding both_bits
  is_under a p u =
      taken_both a p ∙ same_words (64 / v) v (both_bits a p) (λ i. digit x (a + i * v)) (λ i l. least (digit x (a + i * v)) (digit x (p + i * v)) (digit_lt x (a + i * v)) (digit_lt x (p + i * v)) (u.at i l)) ∙ sym (taken a)
    where
      least : (m n : ℕ) → m < 2 → n < 2 → m ≤ n → bit_and m n ≡ m
      least zero n a b l = refl
      least (suc zero) zero a b l = absurd (omega arith)
      least (suc zero) (suc zero) a b l = refl
      least (suc zero) (suc (suc n)) a b l = absurd (omega arith)
      least (suc (suc m)) n a b l = absurd (omega arith)

  pub same_is : (a p : ℕ) → bit_and (x / 2 ^ a) mask ≡ bit_and (x / 2 ^ p) mask → Same (64 / v) v a p x
  same_is a p e = record { at = words_same (64 / v) v (λ i. digit x (a + i * v)) (λ i. digit x (p + i * v)) (λ i. bit_fits x v (a + i * v) o.some) (λ i. bit_fits x v (p + i * v) o.some) (sym (taken a) ∙ e ∙ taken p) }

  pub is_same : (a p : ℕ) → Same (64 / v) v a p x → bit_and (x / 2 ^ a) mask ≡ bit_and (x / 2 ^ p) mask
  is_same a p u = taken a ∙ same_words (64 / v) v (λ i. digit x (a + i * v)) (λ i. digit x (p + i * v)) u.at ∙ sym (taken p)

-- the masks
pub ones_4 : Ones 4 1229782938247303441
unfolding abreast
ones_4 = record { is = refl; some = omega arith }

pub ones_8 : Ones 8 72340172838076673
unfolding abreast
ones_8 = record { is = refl; some = omega arith }

pub ones_16 : Ones 16 281479271743489
unfolding abreast
ones_16 = record { is = refl; some = omega arith }

pub ones_32 : Ones 32 4294967297
unfolding abreast
ones_32 = record { is = refl; some = omega arith }

pub ones_64 : Ones 64 1
unfolding abreast
ones_64 = record { is = refl; some = omega arith }

pub ruleset masks = (ones_4, ones_8, ones_16, ones_32, ones_64)
