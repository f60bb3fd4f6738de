-- The digits of the bits that two numbers both have, of those that one of them has, and of shifted bits.
use mathlib.Core.Path.{◌≡◌, ap, ◌∙◌}
use mathlib.Core.Logic.{◌⊎◌, inl, inr, ⊎_elim, ◌↔◌}
use Prim.Native.Nat.{ℕ, ◌+◌, ◌-◌, ◌*◌, ◌/◌, ◌%◌, ◌^◌, ◌≤◌, ◌<◌, min, max}
use native.Mathlib.Nat.{le-min, min-le_left, min-le_right, max-le, le-max_left, le-max_right}
use native.Mathlib.Decide.{ℕ_discrete}
use native.Mathlib.Omega.{arith}
use lib.Bits.{bit_and, and_step, and_shr, bit_or, or_step, or_shr}
use lib.Pow.{pow_pos}
use Rattle.bits.specs.Bits.{digit}
use Rattle.bits.proofs.Laws.{digit_lt, digit-mod, digit_high}

-- ---- both, and one

-- each digit is the smaller of the two ..
pub and_digit : (x y i : ℕ) → digit (bit_and x y) i ≡ min (digit x i) (digit y i)
and_digit x y i =
    let a : ℕ = x / 2 ^ i in
    let b : ℕ = y / 2 ^ i in
    let s : bit_and x y / 2 ^ i ≡ bit_and (a / 2) (b / 2) * 2 + min (a % 2) (b % 2) = and_shr x y i ∙ and_step a b in
    let l : min (a % 2) (b % 2) ≤ b % 2 = min-le_right (a % 2) (b % 2) in
    omega arith

-- .. or the greater
pub or_digit : (x y i : ℕ) → digit (bit_or x y) i ≡ max (digit x i) (digit y i)
or_digit x y i =
    let a : ℕ = x / 2 ^ i in
    let b : ℕ = y / 2 ^ i in
    let s : bit_or x y / 2 ^ i ≡ bit_or (a / 2) (b / 2) * 2 + max (a % 2) (b % 2) = or_shr x y i ∙ or_step a b in
    let l : max (a % 2) (b % 2) ≤ 1 = max-le (omega arith) (omega arith) in
    omega arith

pub and_set : (x y i : ℕ) → (digit (bit_and x y) i ≡ 1) ↔ ((digit x i ≡ 1) × (digit y i ≡ 1))
and_set x y i =
    let e = and_digit x y i in (
      λ s. (omega (arith, e, min-le_left (digit x i) (digit y i), digit_lt x i), omega (arith, e, min-le_right (digit x i) (digit y i), digit_lt y i)),
      λ s. let l : 1 ≤ min (digit x i) (digit y i) = le-min (omega arith) (omega arith) in omega (arith, e, digit_lt (bit_and x y) i),
    )

pub or_set : (x y i : ℕ) → (digit (bit_or x y) i ≡ 1) ↔ ((digit x i ≡ 1) ⊎ (digit y i ≡ 1))
or_set x y i = (λ s. go s (ℕ_discrete (digit x i) 1) (ℕ_discrete (digit y i) 1), ⊎_elim (λ s. omega (arith, e, le-max_left (digit x i) (digit y i), digit_lt (bit_or x y) i)) (λ s. omega (arith, e, le-max_right (digit x i) (digit y i), digit_lt (bit_or x y) i)))
  where
    e : digit (bit_or x y) i ≡ max (digit x i) (digit y i)
    e = or_digit x y i

    go : digit (bit_or x y) i ≡ 1 → Dec (digit x i ≡ 1) → Dec (digit y i ≡ 1) → (digit x i ≡ 1) ⊎ (digit y i ≡ 1)
    go s (yes a) b = inl a
    go s (no a) (yes b) = inr b
    go s (no a) (no b) = absurd (let l : max (digit x i) (digit y i) ≤ 0 = max-le (omega (arith, digit_lt x i)) (omega (arith, digit_lt y i)) in omega (arith, e))

-- ---- shifted up by k, in w bits

module _ (x k w p : ℕ) (h : p < w) where
  pub shl_digit : k ≤ p → digit (x * 2 ^ k % 2 ^ w) p ≡ digit x (p - k)
  shl_digit l =
      digit-mod (x * 2 ^ k) p w h ∙ ap (λ (n : ℕ). digit n p) (let e : x * 2 ^ k ≡ x * 2 ^ k + 0 = omega arith in e)
      ∙ ap (digit (x * 2 ^ k + 0)) (let e : p ≡ k + (p - k) = omega arith in e) ∙ digit_high x k (p - k) (pow_pos k)
