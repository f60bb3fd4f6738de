-- The fewest digits of a number are so many and no other count, so two numbers have one line.
use mathlib.Core.Path.{◌≡◌, refl, sym, ap, ◌∙◌}
use mathlib.Core.List.{List, [], ◌∷◌, ◌++◌, append_assoc}
use Prim.Native.Nat.{ℕ, ◌+◌, ◌-◌, ◌^◌, ◌≤◌, ◌<◌}
use native.Mathlib.Nat.{le_antisymm, lt_of_not-le, pow-le-pow_right}
use native.Mathlib.Omega.{arith}
use Rattle.io.specs.Digits.{last_digits, IsDigitCount}
use Rattle.lines.specs.Lines.{Decimal, Line}
use Rattle.lines.specs.inner.Adding.{Added}

-- a number below 10 ^ k has no more than k digits
few_digits : {n k j : ℕ} → IsDigitCount 10 1 n j → 1 ≤ k → n < 10 ^ k → j ≤ k
few_digits {n} {k} {j} f h l = omega (arith, lt_of_not-le {n = k + 1} {m = j} many)
  where
    many : k + 1 ≤ j → ⊥
    many m = omega (arith, l, f.2 (omega (arith, h)), pow-le-pow_right {n = 10} (omega arith) {i = k} {j = j - 1} (omega arith))

-- so a number of 64 bits has no more than 20
pub digits_20 : {n j : ℕ} → IsDigitCount 10 1 n j → n < 2 ^ 64 → j ≤ 20
digits_20 f h = few_digits {k = 20} f (omega arith) (omega (arith, h))

decimal_one : {n : ℕ} {t u : List ℕ} → Decimal n t → Decimal n u → t ≡ u
decimal_one {n} d e =
    let f = d.fewest in
    let g = e.fewest in
    d.text ∙ ap (λ (k : ℕ). last_digits 10 k n) (le_antisymm (few_digits f g.0 g.1) (few_digits g f.0 f.1)) ∙ sym e.text

-- two lines of the same two numbers are equal
pub line_one : {a b : ℕ} {t u : List ℕ} → Line a b t → Line a b u → t ≡ u
line_one p q =
    p.text
    ∙ ap (λ (l : List ℕ). l ++ 32 ∷ p.second ++ 10 ∷ []) (decimal_one p.first_is q.first_is)
    ∙ ap (λ (l : List ℕ). q.first ++ 32 ∷ l ++ 10 ∷ []) (decimal_one p.second_is q.second_is)
    ∙ sym q.text

-- a line's four parts, each put behind what stands before it
pub line_added : {a b : ℕ} {f s t₀ t₁ t₂ t₃ t₄ : List ℕ} → Decimal a f → Decimal b s → t₁ ≡ t₀ ++ f → t₂ ≡ t₁ ++ (32 ∷ []) → t₃ ≡ t₂ ++ s → t₄ ≡ t₃ ++ (10 ∷ []) → Added a b t₀ t₄
line_added {f = f} {s = s} d e e₁ e₂ e₃ e₄ =
    record {
      text = f ++ 32 ∷ s ++ 10 ∷ [];
      line = record { first = f; second = s; first_is = d; second_is = e; text = refl };
      all = rw (e₄, e₃, e₂, e₁) (simp append_assoc);
    }

-- the third line of 01's example
pub example_line : Line 3 4 (51 ∷ 32 ∷ 52 ∷ 10 ∷ [])
example_line = record { first = 51 ∷ []; second = 52 ∷ []; first_is = short 3 (omega arith); second_is = short 4 (omega arith); text = refl }
  where
    short : (n : ℕ) → n < 10 → Decimal n (last_digits 10 1 n)
    short n h = record { places = 1; fewest = (omega arith, h, λ l. omega arith); text = refl }
