-- Several fields put one after the other: apart from one another, each holds its number.
use mathlib.Core.Path.{◌≡◌, refl, sym, ap, ◌∙◌}
use mathlib.Core.Logic.{◌⊎◌, inl, inr, ⊎_elim}
use mathlib.Core.List.{List, [], ◌∷◌}
use Prim.Native.Nat.{ℕ, ◌+◌, ◌*◌, ◌^◌, ◌≤◌, ◌<◌}
use native.Mathlib.Omega.{arith}
use lib.ListN.{length}
use Rattle.bits.specs.Bits.{field}
use Rattle.bits.specs.inner.Puts.{put_field, Apart}
use Rattle.bits.proofs.Laws.{le_or_lt, length-put_field, field_put_same, field_put_other}

-- the number `value` is put into the `width` bits from bit `start` on
pub record Put : Type 0 where
  pub start : ℕ
  pub width : ℕ
  pub value : ℕ

abbrev pub put_one : List ℕ → Put → List ℕ
put_one bs p = put_field bs p.start p.width p.value

abbrev pub puts : List ℕ → List Put → List ℕ
puts bs [] = bs
puts bs (p ∷ ps) = puts (put_one bs p) ps

-- zs is xs after them, one by one
abbrev pub Steps : List ℕ → List Put → List ℕ → Type 0
Steps xs [] zs = zs ≡ xs
Steps xs (p ∷ ps) zs = (ys : List ℕ) × ((ys ≡ put_one xs p) × Steps ys ps zs)

pub puts_are : (xs : List ℕ) (ps : List Put) (zs : List ℕ) → Steps xs ps zs → zs ≡ puts xs ps
puts_are xs [] zs e = e
puts_are xs (p ∷ ps) zs (ys, (e, s)) = puts_are ys ps zs s ∙ ap (λ (bs : List ℕ). puts bs ps) e

-- the u bits from bit t on are apart from all of them
abbrev pub Aside : ℕ → ℕ → List Put → Type 0
Aside t u [] = Unit {0}
Aside t u (p ∷ ps) = Apart p.start p.width t u × Aside t u ps

-- each number fits its field, the first field ends within n bits, and each other before the field that is put before it starts
abbrev pub Fit : ℕ → List Put → Type 0
Fit n [] = Unit {0}
Fit n (p ∷ ps) = (p.value < 2 ^ p.width) × ((p.start + p.width ≤ n) × Fit p.start ps)

-- each field holds its number
abbrev pub Hold : List ℕ → List Put → Type 0
Hold bs [] = Unit {0}
Hold bs (p ∷ ps) = (p.value ≡ field bs p.start p.width) × Hold bs ps

-- one ends before the other starts
apart_either : (s w t u : ℕ) → Apart s w t u → (t + u ≤ s) ⊎ (s + w ≤ t)
apart_either s w t u h = ⊎_elim inl (λ a. ⊎_elim inr (λ b. absurd (h a b)) (le_or_lt (s + w) t)) (le_or_lt (t + u) s)

pub length_puts : (bs : List ℕ) (ps : List Put) → length (puts bs ps) ≡ length bs
length_puts bs [] = refl
length_puts bs (p ∷ ps) = length_puts (put_one bs p) ps ∙ length-put_field bs p.start p.width p.value

pub field_aside : (bs : List ℕ) (ps : List Put) (t u : ℕ) → Aside t u ps → field (puts bs ps) t u ≡ field bs t u
field_aside bs [] t u h = refl
field_aside bs (p ∷ ps) t u h =
    field_aside (put_one bs p) ps t u h.1
    ∙ field_put_other bs p.start p.width p.value t u (apart_either p.start p.width t u h.0)

fit_aside : (n : ℕ) (ps : List Put) (t u : ℕ) → n ≤ t → Fit n ps → Aside t u ps
fit_aside n [] t u l f = tt
fit_aside n (p ∷ ps) t u l f = (omega arith, fit_aside p.start ps t u (omega arith) f.1.1)

pub puts_hold : (bs : List ℕ) (ps : List Put) (n : ℕ) → n ≤ 8 * length bs → Fit n ps → Hold (puts bs ps) ps
puts_hold bs [] n l f = tt
puts_hold bs (p ∷ ps) n l f = (
  sym (field_aside (put_one bs p) ps p.start p.width (fit_aside p.start ps p.start p.width (omega arith) f.1.1)
      ∙ field_put_same bs p.start p.width p.value f.0 (omega arith)),
  puts_hold (put_one bs p) ps p.start (omega (arith, length-put_field bs p.start p.width p.value)) f.1.1,
)
