-- The first D + 3 bits are bits 0 and 1 and word 0, so as a number they are 4 D only where both bits are zero and word 0 holds D.
use mathlib.Core.Path.{◌≡◌, sym, ap, ap₂, ◌∙◌}
use mathlib.Core.List.{List}
use Prim.Native.Nat.{ℕ, zero, suc, ◌+◌, ◌*◌, ◌^◌, ◌≤◌, ◌<◌}
use native.Mathlib.Nat.{pow-suc}
use native.Mathlib.Omega.{arith}
use lib.ListN.{length}
use lib.Pow.{pow_pos, pow-add}
use Rattle.bits.specs.Bits.{bit, run, field}
use Rattle.bits.proofs.Laws.{bit_lt}
use Rattle.nodes.proofs.Depths.{depth_zero}
use Rattle.words.specs.Words.{width, word}
use Rattle.words.specs.inner.Working.{Room}
use Rattle.words.proofs.Slots.{wide, from_zero, in_panel}

wide_zero : (D : ℕ) → wide D 0 ≡ D + 1
wide_zero D = ap (width D) depth_zero ∙ omega arith

pub head_inside : (D : ℕ) (bs : List ℕ) → Room D bs → D + 3 ≤ 8 * length bs
head_inside D bs r = omega (arith, in_panel D 0 (pow_pos (D + 1)), from_zero D, wide_zero D, r.long)

pub head_fits : (D : ℕ) → 4 * D < 2 ^ (D + 3)
head_fits zero = omega arith
head_fits (suc D) = omega (arith, head_fits D, pow-add 2 D 3, pow-add 2 (suc D) 3, pow-suc 2 D, pow_pos D)

pub head_is : (D : ℕ) (bs : List ℕ) → field bs 0 (D + 3) ≡ bit bs 0 + 2 * (bit bs 1 + 2 * word D bs 0)
unfolding run word
head_is D bs =
    ap (field bs 0) {x = D + 3} {y = suc (suc (D + 1))} (omega arith)
    ∙ ap (λ (x : ℕ). bit bs 0 + 2 * (bit bs 1 + 2 * x)) (sym (ap₂ (field bs) (from_zero D) (wide_zero D)))

-- what the head says
pub head_right : (D : ℕ) (bs : List ℕ) → field bs 0 (D + 3) ≡ 4 * D → (bit bs 0 ≡ 0) × (bit bs 1 ≡ 0) × (word D bs 0 ≡ D)
head_right D bs e = lin (bit bs 0) (bit bs 1) (word D bs 0) D (bit_lt bs 0) (bit_lt bs 1) (sym (head_is D bs) ∙ e)
  where
    lin : (a b w d : ℕ) → a < 2 → b < 2 → a + 2 * (b + 2 * w) ≡ 4 * d → (a ≡ 0) × (b ≡ 0) × (w ≡ d)
    lin a b w d p q e = (omega arith, omega arith, omega arith)

pub right_head : (D : ℕ) (bs : List ℕ) → bit bs 0 ≡ 0 → bit bs 1 ≡ 0 → word D bs 0 ≡ D → field bs 0 (D + 3) ≡ 4 * D
right_head D bs a b w = omega (arith, head_is D bs)
