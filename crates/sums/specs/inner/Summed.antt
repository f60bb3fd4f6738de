-- Bytes whose sums were made right.
use Rattle.std.specs.Prelude.{◌≡◌, ◌⊎◌, List, ℕ, ◌+◌, ◌*◌, ◌^◌, ◌≤◌, ◌<◌, length}
use Rattle.bits.specs.Bits.{bit}
use Rattle.sums.specs.Sums.{SumsRight}

-- bit p is in no sum: the spare bits and word 0 stand before them, the leaf bits and all else behind
abbrev pub NoSum : ℕ → ℕ → Type 0
NoSum D p = (p < D + 3) ⊎ (3 * 2 ^ D ≤ p)

-- ys is xs with its sums made right, and nothing but sums has changed
pub record Summed (D : ℕ) (xs ys : List ℕ) : Type 0 where
  pub long : length ys ≡ length xs
  pub same : (p : ℕ) → NoSum D p → bit ys p ≡ bit xs p
  pub sums : SumsRight D ys
