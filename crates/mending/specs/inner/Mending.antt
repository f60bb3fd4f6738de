-- What the first step of mending leaves.
use Rattle.std.specs.Prelude.{◌≡◌, List, ℕ, ◌+◌, ◌*◌, ◌^◌, ◌<◌, length}
use Rattle.bits.specs.Bits.{bit, field}
use Rattle.words.specs.Words.{leaf_bit}

-- ys is xs with the spare bits cleared, D in the depth word behind them, and leaf bit 0 set; every bit behind that is as it was
pub record Begun (D : ℕ) (xs ys : List ℕ) : Type 0 where
  pub long : length ys ≡ length xs
  pub head : field ys 0 (D + 3) ≡ 4 * D
  pub first : leaf_bit D ys 0 ≡ 1
  pub same : (q : ℕ) → 3 * 2 ^ D < q → bit ys q ≡ bit xs q
