-- Right sums.
use Rattle.std.specs.Prelude.{◌≡◌, List, ℕ, ◌+◌, ◌*◌, ◌^◌, ◌≤◌, ◌<◌}
use Rattle.bits.specs.Bits.{bit}
use Rattle.words.specs.Words.{word}

-- every word from 1 up, above depth D, is the sum of its two children's words
abbrev pub SumsRight : ℕ → List ℕ → Type 0
SumsRight D bs = (k : ℕ) → 1 ≤ k → k < 2 ^ D → word D bs k ≡ word D bs (2 * k) + word D bs (2 * k + 1)

-- bits 0 and 1 are zero, word 0 holds D, every sum is right
pub record Right (D : ℕ) (bs : List ℕ) : Type 0 where
  pub bit_0 : bit bs 0 ≡ 0
  pub bit_1 : bit bs 1 ≡ 0
  pub depth : word D bs 0 ≡ D
  pub sums : SumsRight D bs
