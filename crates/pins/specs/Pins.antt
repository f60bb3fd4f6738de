-- Pin bits, by 02, W7: one for each leaf bit, in leaf bit order, behind the last word.
use Rattle.std.specs.Prelude.{List, ℕ, ◌+◌, ◌*◌, ◌^◌, ◌≤◌, ◌<◌}
use Rattle.bits.specs.Bits.{bit}
use Rattle.words.specs.Words.{leaf_bit}

-- the words end before bit 2 ^ (D + 2), that is 4 * 2 ^ D, where the 2 ^ D pin bits start
abbrev pub pin_place : ℕ → ℕ → ℕ
pin_place D p = 4 * 2 ^ D + p

unfoldable pub pin_bit : ℕ → List ℕ → ℕ → ℕ
pin_bit D bs p = bit bs (pin_place D p)

-- no pin bit is set where no leaf bit is
abbrev pub PinsOnLeaves : ℕ → List ℕ → Type 0
PinsOnLeaves D bs = (p : ℕ) → p < 2 ^ D → pin_bit D bs p ≤ leaf_bit D bs p
