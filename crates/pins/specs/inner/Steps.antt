-- What the functions on pins ask of the bytes, and what they say and leave.
use Rattle.std.specs.Prelude.{◌≡◌, ◌⊎◌, ◌↔◌, List, ℕ, ◌+◌, ◌*◌, ◌^◌, ◌≤◌, ◌<◌, min, length}
use Rattle.bits.specs.Bits.{bit}
use Rattle.bits.specs.inner.Puts.{put_bit}
use Rattle.words.specs.Words.{leaf_bit}
use Rattle.words.specs.inner.Working.{Room}
use Rattle.pins.specs.Pins.{pin_place, pin_bit}

-- the bytes with pin bit p set to v
unfoldable pub put_pin : ℕ → List ℕ → ℕ → ℕ → List ℕ
put_pin D bs p v = put_bit bs (pin_place D p) v

-- the words and the pins have room
pub record PinRoom (D : ℕ) (bs : List ℕ) : Type 0 where
  pub words : Room D bs
  pub pins : 5 * 2 ^ D ≤ 8 * length bs

-- the leaf bits fill n bytes, and the pins the n behind them
pub record PinsInBytes (D n : ℕ) (bs : List ℕ) : Type 0 where
  pub whole : 2 ^ D ≡ 8 * n
  pub small : n ≤ 16384
  pub room : 5 * n ≤ length bs

-- no pin of byte j is set where no leaf bit is
abbrev pub ByteOnLeaves : ℕ → List ℕ → ℕ → Type 0
ByteOnLeaves D bs j = (i : ℕ) → i < 8 → pin_bit D bs (8 * j + i) ≤ leaf_bit D bs (8 * j + i)

-- ys is xs with the pins from a up to b cleared where no leaf bit is set; every other bit is as it was
pub record ClearedBetween (D a b : ℕ) (xs ys : List ℕ) : Type 0 where
  pub long : length ys ≡ length xs
  pub pins : (p : ℕ) → a ≤ p → p < b → pin_bit D ys p ≡ min (pin_bit D xs p) (leaf_bit D xs p)
  pub same : (q : ℕ) → (q < pin_place D a) ⊎ (pin_place D b ≤ q) → bit ys q ≡ bit xs q

-- ys is xs with each pin cleared where no leaf bit is set; all before the pins is as it was
pub record PinsCleared (D : ℕ) (xs ys : List ℕ) : Type 0 where
  pub long : length ys ≡ length xs
  pub pins : (p : ℕ) → p < 2 ^ D → (pin_bit D ys p ≡ 1) ↔ ((pin_bit D xs p ≡ 1) × (leaf_bit D xs p ≡ 1))
  pub same : (q : ℕ) → q < 4 * 2 ^ D → bit ys q ≡ bit xs q
