-- A window of bytes, through which a field is read and written.
use Rattle.std.specs.Prelude.{ℕ, ◌+◌, ◌*◌, ◌≤◌}

-- the window of four bytes from byte i on lies inside, and holds each field from bit s on of up to 25 bits
pub record Window (len s i : ℕ) : Type 0 where
  pub inside : i + 4 ≤ len
  pub low : 8 * i ≤ s
  pub high : (w : ℕ) → w ≤ 25 → s + w ≤ 8 * len → s + w ≤ 8 * i + 32
