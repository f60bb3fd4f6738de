-- Counts of set leaf bits.
use Rattle.std.specs.Prelude.{ℕ, zero, suc, ◌+◌}

-- how many of the bits f are set left of place p
unfoldable pub rank : (ℕ → ℕ) → ℕ → ℕ
rank f zero = 0
rank f (suc p) = rank f p + f p
