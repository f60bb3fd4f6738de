-- Bits and fields of bits in a list of bytes, by "Panel bytes".
use Rattle.std.specs.Prelude.{List, ℕ, zero, suc, ◌+◌, ◌*◌, ◌/◌, ◌%◌, ◌^◌, ◌<◌, get_or}

-- every element is a byte
abbrev pub Bytes : List ℕ → Type 0
Bytes bs = (i : ℕ) → get_or bs i 0 < 256

-- digit k of the number n, the lowest first
abbrev pub digit : ℕ → ℕ → ℕ
digit n k = n / 2 ^ k % 2

-- bit p is in byte p / 8 with weight 2 ^ (p mod 8)
abbrev pub bit : List ℕ → ℕ → ℕ
bit bs p = digit (get_or bs (p / 8) 0) (p % 8)

-- the number whose digits are f s, f (s + 1), .., w of them, the lowest first
unfoldable pub run : (ℕ → ℕ) → ℕ → ℕ → ℕ
run f s zero = 0
run f s (suc w) = f s + 2 * run f (s + 1) w

-- the number in the w bits from bit s on: its lowest bit comes first
abbrev pub field : List ℕ → ℕ → ℕ → ℕ
field bs s w = run (bit bs) s w
