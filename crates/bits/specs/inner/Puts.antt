-- Bytes with some bits set, and fields that stand apart.
use Rattle.std.specs.Prelude.{List, ℕ, zero, suc, ◌+◌, ◌*◌, ◌/◌, ◌%◌, ◌^◌, ◌<◌, get_or, set}

-- n with its digit k set to v
abbrev pub with_digit : ℕ → ℕ → ℕ → ℕ
with_digit n k v = (n / 2 ^ k / 2 * 2 + v) * 2 ^ k + n % 2 ^ k

-- the bytes with bit p set to v
abbrev pub put_bit : List ℕ → ℕ → ℕ → List ℕ
put_bit bs p v = set bs (p / 8) (with_digit (get_or bs (p / 8) 0) (p % 8) v)

-- the bytes with the w bits from bit s on set to the number v
unfoldable pub put_field : List ℕ → ℕ → ℕ → ℕ → List ℕ
put_field bs s zero v = bs
put_field bs s (suc w) v = put_field (put_bit bs s (v % 2)) (s + 1) w (v / 2)

-- the w bits from bit s on and the v bits from bit t on have none in common
abbrev pub Apart : ℕ → ℕ → ℕ → ℕ → Type 0
Apart s w t v = s < t + v → t < s + w → ⊥
