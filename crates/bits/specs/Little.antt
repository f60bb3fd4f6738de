-- Numbers of several bytes in a list of bytes, the lowest byte first.
use Rattle.std.specs.Prelude.{List, ℕ, zero, suc, ◌+◌, ◌*◌, get_or}

-- the n bytes from i on as a number, the lowest first
unfoldable pub little : List ℕ → ℕ → ℕ → ℕ
little bs i zero = 0
little bs i (suc n) = get_or bs i 0 + 256 * little bs (i + 1) n
