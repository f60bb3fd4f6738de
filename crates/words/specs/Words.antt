-- The words of a tree of sums of depth D, by "Panel bytes".
use Rattle.std.specs.Prelude.{List, ℕ, ◌+◌, ◌-◌, ◌*◌, ◌^◌}
use Rattle.bits.specs.Bits.{bit, field}
use Rattle.nodes.specs.Depth.{depth_of}

-- a word at depth d has D - d + 1 bits
abbrev pub width : ℕ → ℕ → ℕ
width D d = D + 1 - d

-- word k, at depth d, starts at bit 2 ^ (d + 1) + k * (D - d + 1)
abbrev pub start : ℕ → ℕ → ℕ → ℕ
start D d k = 2 ^ (d + 1) + k * width D d

-- word k; word 0, whose depth is 0, has D + 1 bits from bit 2
unfoldable pub word : ℕ → List ℕ → ℕ → ℕ
word D bs k = field bs (start D (depth_of k) k) (width D (depth_of k))

-- the leaf bits, the 2 ^ D words of depth D, start at bit 3 * 2 ^ D
unfoldable pub leaf_bit : ℕ → List ℕ → ℕ → ℕ
leaf_bit D bs p = bit bs (3 * 2 ^ D + p)
