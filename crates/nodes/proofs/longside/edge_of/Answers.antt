-- The trailing zeros count the digits below the lowest mixed pair, and each way out is a case of `Across`.
use mathlib.Core.Path.{◌≡◌, sym, subst}
use Prim.Native.Nat.{ℕ, ◌*◌, ◌/◌, ◌%◌, ◌^◌, ◌≤◌, ◌<◌}
use native.Mathlib.Omega.{arith}
use lib.Bits.{bit_and, bit_xor}
use lib.Count.{count_trailing_zeros}
use lib.Pow.{pow_pos}
use Rattle.nodes.proofs.Depths.{at_depth, depth_le}
use Rattle.nodes.proofs.Mirrors.{Across, across, Turns, turns, half_shift}
use Rattle.nodes.proofs.longside.edge_of.Goals as goal
use Rattle.nodes.proofs.longside.edge_of.Lts
use Rattle.nodes.proofs.longside.edge_of.Reads
use Rattle.nodes.proofs.longside.edge_of.Tie

abbrev zeros : ℕ → ℕ
zeros k = count_trailing_zeros 32 (bit_and (bit_xor k (k / 2)) 0x55555555)

-- what the number says of the neighbour, at the depth that the code has
here : (c : Lts.After-depth Tie.the-claims Reads.Pre Reads.Post) → Across (zeros c.before.args.n.0) c.depth-d.result c.before.args.n.0
here c =
    subst (λ d. Across (zeros c.before.args.n.0) d c.before.args.n.0) (sym c.depth-d.ensures)
    (across 16 c.before.args.n.0 (omega arith) (omega arith))

deep : (c : Lts.After-depth Tie.the-claims Reads.Pre Reads.Post) → c.depth-d.result ≤ 17
deep c = omega (arith, depth_le c.before.args.n.0 17 (omega arith))

-- where a pair is mixed
inner : (c : goal.Then-g-d) → Turns c.before.before.args.n.0 (zeros c.before.before.args.n.0)
inner c = turns c.before.before.args.n.0 (zeros c.before.before.args.n.0) (omega arith) (omega arith) (omega arith)

pub overflow_shl-turned : goal.overflow_shl-turned
overflow_shl-turned c = omega (arith, deep c.before)

pub nonzero_rem-low : goal.nonzero_rem-low
nonzero_rem-low c = omega (arith, inner c)

pub overflow_sub-result-then-g-d : goal.overflow_sub-result-then-g-d
overflow_sub-result-then-g-d c = omega (arith, inner c)

pub overflow_sub-result-then-g-d-2 : goal.overflow_sub-result-then-g-d-2
overflow_sub-result-then-g-d-2 c = rw (inner c).shift (omega (arith, inner c))

pub returns-then-g-d : goal.returns-then-g-d
returns-then-g-d c = rw (inner c).shift (sym ((here c.before).inner c.if-g-d.true))

-- where none is, at an odd depth
half : (c : goal.Then-d-eq1) → (3 * 2 ^ c.before.before.depth-d.result % 2 ^ 32 ≡ 3 * 2 ^ c.before.before.depth-d.result) × (c.before.before.before.args.n.0 < 2 * 2 ^ c.before.before.depth-d.result)
half c =
    let k = c.before.before.before.args.n.0 in
    (half_shift c.before.before.depth-d.result (deep c.before.before), subst (λ d. k < 2 * 2 ^ d) (sym c.before.before.depth-d.ensures) (omega (arith, at_depth {n = k} (omega arith))))

pub overflow_shl-result : goal.overflow_shl-result
overflow_shl-result c = omega (arith, deep c.before.before)

pub overflow_sub-result-then-d-eq1 : goal.overflow_sub-result-then-d-eq1
overflow_sub-result-then-d-eq1 c = omega (arith, half c, pow_pos c.before.before.depth-d.result)

pub overflow_sub-result-then-d-eq1-2 : goal.overflow_sub-result-then-d-eq1-2
overflow_sub-result-then-d-eq1-2 c = omega (arith, half c, pow_pos c.before.before.depth-d.result)

pub returns-then-d-eq1 : goal.returns-then-d-eq1
returns-then-d-eq1 c = rw (half c).0 (sym ((here c.before.before).half (λ h. omega arith) c.if-d-eq1.true))

pub returns : goal.returns
returns c = sym ((here c.before.before).none (λ h. omega arith) c.if-d-eq1.false)
