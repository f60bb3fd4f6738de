-- The greatest depth is at most 17: to there the words have room and the midpoints are exact. All bounds come from this, and none from the
-- number itself.
use Prim.Native.Nat.{ℕ, ◌+◌, ◌^◌, ◌≤◌, ◌<◌}
use native.Mathlib.Omega.{arith}
use lib.Pow.{pow_mono}
use Rattle.nodes.specs.Depth.{depth_of}
use Rattle.nodes.specs.Limits.{greatest_depth, KnownNode}
use Rattle.nodes.proofs.Depths.{depth_le}

pub greatest_small : greatest_depth ≤ 17
greatest_small = omega arith

-- the nodes down to such a depth are small numbers
pub node_small : {D n : ℕ} → D ≤ 17 → n < 2 ^ (D + 1) → n < 2 ^ 18
node_small {D} h l = omega (arith, pow_mono {i = D + 1} {j = 18} (omega arith))

pub known_small : {n : ℕ} → KnownNode n → n < 2 ^ 18
known_small k = node_small greatest_small k.high

pub known_shallow : {n : ℕ} → KnownNode n → depth_of n ≤ 17
known_shallow {n} k = depth_le n 17 (known_small k)
