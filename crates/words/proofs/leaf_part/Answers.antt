-- The leaf bits start at bit 3 * 2 ^ D and end at bit 4 * 2 ^ D, and 2 ^ D bits are 2 ^ (D - 3) whole bytes.
use native.Mathlib.Omega.{arith}
use Rattle.words.proofs.Rooms.{bounds}
use Rattle.words.proofs.leaf_part.Goals as goal

pub slice_bounds-result-end : goal.slice_bounds-result-end
slice_bounds-result-end c = omega (arith, bounds c.requires)
