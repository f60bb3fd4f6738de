-- Both bounds of the definition are tested, and the shift loses nothing.
use mathlib.Core.Path.{◌≡◌}
use Prim.Native.Nat.{◌+◌, ◌*◌, ◌%◌, ◌^◌}
use native.Mathlib.Omega.{arith}
use lib.Pow.{pow_mono}
use Rattle.nodes.proofs.Depths.{pow_next}
use borrow.Author.Tests.{ltb-true, ltb-false}
use Rattle.leaves.proofs.in_range.Goals as goal

pub returns-then-k-ge2 : goal.returns-then-k-ge2
returns-then-k-ge2 c =
    let a = c.args in
    let e : 2 * 2 ^ a.deep % 2 ^ 32 ≡ 2 ^ (a.deep + 1) = omega (arith, pow_next a.deep, pow_mono {i = a.deep} {j = 17} (omega arith)) in
    record {
      yes = λ h. record { low = omega arith; high = omega (arith, ltb-true a.k.0 (2 * 2 ^ a.deep % 2 ^ 32) h) };
      no = λ h x. omega (arith, ltb-false a.k.0 (2 * 2 ^ a.deep % 2 ^ 32) h, x.high);
    }
