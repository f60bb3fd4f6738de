-- The words of x, masked and added, are those of the law.
use mathlib.Core.Path.{ap}
use Prim.Native.Nat.{ℕ, ◌+◌}
use native.Mathlib.Omega.{arith}
use lib.Bits.{bit_and}
use Rattle.bits.proofs.Abreast.{join_small, join_exact, join_words}
use Rattle.sums.proofs.sixes.join.Goals as goal

pub overflow_add-result : goal.overflow_add-result
overflow_add-result c =
    let a = c.args in
    omega (arith, join_small a.w a.shift a.x a.mask c.requires.0 c.requires.1, join_exact a.w a.shift a.x a.mask c.requires.0 c.requires.1)

pub returns : goal.returns
returns c =
    let a = c.args in
    join_words a.w a.shift a.x a.mask c.requires.0 c.requires.1 (ap (λ (y : ℕ). bit_and a.x a.mask + y) (join_exact a.w a.shift a.x a.mask c.requires.0 c.requires.1))
