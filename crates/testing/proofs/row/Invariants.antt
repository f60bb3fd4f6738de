use Prim.Native.Nat.{◌^◌}
use Rattle.sums.specs.inner.Rows.{SumsBetween}
use Rattle.sums.proofs.Rows.{Running}
use Rattle.testing.proofs.row.Given as goal

abbrev pub invariant-loop : goal.invariant-loop
invariant-loop l = record { places : Running l.deep l.counter l.p l.c; right : SumsBetween l.deep l.bytes (2 ^ l.d) l.counter }
