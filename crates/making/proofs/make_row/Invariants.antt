use Prim.Native.Nat.{◌^◌}
use Rattle.sums.specs.inner.Rows.{Made}
use Rattle.sums.proofs.Rows.{Running}
use Rattle.making.proofs.make_row.Given as goal

abbrev pub invariant-loop : goal.invariant-loop
invariant-loop l = record { places : Running l.deep l.counter l.p l.c; made : Made l.deep (2 ^ l.d) l.counter l.initial.bytes l.bytes }
