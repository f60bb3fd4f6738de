use Prim.Native.Nat.{◌^◌}
use Rattle.sums.specs.inner.Rows.{Made}
use Rattle.making.proofs.make_high_rows.Given as goal

abbrev pub invariant-loop-d : goal.invariant-loop-d
invariant-loop-d l = Made l.deep (2 ^ l.d) (2 ^ l.end) l.initial.bytes l.bytes
