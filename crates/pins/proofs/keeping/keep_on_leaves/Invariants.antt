use Prim.Native.Nat.{◌*◌}
use Rattle.pins.specs.inner.Steps.{PinsInBytes, ClearedBetween}
use Rattle.pins.proofs.keeping.keep_on_leaves.Given as goal

abbrev pub invariant-loop-j : goal.invariant-loop-j
invariant-loop-j l = PinsInBytes l.deep l.n l.initial.bytes × ClearedBetween l.deep 0 (8 * l.j) l.initial.bytes l.bytes
