use lib.ListN.{length}
use Prim.Native.Nat.{ℕ, ◌<◌}
use Rattle.tables.specs.inner.Says.{Says}
use Rattle.words.proofs.Rooms.{Quarter}
use Rattle.pins.specs.inner.Steps.{ByteOnLeaves}
use Rattle.pins.proofs.testing.pins_on_leaves.Given as goal

abbrev pub invariant-loop-j : goal.invariant-loop-j
invariant-loop-j l = Quarter l.deep (length l.bytes) l.n × Says ((i : ℕ) → i < l.j → ByteOnLeaves l.deep l.bytes i) l.on
