use Prim.Native.Nat.{◌*◌}
use lib.ListN.{length}
use Rattle.sums.specs.inner.Rows.{SevenAt}
use Rattle.words.proofs.Rooms.{Quarter}
use Rattle.sums.proofs.Steps.{Blockwise}
use Rattle.making.proofs.make_lowest_three.Given as goal

abbrev pub invariant-loop-i : goal.invariant-loop-i
invariant-loop-i l = Quarter l.deep (length l.initial.bytes) l.m × Blockwise (SevenAt l.m) (6 * l.m) (24 * l.m) l.i l.initial.bytes l.bytes
