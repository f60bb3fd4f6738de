use Prim.Native.Nat.{◌*◌}
use lib.ListN.{length}
use Rattle.sums.specs.inner.Rows.{SixAt}
use Rattle.words.proofs.Rooms.{Blocks}
use Rattle.sums.proofs.Steps.{Blockwise}
use Rattle.making_six.proofs.make_lowest_six.Given as goal

abbrev pub invariant-loop-j : goal.invariant-loop-j
invariant-loop-j l = Blocks l.deep (length l.initial.bytes) l.m × Blockwise (SixAt l.m) (9 * l.m) (192 * l.m) l.j l.initial.bytes l.bytes
