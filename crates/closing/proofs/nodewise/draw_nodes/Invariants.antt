use mathlib.Core.Path.{◌≡◌}
use Prim.Native.Nat.{◌+◌, ◌^◌, ◌≤◌}
use Rattle.cuts.specs.inner.Closing.{CutsDrawn}
use Rattle.closing.proofs.nodewise.draw_nodes.Given as goal

abbrev pub invariant-loop-n : goal.invariant-loop-n
invariant-loop-n l = (l.n-end ≡ 2 ^ (l.d + 1)) × (2 ^ l.d ≤ l.n) × (l.n ≤ l.n-end) × CutsDrawn l.deep (2 ^ l.d) l.n l.initial.bytes l.bytes
