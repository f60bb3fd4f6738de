-- Within the limits a length is right exactly where it is the one of its own depth.
use mathlib.Core.Path.{ap, ◌∙◌}
use Prim.Native.Nat.{◌+◌}
use native.Mathlib.Omega.{arith}
use lib.ListN.{length}
use Rattle.nodes.proofs.Depths.{depth_le}
use Rattle.panel.specs.Panels.{size_of}
use Rattle.panel.proofs.Lengths.{length_least, length_greatest, length_right}
use Rattle.panel.proofs.judging.depth_of.Goals as goal

pub returns-then-n-size : goal.returns-then-n-size
returns-then-n-size c r = omega (arith, length_least _ r, length_greatest _ r, c.then-n-size.either, c.size.ensures)

pub size-requires-2 : goal.size-requires-2
size-requires-2 c = omega (arith, depth_le (length c.args.panel.now) 16 (omega arith))

pub returns : goal.returns
returns c =
    let own = c.size-2.ensures ∙ ap (λ d. size_of (d + 1)) c.depth.ensures in
    (length_right _ (omega arith) (omega arith) (c.if-n-size-2.false ∙ own), omega arith)
