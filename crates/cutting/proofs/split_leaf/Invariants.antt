use mathlib.Core.Path.{◌≡◌}
use Prim.Native.Nat.{◌+◌}
use Rattle.nodes.specs.Depth.{depth_of}
use Rattle.panel.specs.Panels.{deep_of}
use Rattle.cutting.proofs.AtWork.{CutIn}
use Rattle.cutting.proofs.Splitting.{Splitting}
use Rattle.cutting.proofs.split_leaf.Lts
use Rattle.cutting.proofs.split_leaf.Reads
use Rattle.cutting.proofs.split_leaf.Tie
use Rattle.cutting.proofs.split_leaf.Given as goal

abbrev pub invariant-loop-deep : goal.invariant-loop-deep
invariant-loop-deep l = Splitting l.initial.panel l.initial.cur l.panel l.cur × (CutIn l.initial.panel l.panel l.cur → ⊥) × (depth_of l.cur + 1 + l.levels ≡ deep_of l.initial.panel)

abbrev pub decreases-loop-deep : goal.decreases-loop-deep
decreases-loop-deep l = depth_of l.cur
