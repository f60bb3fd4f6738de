use Rattle.triangles.proofs.CornerDescents.{CornersAt}
use Rattle.triangles.proofs.corners_of.Given as goal

abbrev pub invariant-loop-level : goal.invariant-loop-level
invariant-loop-level l = CornersAt l.k l.level l.t
