-- The last digit of the depth says whether A and C change places, and an array of six numbers is what they tell.
use mathlib.Core.Path.{◌≡◌, ◌∙◌, ap}
use Prim.Native.Nat.{◌%◌}
use native.Mathlib.Omega.{arith}
use Rattle.nodes.specs.Depth.{depth_of}
use Rattle.triangles.specs.Corners.{turned}
use Rattle.triangles.proofs.Arrays.{told_whole}
use Rattle.triangles.proofs.turned_corners.Goals as goal

pub returns-then-depth-eq0 : goal.returns-then-depth-eq0
returns-then-depth-eq0 c =
    let t = c.corners_of-t in
    let e : depth_of c.args.n.0 % 2 ≡ 0 = omega arith in
    rw e (ap (turned 0) (told_whole _ t.result _ t.type_inv ∙ t.ensures))
