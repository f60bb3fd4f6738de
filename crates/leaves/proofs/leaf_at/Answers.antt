-- No leaves stand left of node 1, so the leaf with i leaves left of it below node 1 has number i.
use mathlib.Core.Path.{subst}
use Prim.Native.Nat.{◌+◌}
use native.Mathlib.Omega.{arith}
use Rattle.panel.specs.Panels.{number_in}
use Rattle.panel.specs.Calls.{LeafNumbered}
use Rattle.panel.proofs.GoodPanels.{number_root}
use Rattle.descents.proofs.Downward.{root_spot}
use Rattle.leaves.proofs.leaf_at.Goals as goal

pub leaf_below-requires : goal.leaf_below-requires
leaf_below-requires c =
    let p = c.requires in
    (p.0, root_spot _ p.0 p.1 c.count-n.ensures, omega arith)

pub returns : goal.returns
returns c =
    let a = c.args in
    subst (λ x. LeafNumbered a.panel.now x c.leaf_below.result) {x = number_in a.panel.now 1 + a.i.0}
    (omega (arith, number_root a.panel.now c.requires.0)) c.leaf_below.ensures
