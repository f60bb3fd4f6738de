-- The leftmost leaf bit below the right child names n, and the shifts that find it lose nothing.
use mathlib.Core.Path.{ap₂, subst⁻¹}
use Prim.Native.Nat.{◌-◌}
use native.Mathlib.Omega.{arith}
use Rattle.cuts.specs.inner.Steps.{CutPlace}
use Rattle.cuts.proofs.Naming.{Placed, placed}
use Rattle.cuts.proofs.place_above.Goals as goal

here : (c : goal.After-struct_known-1) → let a = c.args in Placed a.deep a.n.0 a.levels
here c = let a = c.args in placed a.deep a.n.0 a.levels (omega arith) (omega arith) (omega arith)

pub overflow_sub-result : goal.overflow_sub-result
overflow_sub-result c = let p = here c in omega (arith, p.first, p.shift, p.deep)

pub returns : goal.returns
returns c =
    let p = here c in
    subst⁻¹ (CutPlace c.args.deep c.args.n.0) (ap₂ (λ x y. x - y) p.shift p.deep) p.found
