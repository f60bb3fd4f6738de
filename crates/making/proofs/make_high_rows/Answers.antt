-- A row's children's words stand in the row behind it, which is made before it, and making a row leaves all rows behind it.
use mathlib.Core.Path.{◌≡◌}
use Prim.Native.Nat.{◌+◌, ◌-◌}
use native.Mathlib.Omega.{arith}
use lib.Pow.{pow_mono, pow_pos}
use Rattle.sums.proofs.Steps.{made_join}
use Rattle.making.proofs.make_high_rows.Goals as goal

pub loop-d-preserved : goal.loop-d-preserved
loop-d-preserved c =
    let l = c.loop-d in
    let a = c.args in
    let e : l.d - 1 + 1 ≡ l.d = omega arith in
    made_join (pow_pos l.d) (pow_mono {i = l.d - 1} {j = l.d} (omega arith)) (pow_mono {i = l.d} {j = a.end} (omega arith)) (pow_mono {i = a.end} {j = a.deep} (omega arith)) l.invariant
    (rw e at c.make_row.ensures)
