-- 2 ^ (d + 1) + 2 ^ d * (D + 1 - d) is 2 ^ d * (D + 3 - d), and the shift loses nothing.
use mathlib.Core.Path.{◌≡◌, ap, ◌∙◌}
use Prim.Native.Nat.{ℕ, ◌+◌, ◌-◌, ◌*◌, ◌^◌}
use native.Mathlib.Nat.{add-mul, mul_comm, mul-le-mul_right, mod-eq_of_lt}
use native.Mathlib.Omega.{arith}
use lib.Pow.{pow_mono}
use Rattle.nodes.proofs.Depths.{pow_next}
use Rattle.words.proofs.row_start.Goals as goal

pub returns : goal.returns
returns c =
    let d = c.args.d in
    let w = c.args.deep + 1 - d in
    let e : c.args.deep + 3 - d ≡ 2 + w = omega arith in
    mod-eq_of_lt (omega (arith, mul-le-mul_right {m = c.args.deep + 3 - d} {n = 20} (2 ^ d) (omega arith), pow_mono {i = d} {j = 17} (omega arith)))
    ∙ ap (λ (x : ℕ). x * 2 ^ d) e ∙ omega (arith, add-mul 2 w (2 ^ d), mul_comm w (2 ^ d), pow_next d)
