-- The shift loses nothing, and five parts are four and one.
use mathlib.Core.Path.{◌∙◌, ap}
use Prim.Native.Nat.{ℕ, ◌/◌}
use native.Mathlib.Nat.{mod-eq_of_lt}
use native.Mathlib.Omega.{arith}
use lib.Pow.{pow_mono}
use Rattle.panel.proofs.Lengths.{size_five}
use Rattle.panel.proofs.sizes.size.Goals as goal

pub returns : goal.returns
returns c =
    let D : ℕ = c.args.deep in
    ap (λ (x : ℕ). x / 8) (mod-eq_of_lt (omega (arith, pow_mono {i = D} {j = 17} (omega arith)))) ∙ size_five D
