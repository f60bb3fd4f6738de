-- Each turn clears eight pins more, and leaves those that are cleared.
use mathlib.Core.Path.{refl}
use native.Mathlib.Omega.{arith}
use Rattle.pins.proofs.PinBytes.{in_bytes, cleared_join, cleared_all}
use Rattle.pins.proofs.keeping.keep_on_leaves.Goals as goal

pub loop-j-init : goal.loop-j-init
loop-j-init c = (in_bytes c.requires, record { long = refl; pins = λ p l h. absurd (omega arith); same = λ q o. refl })

pub loop-j-preserved : goal.loop-j-preserved
loop-j-preserved c =
    let i = c.loop-j.invariant in
    (i.0, cleared_join (omega arith) (omega arith) (omega arith) i.1 c.keep_byte.ensures)

pub returns : goal.returns
returns c = cleared_all (omega arith) c.loop-j.invariant.1
