-- The leaf bits are the last 2 ^ D of the 64 that end at byte 2 ^ (D - 1); at depth 3 they are byte 3.
use mathlib.Core.Path.{ap, ◌∙◌}
use Prim.Native.Nat.{◌-◌, ◌*◌, ◌/◌, ◌%◌, ◌^◌}
use native.Mathlib.Omega.{arith}
use lib.ListN.{length}
use Rattle.goodcuts.proofs.Spreading.{Last, last, last_leaves}
use Rattle.goodcuts.proofs.shallow.leaves_of.Goals.{Else-deep-eq3}
use Rattle.goodcuts.proofs.shallow.leaves_of.Goals as goal

here : (c : Else-deep-eq3) → Last c.args.deep (length c.args.bytes.now)
here c = last c.requires.0 c.requires.1 (omega arith)

pub overflow_sub-deep-2 : goal.overflow_sub-deep-2
overflow_sub-deep-2 c = omega (arith, here (goal.at.overflow_sub-deep-2 c).Else-deep-eq3)

pub get_bytes-requires-2 : goal.get_bytes-requires-2
get_bytes-requires-2 c = omega (arith, here (goal.at.get_bytes-requires-2 c).Else-deep-eq3)

pub overflow_sub-result : goal.overflow_sub-result
overflow_sub-result c = omega (arith, here (goal.at.overflow_sub-result c).Else-deep-eq3)

pub returns : goal.returns
returns c =
    let a = c.args in
    ap (λ x. x / 2 ^ (64 - 1 * 2 ^ a.deep % 2 ^ 64)) c.get_bytes-2.ensures.value ∙ last_leaves a.bytes.now (here (goal.at.returns c).Else-deep-eq3)
