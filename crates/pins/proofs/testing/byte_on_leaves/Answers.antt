-- The pin byte and the leaf byte beside it hold the same eight places.
use native.Mathlib.Omega.{arith}
use Rattle.words.proofs.Rooms.{bounds}
use Rattle.pins.proofs.PinBytes.{says_byte}
use Rattle.pins.proofs.testing.byte_on_leaves.Goals as goal

pub get_bytes-leaves-requires : goal.get_bytes-leaves-requires
get_bytes-leaves-requires c = omega (arith, bounds c.requires.0.words)

pub get_bytes-pins-requires : goal.get_bytes-pins-requires
get_bytes-pins-requires c = omega (arith, bounds c.requires.0.words)

pub returns : goal.returns
returns c =
    let a = c.args in
    let w = c.requires.0.words in
    says_byte a.deep w.low a.bytes.now a.j (cc) (cc)
