-- The pins start at bit 4 * 2 ^ D, which the code reaches by a shift that loses nothing.
use mathlib.Core.Path.{ap, ◌∙◌}
use native.Mathlib.Omega.{arith}
use Rattle.bits.specs.Bits.{bit}
use Rattle.words.proofs.Rooms.{bounds}
use Rattle.pins.specs.Pins.{pin_bit}
use Rattle.pins.proofs.places.pin.Goals as goal

pub returns : goal.returns
unfolding pin_bit
returns c =
    c.get_bit.ensures ∙ ap (bit c.args.bytes.now) (omega (arith, bounds c.requires.0.words))
