-- The pins start at bit 4 * 2 ^ D, which the code reaches by a shift that loses nothing.
use mathlib.Core.Path.{ap, ◌∙◌}
use Prim.Native.Nat.{ℕ}
use native.Mathlib.Omega.{arith}
use Rattle.bits.specs.inner.Puts.{put_bit}
use Rattle.words.proofs.Rooms.{bounds}
use Rattle.pins.specs.inner.Steps.{put_pin}
use Rattle.pins.proofs.places.put_pin.Goals as goal

pub returns : goal.returns
unfolding put_pin
returns c =
    c.put_bit.ensures
    ∙ ap (λ (x : ℕ). put_bit c.args.bytes.now x c.args.v) (omega (arith, bounds c.requires.0.words))
