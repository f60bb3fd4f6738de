-- The pin byte and the leaf byte beside it hold the same eight places, and the bits that both have take the pin byte's place.
use mathlib.Core.Path.{subst⁻¹}
use Rattle.pins.specs.inner.Steps.{ClearedBetween}
use Rattle.pins.proofs.PinBytes.{byte_cleared}
use Rattle.pins.proofs.keeping.keep_byte.Goals as goal

pub returns : goal.returns
returns c =
    subst⁻¹ (ClearedBetween _ _ _ _) c.put_bytes.ensures
    (byte_cleared c.requires.0 c.args.j c.requires.1 c.get_bytes-pins.ensures.value c.get_bytes-leaves.ensures.value)
