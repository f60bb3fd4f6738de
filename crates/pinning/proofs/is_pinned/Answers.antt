-- The pin is set where it is 1.
use Rattle.panel.proofs.Lengths.{good_pins}
use Rattle.pinning.proofs.Pins.{range_place}
use Rattle.pinning.proofs.is_pinned.Goals as goal

pub leaf_place-requires : goal.leaf_place-requires
leaf_place-requires c = let p = c.requires in range_place p.0 p.1 p.2

pub pin-requires : goal.pin-requires
pin-requires c = let p = c.requires in (good_pins _ p.0 p.1, c.leaf_place.ensures.1)
