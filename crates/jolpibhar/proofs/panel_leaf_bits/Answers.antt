-- The part that `leaf_bits` gives is told by its length, which is a third of its place.
use Rattle.jolpibhar.proofs.LeafParts.{part_told}
use Rattle.jolpibhar.proofs.panel_leaf_bits.Goals as goal

pub returns : goal.returns
returns c = part_told _ _ _ c.leaf_bits-part.ensures
