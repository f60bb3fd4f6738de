-- The bit that names n is set, or was.
use Rattle.closing.proofs.Drawing.{cut_also}
use Rattle.closing.proofs.nodewise.cut_above.Goals as goal

pub returns-then-leaf_bit-ne1 : goal.returns-then-leaf_bit-ne1
returns-then-leaf_bit-ne1 c =
    cut_also c.requires.0 c.place_above-p.ensures c.put_leaf_bit.ensures
