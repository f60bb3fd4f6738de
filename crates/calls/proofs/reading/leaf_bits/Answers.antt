-- Past the judgement the part is the leaf bits'.
use Rattle.panel.proofs.Lengths.{good_room}
use Rattle.panel.proofs.Judgements.{judged_good}
use Rattle.calls.proofs.reading.leaf_bits.Goals as goal

pub leaf_part-requires : goal.leaf_part-requires
leaf_part-requires c = let g = judged_good c.good_depth-judged.ensures c.in-Ok.is in good_room _ g.0 g.1
