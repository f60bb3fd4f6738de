-- Word 1 is the leaf count.
use Rattle.descents.proofs.Downward.{root_room}
use Rattle.leaves.proofs.count.Goals as goal

pub get_word-requires : goal.get_word-requires
get_word-requires c = let p = c.requires in root_room _ p.0 p.1
