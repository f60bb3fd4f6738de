use Rattle.descents.proofs.+leaf_over.Given as goal

abbrev pub decreases-leaf_over : goal.decreases-leaf_over
decreases-leaf_over l = l.left
