use Rattle.descents.proofs.+cuts_toward.Given as goal

abbrev pub decreases-cuts_toward : goal.decreases-cuts_toward
decreases-cuts_toward l = l.left
