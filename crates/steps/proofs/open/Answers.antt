-- Past the test of the room the bytes fit a panel of the asked depth, and past that of the leaves it is made in them.
use native.Mathlib.Omega.{arith}
use Rattle.steps.specs.Steps.Called.{in_use}
use Rattle.steps.proofs.Answering.{not_open, open_done}
use Rattle.steps.proofs.open.Goals as goal

pub returns-then-not-has_room-clause-called : goal.returns-then-not-has_room-clause-called
returns-then-not-has_room-clause-called c = not_open _ _ _ (c.has_room.ensures.no c.if-not-has_room.true)

pub returns-then-leaf_count-gt-FRESH_LEAVES-clause-called : goal.returns-then-leaf_count-gt-FRESH_LEAVES-clause-called
returns-then-leaf_count-gt-FRESH_LEAVES-clause-called c = in_use (c.has_room.ensures.yes c.if-not-has_room.false) (omega arith)

pub returns-clause-called : goal.returns-clause-called
returns-clause-called c = open_done c.size.ensures (c.has_room.ensures.yes c.if-not-has_room.false) (omega arith) c.make_fresh.ensures
