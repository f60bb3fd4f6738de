-- What `known` says is the table's one row.
use Rattle.node_calls.proofs.Outcomes.{known_node_lem, known_corners}
use Rattle.node_calls.proofs.corners.Goals as goal

pub returns-then-known : goal.returns-then-known
returns-then-known c =
    let k = c.known.ensures.yes c.if-known.true in
    known_node_lem k (known_corners k c.turned_corners.ensures)
