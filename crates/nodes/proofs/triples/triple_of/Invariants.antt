use Rattle.nodes.proofs.Descents.{TripleAt}
use Rattle.nodes.proofs.triples.triple_of.Given as goal

abbrev pub invariant-loop-level : goal.invariant-loop-level
invariant-loop-level l = TripleAt l.k l.level l.t
