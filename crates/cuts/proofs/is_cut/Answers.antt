-- At depth D no node is cut; above it the bit that names n says it.
use native.Mathlib.Omega.{arith}
use borrow.Author.Tests.{ltb-true}
use Rattle.cuts.proofs.Places.{cut_depth}
use Rattle.cuts.proofs.is_cut.Goals as goal

pub returns-else-d-deep : goal.returns-else-d-deep
returns-else-d-deep c = record {
  yes = λ t. absurd (omega (arith, ltb-true));
  no = λ t x. omega (arith, cut_depth _ _ (omega arith) _ x);
}
