-- The leaf bit that names n says whether n is cut.
use native.Mathlib.Omega.{arith}
use Rattle.cuts.proofs.Naming.{says_cut}
use Rattle.cuts.proofs.is_cut_above.Goals as goal

pub returns : goal.returns
returns c = says_cut _ _ (omega arith) c.place_above.ensures _ c.leaf_bit.ensures
