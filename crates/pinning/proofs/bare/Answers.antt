-- Both children are nodes of the panel, so that their numbers fit.
use native.Mathlib.Omega.{arith}
use Rattle.cutting.proofs.ToMerge.{range_small}
use Rattle.pinning.proofs.bare.Goals as goal

pub overflow_mul-n : goal.overflow_mul-n
overflow_mul-n c = omega (arith, range_small c.requires.0.fits c.requires.3)

pub overflow_add-n : goal.overflow_add-n
overflow_add-n c = omega (arith, range_small c.requires.0.fits c.requires.3)
