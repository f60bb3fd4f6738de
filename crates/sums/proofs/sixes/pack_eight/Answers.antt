-- Eight words joined two by two are four wider ones, which are packed.
use native.Mathlib.Omega.{arith}
use Rattle.bits.proofs.Abreast.{halves_8, pack_narrow, pack_step}
use Rattle.sums.proofs.sixes.pack_eight.Goals as goal

pub join-requires : goal.join-requires
join-requires c = (halves_8, omega arith)

pub pack_four-requires : goal.pack_four-requires
pack_four-requires c = (omega arith, pack_narrow c.requires.1 c.join.ensures)

pub returns : goal.returns
returns c = pack_step c.requires.1 c.join.ensures c.pack_four.ensures
