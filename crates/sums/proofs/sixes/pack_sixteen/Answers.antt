-- Sixteen words joined two by two are eight wider ones, which are packed.
use native.Mathlib.Omega.{arith}
use Rattle.bits.proofs.Abreast.{halves_4, pack_narrow, pack_step}
use Rattle.sums.proofs.sixes.pack_sixteen.Goals as goal

pub join-requires : goal.join-requires
join-requires c = (halves_4, omega arith)

pub pack_eight-requires : goal.pack_eight-requires
pack_eight-requires c = (omega arith, pack_narrow c.requires.1 c.join.ensures)

pub returns : goal.returns
returns c = pack_step c.requires.1 c.join.ensures c.pack_eight.ensures
