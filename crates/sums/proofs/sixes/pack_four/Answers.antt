-- Four words joined two by two are two wider ones, which are packed.
use native.Mathlib.Omega.{arith}
use Rattle.bits.proofs.Abreast.{halves_16, pack_narrow, pack_step}
use Rattle.sums.proofs.sixes.pack_four.Goals as goal

pub join-requires : goal.join-requires
join-requires c = (halves_16, omega arith)

pub pack_two-requires : goal.pack_two-requires
pack_two-requires c = (omega arith, pack_narrow c.requires.1 c.join.ensures)

pub returns : goal.returns
returns c = pack_step c.requires.1 c.join.ensures c.pack_two.ensures
