-- Each row's words are sums of those of the row below, and packing leaves them.
use native.Mathlib.Omega.{arith}
use Rattle.bits.proofs.Abreast.{halves_1, halves_2, halves_4, halves_8, halves_16, halves_32}
use Rattle.sums.proofs.SixSums.{six_over}
use Rattle.sums.proofs.sixes.six_rows.Goals as goal

pub join-a-requires : goal.join-a-requires
join-a-requires c = (halves_1, omega arith)

pub join-b-requires : goal.join-b-requires
join-b-requires c = (halves_2, omega arith)

pub join-c-requires : goal.join-c-requires
join-c-requires c = (halves_4, omega arith)

pub join-d-requires : goal.join-d-requires
join-d-requires c = (halves_8, omega arith)

pub join-e-requires : goal.join-e-requires
join-e-requires c = (halves_16, omega arith)

pub join-requires : goal.join-requires
join-requires c = (halves_32, omega arith)

pub returns : goal.returns
returns c =
    six_over c.join-a.ensures c.join-b.ensures c.join-c.ensures c.join-d.ensures c.join-e.ensures c.join.ensures c.pack_sixteen.ensures c.pack_eight.ensures c.pack_four.ensures c.pack_two.ensures (omega arith) (omega arith)
