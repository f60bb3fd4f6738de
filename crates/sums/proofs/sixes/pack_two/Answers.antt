-- Two words joined are one number.
use mathlib.Core.Path.{sym}
use Prim.Native.Nat.{◌*◌}
use native.Mathlib.Omega.{arith}
use Rattle.bits.proofs.Abreast.{halves_32, pack_step, one_word}
use Rattle.sums.proofs.sixes.pack_two.Goals as goal

pub join-requires : goal.join-requires
join-requires c = (halves_32, omega arith)

pub returns : goal.returns
returns c = pack_step c.requires.1 c.join.ensures (record { is = sym (one_word (2 * c.args.w) 64 c.join.result (omega arith)) })
