-- The lowest rows are made first, and making the rows above leaves them.
use mathlib.Core.List.{List}
use Prim.Native.Nat.{ℕ, ◌-◌, ◌^◌, ◌≤◌}
use native.Mathlib.Nat.{le_refl}
use native.Mathlib.Omega.{arith}
use lib.Pow.{pow_mono, pow_pos}
use Rattle.sums.specs.inner.Summed.{Summed}
use Rattle.sums.specs.inner.Rows.{Made}
use Rattle.words.proofs.Rooms.{room_same}
use Rattle.sums.proofs.Steps.{made_join, made_all}
use Rattle.making.proofs.make_sums.Goals as goal

-- the rows from row e on, and then those before it
both : (D e : ℕ) → e ≤ D → {xs ys zs : List ℕ} → Made D (2 ^ e) (2 ^ D) xs ys → Made D 1 (2 ^ e) ys zs → Summed D xs zs
both D e h s t = made_all (made_join (pow_pos e) (pow_pos e) (pow_mono {i = e} {j = D} h) (le_refl (2 ^ D)) s t)

pub make_high_rows-requires : goal.make_high_rows-requires
make_high_rows-requires c = (room_same c.make_lowest_three.ensures.long c.requires, omega arith)

pub make_high_rows-requires-else-deep-lt6 : goal.make_high_rows-requires-else-deep-lt6
make_high_rows-requires-else-deep-lt6 c = (room_same c.make_lowest_six.ensures.long c.requires, omega arith)

pub returns-then-deep-lt6 : goal.returns-then-deep-lt6
returns-then-deep-lt6 c = let D = c.args.deep in both D (D - 3) (omega arith) c.make_lowest_three.ensures c.make_high_rows.ensures

pub returns-else-deep-lt6 : goal.returns-else-deep-lt6
returns-else-deep-lt6 c = let D = c.args.deep in both D (D - 6) (omega arith) c.make_lowest_six.ensures c.make_high_rows-else-deep-lt6.ensures
