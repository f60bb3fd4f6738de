-- The lowest rows begin where the rows above end.
use mathlib.Core.Bool.{Bool}
use mathlib.Core.List.{List}
use Prim.Native.Nat.{ℕ, ◌-◌, ◌^◌, ◌≤◌}
use native.Mathlib.Omega.{arith}
use lib.Pow.{pow_mono, pow_pos}
use Rattle.tables.specs.inner.Says.{Says}
use Rattle.sums.specs.Sums.{SumsRight}
use Rattle.sums.specs.inner.Rows.{SumsBetween}
use Rattle.sums.proofs.Rows.{sums_join}
use Rattle.testing.proofs.sums_right.Goals as goal

-- the rows from row e on are tested first
module _ (D e : ℕ) (h : e ≤ D) (bs : List ℕ) where
  right : {r : Bool} → SumsBetween D bs (2 ^ e) (2 ^ D) → Says (SumsBetween D bs 1 (2 ^ e)) r → Says (SumsRight D bs) r
  right low high = record {
    yes = λ t. sums_join D bs 1 (2 ^ e) (2 ^ D) (high.yes t) low;
    no = λ f s. high.no f (λ k a b. s k a (omega (arith, pow_mono {i = e} {j = D} h)));
  }

  part : SumsRight D bs → SumsBetween D bs (2 ^ e) (2 ^ D)
  part s k a b = s k (omega (arith, pow_pos e)) b

pub returns-then-lowest_three : goal.returns-then-lowest_three
returns-then-lowest_three c =
    let a = c.args in
    right a.deep (a.deep - 3) (omega arith) a.bytes.now (c.lowest_three.ensures.yes c.if-lowest_three.true) c.high_rows.ensures

pub returns-then-lowest_six : goal.returns-then-lowest_six
returns-then-lowest_six c =
    let a = c.args in
    right a.deep (a.deep - 6) (omega arith) a.bytes.now (c.lowest_six.ensures.yes c.if-lowest_six.true) c.high_rows-then-lowest_six.ensures
