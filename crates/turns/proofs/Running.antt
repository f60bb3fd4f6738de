-- What holds of records in turn on a buffer, as of each of them: one outcome, and the open panel stays good.
use mathlib.Core.Path.{◌≡◌, ap, ap₂}
use mathlib.Core.List.{List}
use Prim.Native.Nat.{ℕ}
use lib.ListN.{length}
use Rattle.records.specs.InTurn.{InTurn}
use Rattle.records.proofs.InTurn.{turns_keep, turns_one}
use Rattle.steps.specs.Holding.{Holds}
use Rattle.steps.proofs.Keeping.{step_holds}
use Rattle.steps.proofs.Once.{step_one}
use Rattle.turns.specs.Runs.{StepBytes, Runs}

pub runs_one :
    {first last : ℕ} {rs b xs ys u v : List ℕ} {C D E : ℕ} → Runs first last rs C b xs D u → Runs first last rs C b ys E v → length xs ≡ length ys → (xs ≡ ys) × (D ≡ E) × (u ≡ v)
runs_one {first} {last} p q e = let o = turns_one one p q e in (o.0, ap (λ x. x.0) o.1, ap (λ x. x.1) o.1)
  where
    one : (r : List ℕ) (n m : ℕ) (x y z : ℕ × List ℕ) → StepBytes first last r x n y → StepBytes first last r x m z → (n ≡ m) × (y ≡ z)
    one r n m x y z a b = let o = step_one a.1 b.1 a.0 b.0 in (o.0, ap₂ (λ d w. (d, w)) o.1 o.2)

pub runs_holds : {first last : ℕ} {rs given : List ℕ} {x y : ℕ × List ℕ} → Holds x.0 x.1 → InTurn (ℕ × List ℕ) (StepBytes first last) rs x given y → Holds y.0 y.1
runs_holds = turns_keep (λ x. Holds x.0 x.1) (λ r n x y h s. step_holds h s.0)
