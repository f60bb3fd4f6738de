-- A part that isn't full is the last.
use mathlib.Core.Path.{subst}
use mathlib.Core.Bool.{true, false}
use mathlib.Core.List.{List}
use Prim.Native.Nat.{ℕ, ◌≤◌, ◌<◌}
use lib.Dec.{ltb}
use borrow.Author.Tests.{lt-ltb, le-ltb}
use Rattle.requests.specs.Requests.{Part}

module _ {p b out t after : List ℕ} {got full n m C D : ℕ} (q : Part p (ltb got full) n C b out m D t after) where
  pub last_part : got < full → Part p true n C b out m D t after
  last_part h = subst (λ e. Part p e n C b out m D t after) (lt-ltb got full h) q

  pub full_part : full ≤ got → Part p false n C b out m D t after
  full_part h = subst (λ e. Part p e n C b out m D t after) (le-ltb got full h) q
