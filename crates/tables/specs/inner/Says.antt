-- What a test answers.
use Rattle.std.specs.Prelude.{◌≡◌, Bool, true, false}

-- a test that says whether P holds
pub record Says (P : Type 0) (r : Bool) : Type 0 where
  pub yes : r ≡ true → P
  pub no : r ≡ false → P → ⊥
