-- A printed line.
use Rattle.std.specs.Prelude.{◌≡◌, List, [], ◌∷◌, ◌++◌, ℕ}
use Rattle.io.specs.Digits.{last_digits, IsDigitCount}

-- a number in decimal, with no zero in front
pub record Decimal (n : ℕ) (t : List ℕ) : Type 0 where
  pub places : ℕ
  pub fewest : IsDigitCount 10 1 n places
  pub text : t ≡ last_digits 10 places n

-- one line: a number, a space, a number, and one line feed
pub record Line (a b : ℕ) (t : List ℕ) : Type 0 where
  pub first : List ℕ
  pub second : List ℕ
  pub first_is : Decimal a first
  pub second_is : Decimal b second
  pub text : t ≡ first ++ 32 ∷ second ++ 10 ∷ []
