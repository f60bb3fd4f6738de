-- The kinds of request records as the code names them, and their numbers.
use Rattle.std.specs.Prelude.{◌≡◌, ℕ, ◌<◌, List, Option, Result, MatchOption, MatchResult}
use Rattle.records.specs.Records.{kind, number, Fine}
use Rattle.records.specs.declared.Kind.{Kind}
use Rattle.records.specs.declared.Kind.TheVariants.{Open, Split, Merge, Pin, Unpin}
use Rattle.records.specs.declared.Request.{Request}

-- the byte that stands for a kind
abbrev pub kind_number : Kind → ℕ
kind_number Open = 0
kind_number Split = 1
kind_number Merge = 2
kind_number Pin = 3
kind_number Unpin = 4

-- the kind that a byte stands for, or none
abbrev pub KindOf : ℕ → Result Kind Unit → Type 0
KindOf n k = MatchResult k (λ j. kind_number j ≡ n) (λ _. 4 < n)

-- what record r, of the kinds from `first` to `last`, asks for: its kind and its number, or nothing where it is bad
abbrev pub Asked : ℕ → ℕ → List ℕ → Option Request → Type 0
Asked first last r q = MatchOption q (Fine first last r → ⊥) (λ a. Fine first last r × (kind_number a.kind ≡ kind r) × (a.number ≡ number r))
