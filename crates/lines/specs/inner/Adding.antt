-- A line put behind a text. Only our own functions speak of it.
use Rattle.std.specs.Prelude.{◌≡◌, List, ◌++◌, ℕ}
use Rattle.lines.specs.Lines.{Line}

-- the longest line: two numbers of 20 digits, a space and a line feed
abbrev pub longest : ℕ
longest = 42

-- the text after is that before, and behind it the line of two numbers
pub record Added (a b : ℕ) (before after : List ℕ) : Type 0 where
  pub text : List ℕ
  pub line : Line a b text
  pub all : after ≡ before ++ text
