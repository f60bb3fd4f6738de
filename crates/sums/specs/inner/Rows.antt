-- Rows of words, and the sums over eight and over 64 leaf bits.
use Rattle.std.specs.Prelude.{◌≡◌, ◌⊎◌, List, ℕ, ◌+◌, ◌*◌, ◌/◌, ◌%◌, ◌^◌, ◌≤◌, ◌<◌, length}
use Rattle.bits.specs.Bits.{bit, field}
use Rattle.bits.specs.inner.Puts.{Apart}
use Rattle.bits.specs.inner.Abreast.{part}
use Rattle.nodes.specs.Depth.{depth_of}
use Rattle.words.specs.Words.{start, word}

-- word k is the sum of its two children's words
abbrev pub SumAt : ℕ → List ℕ → ℕ → Type 0
SumAt D bs k = word D bs k ≡ word D bs (2 * k) + word D bs (2 * k + 1)

-- so are all words from m on, before n; a row is 2 ^ d to 2 ^ (d + 1)
abbrev pub SumsBetween : ℕ → List ℕ → ℕ → ℕ → Type 0
SumsBetween D bs m n = (k : ℕ) → m ≤ k → k < n → SumAt D bs k

-- ys is xs with the words from m on, before n, made sums, and no bit outside them has changed
pub record Made (D m n : ℕ) (xs ys : List ℕ) : Type 0 where
  pub long : length ys ≡ length xs
  pub same : (p : ℕ) → (p < start D (depth_of m) m) ⊎ (start D (depth_of n) n ≤ p) → bit ys p ≡ bit xs p
  pub sums : SumsBetween D ys m n

-- ys is xs with the sums made that Sums speaks of, and no field that is Clear of them has changed
pub record MadeHere (Clear : ℕ → ℕ → Type 0) (Sums : List ℕ → Type 0) (xs ys : List ℕ) : Type 0 where
  pub long : length ys ≡ length xs
  pub same : (s w : ℕ) → Clear s w → field ys s w ≡ field xs s w
  pub sums : Sums ys

-- the n words of w + 1 bits in y are the sums of those of w bits in x, two by two
abbrev pub PairSums : ℕ → ℕ → ℕ → ℕ → Type 0
PairSums n w x y = (i : ℕ) → i < n → part (w + 1) y i ≡ part w x (2 * i) + part w x (2 * i + 1)

-- seven sums over the eight bits in x: four words of two bits in y, two of three bits in z, one of four bits in u
pub record Seven (x y z u : ℕ) : Type 0 where
  pub four : PairSums 4 1 x y
  pub two : PairSums 2 2 y z
  pub one : PairSums 1 3 z u

-- so stand the sums over leaf bits 8 j to 8 j + 7, where m words are the first of the three lowest rows
abbrev pub SevenAt : ℕ → List ℕ → ℕ → Type 0
SevenAt m bs j = Seven (field bs (8 * (3 * m + j)) 8) (field bs (8 * (2 * m + j)) 8) (field bs (10 * m + 6 * j) 6) (field bs (6 * m + 4 * j) 4)

-- the w bits from bit s on hold none of them
pub record ApartSeven (m j s w : ℕ) : Type 0 where
  pub four : Apart (8 * (2 * m + j)) 8 s w
  pub two : Apart (10 * m + 6 * j) 6 s w
  pub one : Apart (6 * m + 4 * j) 4 s w

-- they are made
abbrev pub SevenMade : ℕ → ℕ → List ℕ → List ℕ → Type 0
SevenMade m j = MadeHere (ApartSeven m j) (λ ys. SevenAt m ys j)

-- the same seven in one number: y in its first eight bits, then z, then u
pub record Sevens (x n : ℕ) : Type 0 where
  pub small : n < 2 ^ 18
  pub right : Seven x (n % 256) (n / 256 % 64) (n / 16384)

-- ---- 64 leaf bits

-- six rows of sums over the 64 bits in x: 32 words of two bits in a, 16 of three bits in b, and so on to one of seven bits in f
pub record Six (x a b c d e f : ℕ) : Type 0 where
  pub twos : PairSums 32 1 x a
  pub fours : PairSums 16 2 a b
  pub eights : PairSums 8 3 b c
  pub sixteens : PairSums 4 4 c d
  pub halves : PairSums 2 5 d e
  pub all : PairSums 1 6 e f

-- and no other bits are set in them
pub record SixOver (x a b c d e f : ℕ) : Type 0 where
  pub small : (a < 2 ^ 64) × (b < 2 ^ 48) × (c < 2 ^ 32) × (d < 2 ^ 20) × (e < 2 ^ 12) × (f < 2 ^ 7)
  pub six : Six x a b c d e f

-- so stand the sums over leaf bits 64 j to 64 j + 63, where m words are the first of the six lowest rows
abbrev pub SixAt : ℕ → List ℕ → ℕ → Type 0
SixAt m bs j =
    Six (field bs (8 * (24 * m + 8 * j)) 64) (field bs (8 * (16 * m + 8 * j)) 64) (field bs (8 * (10 * m + 6 * j)) 48) (field bs (8 * (6 * m + 4 * j)) 32)
    (field bs (28 * m + 20 * j) 20) (field bs (16 * m + 12 * j) 12) (field bs (9 * m + 7 * j) 7)

-- the w bits from bit s on hold none of them
pub record ApartSix (m j s w : ℕ) : Type 0 where
  pub twos : Apart (8 * (16 * m + 8 * j)) 64 s w
  pub fours : Apart (8 * (10 * m + 6 * j)) 48 s w
  pub eights : Apart (8 * (6 * m + 4 * j)) 32 s w
  pub sixteens : Apart (28 * m + 20 * j) 20 s w
  pub halves : Apart (16 * m + 12 * j) 12 s w
  pub all : Apart (9 * m + 7 * j) 7 s w

-- they are made
abbrev pub SixMade : ℕ → ℕ → List ℕ → List ℕ → Type 0
SixMade m j = MadeHere (ApartSix m j) (λ ys. SixAt m ys j)
