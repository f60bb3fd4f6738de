-- What is drawn in 32 leaf bits at once.
use Rattle.std.specs.Prelude.{◌≡◌, ◌≢◌, ◌⊎◌, ◌↔◌, List, [], ◌∷◌, ◌++◌, ℕ, zero, suc, ◌+◌, ◌-◌, ◌*◌, ◌<◌}
use Rattle.bits.specs.Bits.{digit}
use Rattle.nodes.specs.Neighbours.{edge}

-- ---- bits that are set by others

-- a bit of x in one of these places is set
abbrev pub SetIn : ℕ → List ℕ → Type 0
SetIn x [] = ⊥
SetIn x (i ∷ is) = (digit x i ≡ 1) ⊎ SetIn x is

-- place i, where a bit is set
abbrev pub placed : ℕ → ℕ → List ℕ
placed zero i = []
placed (suc b) i = i ∷ []

-- the places that set bit p: k places down where bit p of up is set, and k places up where bit p of down is
abbrev pub sources : ℕ → ℕ → ℕ → ℕ → List ℕ
sources k up down p = placed (digit up p) (p - k) ++ placed (digit down p) (p + k)

-- r is b with each bit set besides for which one of y is, so many places down or up
pub record Pulled (b y k up down r : ℕ) : Type 0 where
  pub at : (p : ℕ) → p < 32 → (digit r p ≡ 1) ↔ ((digit b p ≡ 1) ⊎ SetIn y (sources k up down p))

-- ---- what the bits name

-- b is the leaf word of the 32 bits below m: its odd bits name the nodes four levels down, and the bits between two of these their parents
pub record NearWord (P : ℕ → Type 0) (m b : ℕ) : Type 0 where
  pub names : (c : ℕ) → c < 16 → P (16 * m + c) ↔ (digit b (2 * c + 1) ≡ 1)
  pub parents : (c : ℕ) → c < 8 → P (8 * m + c) ↔ (digit b (4 * c + 2) ≡ 1)

-- the odd bits of y name those below m's edge neighbour; where that is none, none is set
pub record FarWord (P : ℕ → Type 0) (m y : ℕ) : Type 0 where
  pub names : (c : ℕ) → c < 16 → (digit y (2 * c + 1) ≡ 1) ↔ ((edge m ≢ 0) × P (16 * edge m + c))

-- ---- a word that is drawn

-- bit a of r is set where bit a of b or bit c of y is, and bit c of r where bit c of b or bit a of y is
pub record Met (b y r a c : ℕ) : Type 0 where
  pub there : (digit r a ≡ 1) ↔ ((digit b a ≡ 1) ⊎ (digit y c ≡ 1))
  pub back : (digit r c ≡ 1) ↔ ((digit b c ≡ 1) ⊎ (digit y a ≡ 1))

-- r is b with its odd bits met by those across from them, inside b or in y, and their parents' bits set by them
pub record WordDrawn (b y r : ℕ) : Type 0 where
  pub middle : (i : ℕ) → i < 4 → Met b b r (8 * i + 3) (8 * i + 5)
  pub inner : Met b b r 15 17
  pub outer : Met b b r 9 23
  pub outermost : Met b y r 1 31
  pub next : Met b y r 7 25
  pub parents : (c : ℕ) → c < 8 → (digit r (4 * c + 2) ≡ 1) ↔ ((digit b (4 * c + 2) ≡ 1) ⊎ ((digit r (4 * c + 1) ≡ 1) ⊎ (digit r (4 * c + 3) ≡ 1)))
  pub rest : (c : ℕ) → c < 8 → (digit r (4 * c) ≡ 1) ↔ (digit b (4 * c) ≡ 1)
