-- What the bits of a leaf word, 64 leaf bits, ask of each other, and what that says of the nodes that they name.
use Rattle.std.specs.Prelude.{◌≡◌, ◌↔◌, ℕ, ◌+◌, ◌-◌, ◌*◌, ◌/◌, ◌^◌, ◌≤◌, ◌<◌}
use Rattle.bits.specs.Bits.{digit}
use Rattle.cuts.specs.Cuts.{Cut}
use Rattle.cuts.specs.inner.Steps.{Follows, AcrossCut, PlaceFollows}

-- b is the leaf word below q: with p = 2 ^ t (2 c + 1), its bit p says whether node 2 ^ (5 - t) q + c is cut
pub record CutWord (P : ℕ → Type 0) (q b : ℕ) : Type 0 where
  pub names : (t c : ℕ) → t ≤ 5 → c < 2 ^ (5 - t) → P (2 ^ (5 - t) * q + c) ↔ (digit b (2 ^ t * (2 * c + 1)) ≡ 1)

-- bit a of each of the n words of v bits in b is set only where bit p is
pub record Under (n v a p b : ℕ) : Type 0 where
  pub at : (i : ℕ) → i < n → digit b (a + i * v) ≤ digit b (p + i * v)

-- .. and where bit p is set, too
pub record Same (n v a p b : ℕ) : Type 0 where
  pub at : (i : ℕ) → i < n → digit b (a + i * v) ≡ digit b (p + i * v)

-- in words of 4 s bits: the bits s and 3 s of two children are set only where bit 2 s of their parent is
pub record Beside (n s b : ℕ) : Type 0 where
  pub left : Under n (4 * s) s (2 * s) b
  pub right : Under n (4 * s) (3 * s) (2 * s) b

-- so each node below q is cut only where its parent is: those whose bits are odd multiples of 2 ^ t, for each t
abbrev pub ParentsBeside : ℕ → Type 0
ParentsBeside b = (t : ℕ) → t < 5 → Beside (2 ^ (4 - t)) (2 ^ t) b

-- two nodes that stand across from each other are both cut or none, for each node m below q: 4m + 1 and 4m + 2, 16m + 4 and 16m + 11, 16m + 7 and 16m + 8
pub record InnerSame (b : ℕ) : Type 0 where
  pub middle : (t : ℕ) → t < 3 → Same (2 ^ (3 - t)) (8 * 2 ^ t) (3 * 2 ^ t) (5 * 2 ^ t) b
  pub outer : Same 2 32 9 23 b
  pub inner : Same 2 32 15 17 b

-- .. and for m = q
pub record TopSame (b : ℕ) : Type 0 where
  pub middle : Same 1 64 24 40 b
  pub outer : Same 1 64 18 46 b
  pub inner : Same 1 64 30 34 b

-- bit a of w is set only where bit c of x is, and bit c of w only where bit a of x is
pub record Crossed (w x a c : ℕ) : Type 0 where
  pub there : digit w a ≤ digit x c
  pub back : digit w c ≤ digit x a

-- w is the word below m and x the one below m's edge neighbour, with their bits s apart, or a multiple of it: of seven nodes along m's long side, m, and
-- the outer two of four below it, and of these again, each is cut only where the one across from it is; there they stand in the other order
pub record Mirrored (s w x : ℕ) : Type 0 where
  pub own : Crossed w x (16 * s) (16 * s)
  pub outer : Crossed w x (4 * s) (28 * s)
  pub outermost : Crossed w x s (31 * s)
  pub next : Crossed w x (7 * s) (25 * s)

-- below node 1: what the parts of its word ask of each other. Its children stand across from each other, and their children at the border
pub record RootFollows (b : ℕ) : Type 0 where
  pub parents : ParentsBeside b
  pub inner : InnerSame b
  pub there : Mirrored 1 b (b / 2 ^ 32)
  pub back : Mirrored 1 (b / 2 ^ 32) b

-- each of the seven that is cut has none or a cut node across it
pub record OuterAcross (P : ℕ → Type 0) (m : ℕ) : Type 0 where
  pub own : P m → AcrossCut P m
  pub first : P (4 * m) → AcrossCut P (4 * m)
  pub last : P (4 * m + 3) → AcrossCut P (4 * m + 3)
  pub first_first : P (16 * m) → AcrossCut P (16 * m)
  pub first_last : P (16 * m + 3) → AcrossCut P (16 * m + 3)
  pub last_first : P (16 * m + 12) → AcrossCut P (16 * m + 12)
  pub last_last : P (16 * m + 15) → AcrossCut P (16 * m + 15)

-- along the long sides of q and of its children
pub record SidesFollow (P : ℕ → Type 0) (q : ℕ) : Type 0 where
  pub own : OuterAcross P q
  pub left : OuterAcross P (2 * q)
  pub right : OuterAcross P (2 * q + 1)

-- q and the nodes to five levels below it, where they are cut, may be
abbrev pub BelowFollow : (ℕ → Type 0) → ℕ → Type 0
BelowFollow P q = (k n : ℕ) → k ≤ 5 → n / 2 ^ k ≡ q → P n → Follows P n

-- so may all nodes that leaf bits 64 j to 64 j + 63 name
pub record BlockFollows (D : ℕ) (f : ℕ → ℕ) (j : ℕ) : Type 0 where
  pub place : PlaceFollows D f (64 * j)
  pub below : BelowFollow (Cut D f) (2 ^ (D - 6) + j)
