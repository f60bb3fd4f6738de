-- The cases of "Known panels" that are marked [M], with pins zero, and some of 02, W1, W4, W6, W7 and W13: requests and what is expected of them, as data, and what it is for a case to hold.
use Rattle.std.specs.Prelude.{◌≡◌, List, [], ◌∷◌, ◌++◌, ℕ, suc, length}
use Rattle.nodes.specs.declared.triples.Triple.{Triple}
use Rattle.triangles.specs.Corners.{Triangle, point, triangle}
use Rattle.node_calls.specs.Calls.{Neighbours, Corners}
use Rattle.panel.specs.Calls.{Judged, Count, LeafAt, Ancestor, NumberOf, PinOf, Open, Split, Merge, Pin, Unpin, Mend}
use Rattle.rounds.specs.Rounds.{Round}

-- ---- what a case is

-- a panel is its bytes, and its leaves are nodes in the order of their numbers
pub data Case : Type 0 where
  -- the panel is good
  judged : (panel leaves : List ℕ) → Case
  -- open of depth D is done, and writes the panel
  opens : (D : ℕ) (panel leaves : List ℕ) → Case
  -- split, merge, pin or unpin of node k
  splits merges pins unpins : (before : List ℕ) (k answer : ℕ) (after leaves : List ℕ) → Case
  -- the pin of leaf k is v
  pinned : (panel : List ℕ) (k v : ℕ) → Case
  -- all calls that take a leaf are refused node k, with an ancestor or 0 beside
  refused : (panel : List ℕ) (k answer ancestor : ℕ) → Case
  neighbours : (n left right edge : ℕ) → Case
  corners : (n : ℕ) (points : Triangle) → Case

-- ---- what it is for a case to hold: the calls answer so, by the definitions that their contracts cite

-- panel t has the leaves ks from number i on, and no more
abbrev pub LeavesFrom : List ℕ → ℕ → List ℕ → Type 0
LeavesFrom t i [] = Count t 0 i
LeavesFrom t i (k ∷ ks) = LeafAt t i 0 k × LeavesFrom t (suc i) ks

abbrev pub Leaves : List ℕ → List ℕ → Type 0
Leaves t ks = LeavesFrom t 0 ks

-- all calls that take a leaf refuse node k
pub record Refused (s : List ℕ) (k n a : ℕ) : Type 0 where
  pub split : Split s k n s
  pub merge : Merge s k n s
  pub number_of : NumberOf s k n 0
  pub pin : Pin s k n s
  pub unpin : Unpin s k n s
  pub pin_of : PinOf s k n 0
  pub ancestor : Ancestor s k n a

abbrev pub around : ℕ → ℕ → ℕ → Triple
around l r e = record { left = l; right = r; edge = e }

-- open is lent any bytes of the panel's length
abbrev pub Holds : Case → Type 0
Holds (judged t ks) = Judged t 0 × Leaves t ks
Holds (opens D t ks) = ((s : List ℕ) → length s ≡ length t → Open s D 0 t) × Leaves t ks
Holds (splits s k n t ks) = Split s k n t × Leaves t ks
Holds (merges s k n t ks) = Merge s k n t × Leaves t ks
Holds (pins s k n t ks) = Pin s k n t × Leaves t ks
Holds (unpins s k n t ks) = Unpin s k n t × Leaves t ks
Holds (pinned s k v) = PinOf s k 0 v
Holds (refused s k n a) = Refused s k n a
Holds (neighbours n l r e) = Neighbours n 0 (around l r e)
Holds (corners n t) = Corners n 0 t

abbrev pub Every : List Case → Type 0
Every [] = Unit {0}
Every (c ∷ cs) = Holds c × Every cs

-- ---- the cases

-- at D = 3: the words, and the byte of pins
abbrev pub opened : ℕ → List ℕ
opened pin = 0x8C ∷ 0x24 ∷ 0x11 ∷ 0x11 ∷ pin ∷ []

abbrev pub four_leaves : ℕ → List ℕ
four_leaves pin = 0x0C ∷ 0x49 ∷ 0x55 ∷ 0x55 ∷ pin ∷ []

abbrev pub five_leaves : ℕ → List ℕ
five_leaves pin = 0x4C ∷ 0x4D ∷ 0x56 ∷ 0x57 ∷ pin ∷ []

abbrev pub all_cut : ℕ → List ℕ
all_cut pin = 0x0C ∷ 0x92 ∷ 0xAA ∷ 0xFF ∷ pin ∷ []

-- at D = 4, with two bytes of pins
abbrev pub five_deeper : ℕ → List ℕ
five_deeper pin = 0x90 ∷ 0x32 ∷ 0xA2 ∷ 0x24 ∷ 0x15 ∷ 0x11 ∷ 0x15 ∷ 0x11 ∷ 0 ∷ pin ∷ []

abbrev pub eight_deeper : ℕ → List ℕ
eight_deeper pin = 0x10 ∷ 0x44 ∷ 0xB4 ∷ 0x64 ∷ 0x16 ∷ 0x91 ∷ 0x17 ∷ 0xD1 ∷ 0 ∷ pin ∷ []

-- leaf 5 is pinned, also where it is, and the pin taken back; a pin passes to both children, where the cut was asked for, where it was forced, and through two cuts;
-- merges that meet a pin on their own side and on the other, that lack leaves first, and that leave another's pin
abbrev pub pin_cases : List Case
pin_cases =
    pins (four_leaves 0) 5 0 (four_leaves 0x04) (4 ∷ 5 ∷ 6 ∷ 7 ∷ [])
    ∷ pins (four_leaves 0x44) 5 0 (four_leaves 0x44) (4 ∷ 5 ∷ 6 ∷ 7 ∷ [])
    ∷ unpins (four_leaves 0x44) 5 0 (four_leaves 0x40) (4 ∷ 5 ∷ 6 ∷ 7 ∷ [])
    ∷ unpins (four_leaves 0x40) 5 0 (four_leaves 0x40) (4 ∷ 5 ∷ 6 ∷ 7 ∷ [])
    ∷ pinned (four_leaves 0x44) 5 1
    ∷ pinned (four_leaves 0x44) 6 0
    ∷ splits (opened 0x01) 2 0 (four_leaves 0x05) (4 ∷ 5 ∷ 6 ∷ 7 ∷ [])
    ∷ splits (opened 0x10) 2 0 (four_leaves 0x50) (4 ∷ 5 ∷ 6 ∷ 7 ∷ [])
    ∷ splits (five_deeper 0x10) 8 0 (eight_deeper 0xD0) (16 ∷ 17 ∷ 9 ∷ 5 ∷ 6 ∷ 14 ∷ 30 ∷ 31 ∷ [])
    ∷ merges (four_leaves 0x04) 5 11 (four_leaves 0x04) (4 ∷ 5 ∷ 6 ∷ 7 ∷ [])
    ∷ merges (four_leaves 0x40) 5 11 (four_leaves 0x40) (4 ∷ 5 ∷ 6 ∷ 7 ∷ [])
    ∷ merges (five_leaves 0x04) 5 7 (five_leaves 0x04) (8 ∷ 9 ∷ 5 ∷ 6 ∷ 7 ∷ [])
    ∷ merges (five_leaves 0x10) 9 0 (four_leaves 0x10) (4 ∷ 5 ∷ 6 ∷ 7 ∷ [])
    ∷ []

-- open 3, then split 2, then split 4; all cut; split 8 at D = 4; three merges; nodes that are cut, and below a leaf; neighbours; corners
abbrev pub known_cases : List Case
known_cases =
    opens 3 (opened 0) (2 ∷ 3 ∷ [])
    ∷ splits (opened 0) 2 0 (four_leaves 0) (4 ∷ 5 ∷ 6 ∷ 7 ∷ [])
    ∷ splits (four_leaves 0) 4 0 (five_leaves 0) (8 ∷ 9 ∷ 5 ∷ 6 ∷ 7 ∷ [])
    ∷ judged (all_cut 0) (8 ∷ 9 ∷ 10 ∷ 11 ∷ 12 ∷ 13 ∷ 14 ∷ 15 ∷ [])
    ∷ judged (five_deeper 0) (8 ∷ 9 ∷ 5 ∷ 6 ∷ 7 ∷ [])
    ∷ splits (five_deeper 0) 8 0 (eight_deeper 0) (16 ∷ 17 ∷ 9 ∷ 5 ∷ 6 ∷ 14 ∷ 30 ∷ 31 ∷ [])
    ∷ merges (four_leaves 0) 5 0 (opened 0) (2 ∷ 3 ∷ [])
    ∷ merges (five_leaves 0) 5 7 (five_leaves 0) (8 ∷ 9 ∷ 5 ∷ 6 ∷ 7 ∷ [])
    ∷ merges (five_leaves 0) 9 0 (four_leaves 0) (4 ∷ 5 ∷ 6 ∷ 7 ∷ [])
    ∷ refused (four_leaves 0) 2 4 0
    ∷ refused (four_leaves 0) 8 10 4
    ∷ refused (opened 0) 15 10 3
    ∷ refused (five_deeper 0) 23 10 5
    ∷ neighbours 8 9 0 15
    ∷ neighbours 10 11 0 9
    ∷ neighbours 17 30 16 18
    ∷ corners 10 (triangle (point 0 0) (point 128 0) (point 128 128))
    ∷ corners 4 (triangle (point 0 0) (point 128 128) (point 0 256))
    ∷ pin_cases

-- ---- a round, by 02, W1

-- a record of this kind with node k
abbrev pub asks : ℕ → ℕ → List ℕ
asks c k = c ∷ 0 ∷ 0 ∷ 0 ∷ k ∷ 0 ∷ 0 ∷ 0 ∷ []

-- split 2; split 8, which lies below leaf 4; pin 4, which is bad in a round; split 4; merge 5, which lacks leaves
abbrev pub known_records : List ℕ
known_records = asks 1 2 ++ asks 1 8 ++ asks 3 4 ++ asks 1 4 ++ asks 2 5

-- a sixth answer byte stays
abbrev pub KnownRound : Type 0
KnownRound = Round (opened 0) known_records (1 ∷ 1 ∷ 1 ∷ 1 ∷ 1 ∷ 0xEE ∷ []) 0 (record { panel = five_leaves 0; answers = 0 ∷ 10 ∷ 9 ∷ 0 ∷ 7 ∷ 0xEE ∷ [] })

-- ---- mending, by 02, W13

-- mend of any bytes, with the cuts added; the leaves are those of the panel where it is done
pub data MendCase : Type 0 where
  mends : (before : List ℕ) (answer added : ℕ) (after leaves : List ℕ) → MendCase

abbrev pub MendHolds : MendCase → Type 0
MendHolds (mends s n a t ks) = Mend s n (record { panel = t; added = a }) × (n ≡ 0 → Leaves t ks)

abbrev pub EveryMend : List MendCase → Type 0
EveryMend [] = Unit {0}
EveryMend (c ∷ cs) = MendHolds c × EveryMend cs

-- no bit set, and all; a good panel; one deep cut named, with all pins set; two pinned leaves that get cut; a pin where no leaf is; a cut at
-- D = 4 that asks for one across; a length of no depth
abbrev pub mend_cases : List MendCase
mend_cases =
    mends (0 ∷ 0 ∷ 0 ∷ 0 ∷ 0 ∷ []) 0 1 (opened 0) (2 ∷ 3 ∷ [])
    ∷ mends (0xFF ∷ 0xFF ∷ 0xFF ∷ 0xFF ∷ 0xFF ∷ []) 0 0 (all_cut 0xFF) (8 ∷ 9 ∷ 10 ∷ 11 ∷ 12 ∷ 13 ∷ 14 ∷ 15 ∷ [])
    ∷ mends (five_leaves 0x04) 0 0 (five_leaves 0x04) (8 ∷ 9 ∷ 5 ∷ 6 ∷ 7 ∷ [])
    ∷ mends (0 ∷ 0 ∷ 0 ∷ 0x02 ∷ 0xFF ∷ []) 0 3 (five_leaves 0x57) (8 ∷ 9 ∷ 5 ∷ 6 ∷ 7 ∷ [])
    ∷ mends (0x8C ∷ 0x24 ∷ 0x11 ∷ 0x13 ∷ 0x11 ∷ []) 0 2 (five_leaves 0x11) (8 ∷ 9 ∷ 5 ∷ 6 ∷ 7 ∷ [])
    ∷ mends (four_leaves 0x02) 0 0 (four_leaves 0) (4 ∷ 5 ∷ 6 ∷ 7 ∷ [])
    ∷ mends (0 ∷ 0 ∷ 0 ∷ 0 ∷ 0 ∷ 0 ∷ 0x03 ∷ 0 ∷ 0 ∷ 0 ∷ []) 0 6 (eight_deeper 0) (16 ∷ 17 ∷ 9 ∷ 5 ∷ 6 ∷ 14 ∷ 30 ∷ 31 ∷ [])
    ∷ mends (0x8C ∷ 0x24 ∷ 0x11 ∷ 0x11 ∷ []) 1 0 (0x8C ∷ 0x24 ∷ 0x11 ∷ 0x11 ∷ []) []
    ∷ []
