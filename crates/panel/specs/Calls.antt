-- The calls on a lent panel, by the table of "When the scanner says no" and 02, W4, W7 and W13: s is the panel before the call, n the answer's number.
use Rattle.std.specs.Prelude.{◌≡◌, ◌≢◌, ◌⊎◌, ◌↔◌, List, [], ◌∷◌, ◌++◌, ℕ, ◌+◌, ◌-◌, ◌*◌, ◌/◌, ◌^◌, ◌<◌, length}
use Rattle.bits.specs.Bits.{bit}
use Rattle.nodes.specs.Depth.{depth_of}
use Rattle.nodes.specs.Neighbours.{edge}
use Rattle.tables.specs.Table.{Row, unless, when, Answers, Outcome}
use Rattle.words.specs.Words.{leaf_bit}
use Rattle.sums.specs.Rank.{rank}
use Rattle.cuts.specs.Cuts.{Smallest, LeafAbove, place_of, sibling}
use Rattle.pins.specs.Pins.{pin_place, pin_bit}
use Rattle.panel.specs.Panels.{Fits, deep_of, RightLength, CutOf, Good, InRange, LeafOf, BelowLeaf, pin_of, Pinned, number_in, leaf_count, leaf_part}

-- ---- calls that read

abbrev pub panel_rows : List ℕ → List Row
panel_rows s = unless 1 (RightLength s) ∷ unless 2 (Good s) ∷ []

abbrev pub Judged : List ℕ → ℕ → Type 0
Judged s n = Answers (panel_rows s) n

-- .. with the count c
abbrev pub Count : List ℕ → ℕ → ℕ → Type 0
Count s n c = Outcome (panel_rows s) ℕ (λ x. x ≡ leaf_count s) (λ x. x ≡ 0) n c

-- .. with the part t
abbrev pub LeafBits : List ℕ → ℕ → List ℕ → Type 0
LeafBits s n t = Outcome (panel_rows s) (List ℕ) (λ x. x ≡ leaf_part s) (λ x. x ≡ []) n t

-- k is the leaf of number i
pub record LeafNumbered (s : List ℕ) (i k : ℕ) : Type 0 where
  pub leaf : LeafOf s k
  pub number : number_in s k ≡ i

-- leaf number i is node k
abbrev pub LeafAt : List ℕ → ℕ → ℕ → ℕ → Type 0
LeafAt s i n k = Outcome (panel_rows s ++ unless 8 (i < leaf_count s) ∷ []) ℕ (LeafNumbered s i) (λ x. x ≡ 0) n k

-- the rows of a call that takes leaf k: 4 where k is itself cut, 10 where an ancestor is the leaf
abbrev pub leaf_rows : List ℕ → ℕ → List Row
leaf_rows s k = panel_rows s ++ unless 3 (InRange s k) ∷ when 4 (CutOf s k) ∷ when 10 (BelowLeaf s k) ∷ []

-- the ancestor a that such a call returns beside its answer n: that leaf beside 10, and 0 beside everything else
pub record Ancestor (s : List ℕ) (k n a : ℕ) : Type 0 where
  pub leaf : n ≡ 10 → LeafAbove (CutOf s) k a
  pub none : n ≢ 10 → a ≡ 0

-- node k is leaf number i
abbrev pub NumberOf : List ℕ → ℕ → ℕ → ℕ → Type 0
NumberOf s k n i = Outcome (leaf_rows s k) ℕ (λ x. x ≡ number_in s k) (λ x. x ≡ 0) n i

-- .. and its pin is v, 1 where it is pinned
abbrev pub PinOf : List ℕ → ℕ → ℕ → ℕ → Type 0
PinOf s k n v = Outcome (leaf_rows s k) ℕ (λ x. x ≡ pin_of s k) (λ x. x ≡ 0) n v

-- ---- calls that change a panel: t is the panel after the call

-- the good panel of depth D whose only cut is node 1, with no pin
pub record Fresh (D : ℕ) (t : List ℕ) : Type 0 where
  pub good : Good t
  pub deep : deep_of t ≡ D
  pub cuts : (n : ℕ) → CutOf t n ↔ (n ≡ 1)
  pub pins : (p : ℕ) → p < 2 ^ D → pin_bit D t p ≡ 0

abbrev pub Open : List ℕ → ℕ → ℕ → List ℕ → Type 0
Open s D n t = Outcome (unless 1 (Fits s D) ∷ []) (List ℕ) (Fresh D) (λ x. x ≡ s) n t

-- a leaf of t is pinned exactly if the leaf of s was that it is, or lies in
abbrev pub PinsPassed : List ℕ → List ℕ → Type 0
PinsPassed s t = (l m j : ℕ) → LeafOf s l → LeafOf t m → m / 2 ^ j ≡ l → Pinned t m ↔ Pinned s l

-- the smallest good panel, by cuts, that holds every old cut and k's; a cut leaf's pin passes to all that it is cut into
pub record SplitAt (s : List ℕ) (k : ℕ) (t : List ℕ) : Type 0 where
  pub good : Good t
  pub long : length t ≡ length s
  pub cuts : Smallest (λ n. CutOf s n ⊎ (n ≡ k)) (CutOf t)
  pub pins : PinsPassed s t

abbrev pub Split : List ℕ → ℕ → ℕ → List ℕ → Type 0
Split s k n t = Outcome (leaf_rows s k ++ unless 5 (depth_of k < deep_of s) ∷ []) (List ℕ) (SplitAt s k) (λ x. x ≡ s) n t

-- k's sibling and, where the parent's edge neighbour is a node, both that neighbour's children are leaves
pub record Together (s : List ℕ) (k : ℕ) : Type 0 where
  pub beside : LeafOf s (sibling k)
  pub across : edge (k / 2) ≢ 0 → LeafOf s (2 * edge (k / 2)) × LeafOf s (2 * edge (k / 2) + 1)

-- neither child of n is pinned
pub record Bare (s : List ℕ) (n : ℕ) : Type 0 where
  pub left : Pinned s (2 * n) → ⊥
  pub right : Pinned s (2 * n + 1) → ⊥

-- none of the leaves that the merge would remove, on either side, is pinned
pub record Unpinned (s : List ℕ) (k : ℕ) : Type 0 where
  pub own : Bare s (k / 2)
  pub across : edge (k / 2) ≢ 0 → Bare s (edge (k / 2))

-- the leaves of both panels keep their pins, and those that come back are not pinned
abbrev pub PinsKept : List ℕ → List ℕ → Type 0
PinsKept s t = (m : ℕ) → LeafOf t m → Pinned t m ↔ (LeafOf s m × Pinned s m)

-- exactly the parent's cut and, if the parent has an edge neighbour, that neighbour's cut are taken back
pub record MergeAt (s : List ℕ) (k : ℕ) (t : List ℕ) : Type 0 where
  pub good : Good t
  pub long : length t ≡ length s
  pub cuts : (n : ℕ) → CutOf t n ↔ (CutOf s n × (n ≢ k / 2) × (n ≢ edge (k / 2)))
  pub pins : PinsKept s t

-- 6, 7 and 11 are tested in this order
abbrev pub merge_rows : List ℕ → ℕ → List Row
merge_rows s k = unless 6 (1 < depth_of k) ∷ unless 7 (Together s k) ∷ unless 11 (Unpinned s k) ∷ []

abbrev pub Merge : List ℕ → ℕ → ℕ → List ℕ → Type 0
Merge s k n t = Outcome (leaf_rows s k ++ merge_rows s k) (List ℕ) (MergeAt s k) (λ x. x ≡ s) n t

-- the pin bit in the place of leaf k's own leaf bit is v, and every other bit is as it was
pub record PinAt (s : List ℕ) (k v : ℕ) (t : List ℕ) : Type 0 where
  pub long : length t ≡ length s
  pub pin : pin_of t k ≡ v
  pub rest : (q : ℕ) → q ≢ pin_place (deep_of s) (place_of (deep_of s) k) → bit t q ≡ bit s q

-- pin sets it, and unpin clears it
abbrev pub PinPut : List ℕ → ℕ → ℕ → ℕ → List ℕ → Type 0
PinPut s k v n t = Outcome (leaf_rows s k) (List ℕ) (PinAt s k v) (λ x. x ≡ s) n t

abbrev pub Pin : List ℕ → ℕ → ℕ → List ℕ → Type 0
Pin s k = PinPut s k 1

abbrev pub Unpin : List ℕ → ℕ → ℕ → List ℕ → Type 0
Unpin s k = PinPut s k 0

-- ---- mending: the panel before the call is any bytes

-- the smallest good panel whose cuts include every cut that the set leaf bits name; node 1 counts as named. A pin stays where its bit is a
-- leaf bit afterwards, others are cleared
pub record MendAt (s t : List ℕ) : Type 0 where
  pub good : Good t
  pub long : length t ≡ length s
  pub cuts : Smallest (λ n. CutOf s n ⊎ (n ≡ 1)) (CutOf t)
  pub pins : (p : ℕ) → p < 2 ^ deep_of s → (pin_bit (deep_of s) t p ≡ 1) ↔ ((pin_bit (deep_of s) s p ≡ 1) × (leaf_bit (deep_of s) t p ≡ 1))

-- the field's set bits other than bit 0
abbrev pub named_cuts : List ℕ → ℕ
named_cuts s = rank (leaf_bit (deep_of s) s) (2 ^ deep_of s) - leaf_bit (deep_of s) s 0

-- the cuts added: the new leaf count less one, less the old field's set bits other than bit 0
abbrev pub added_cuts : List ℕ → List ℕ → ℕ
added_cuts s t = leaf_count t - 1 - named_cuts s

-- what a mending leaves: the panel, and the cuts that it reports as added
pub record Mended : Type 0 where
  pub panel : List ℕ
  pub added : ℕ

pub record MendedBy (s : List ℕ) (x : Mended) : Type 0 where
  pub mended : MendAt s x.panel
  pub count : x.added ≡ added_cuts s x.panel

-- refused: the same bytes, and 0
abbrev pub Mend : List ℕ → ℕ → Mended → Type 0
Mend s n x = Outcome (unless 1 (RightLength s) ∷ []) Mended (MendedBy s) (λ y. y ≡ record { panel = s; added = 0 }) n x
