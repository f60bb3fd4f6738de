-- The number and the values that "When the scanner says no" and 02, W1, W4, W7 and W13, give to each case of an answer. Beside a refusal every other number is 0,
-- but for the ancestor beside 10.
use Rattle.std.specs.Prelude.{Bool, true, false, ℕ, Result, Ok, Err}
use Rattle.nodes.specs.declared.numbers.Node.{Node}
use Rattle.nodes.specs.declared.numbers.LeafNumber.{LeafNumber}
use Rattle.nodes.specs.declared.triples.Triple.{Triple}
use Rattle.answers.specs.declared.Refusal.{Refusal}
use Rattle.answers.specs.declared.Refusal.TheVariants.{WrongLength, NotGood, NoSuchNode, IsCut, AtGreatestDepth, AtDepthOne, LeavesMissing, NoSuchNumber, BadRecord, BelowLeaf, LeafPinned, NoRoom, BytesLeft, PanelInUse}
use Rattle.nodes.specs.Neighbours.{none}

abbrev pub refusal_number : Refusal → ℕ
refusal_number WrongLength = 1
refusal_number NotGood = 2
refusal_number NoSuchNode = 3
refusal_number IsCut = 4
refusal_number AtGreatestDepth = 5
refusal_number AtDepthOne = 6
refusal_number LeavesMissing = 7
refusal_number NoSuchNumber = 8
refusal_number BadRecord = 9
refusal_number (BelowLeaf k) = 10
refusal_number LeafPinned = 11
refusal_number NoRoom = 16
refusal_number BytesLeft = 17
refusal_number PanelInUse = 18

-- the ancestor beside each: the leaf that the node lies below, and else 0
abbrev pub refusal_ancestor : Refusal → ℕ
refusal_ancestor WrongLength = 0
refusal_ancestor NotGood = 0
refusal_ancestor NoSuchNode = 0
refusal_ancestor IsCut = 0
refusal_ancestor AtGreatestDepth = 0
refusal_ancestor AtDepthOne = 0
refusal_ancestor LeavesMissing = 0
refusal_ancestor NoSuchNumber = 0
refusal_ancestor BadRecord = 0
refusal_ancestor (BelowLeaf k) = k.0
refusal_ancestor LeafPinned = 0
refusal_ancestor NoRoom = 0
refusal_ancestor BytesLeft = 0
refusal_ancestor PanelInUse = 0

abbrev pub answer_number : {T : Type 0} → Result T Refusal → ℕ
answer_number (Ok x) = 0
answer_number (Err e) = refusal_number e

abbrev pub answer_ancestor : {T : Type 0} → Result T Refusal → ℕ
answer_ancestor (Ok x) = 0
answer_ancestor (Err e) = refusal_ancestor e

-- a number that is handed out: of leaves, of cuts added, a depth
abbrev pub answer_value : Result ℕ Refusal → ℕ
answer_value (Ok n) = n
answer_value (Err e) = 0

abbrev pub answer_node : Result Node Refusal → ℕ
answer_node (Ok k) = k.0
answer_node (Err e) = 0

abbrev pub answer_leaf : Result LeafNumber Refusal → ℕ
answer_leaf (Ok i) = i.0
answer_leaf (Err e) = 0

-- the pin of the leaf: 1 where it is pinned
abbrev pub answer_pin : Result Bool Refusal → ℕ
answer_pin (Ok true) = 1
answer_pin (Ok false) = 0
answer_pin (Err e) = 0

abbrev pub answer_triple : Result Triple Refusal → Triple
answer_triple (Ok t) = t
answer_triple (Err e) = none
