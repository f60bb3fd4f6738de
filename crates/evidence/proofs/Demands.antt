-- The customer's three demands, each one theorem that cites what it rests on. They speak of the relations that the contracts of the calls
-- promise. That each call ends, touches no other memory and meets its contract, so that every input has an outcome, is the checker's
-- verdict on each function and no theorem here.
use mathlib.Core.Path.{◌≡◌, refl, sym, ap, ap₂, ◌∙◌}
use mathlib.Core.Logic.{◌≢◌, ◌⊎◌, ◌↔◌}
use mathlib.Core.Bool.{Bool, true}
use mathlib.Core.List.{List, [], ◌∷◌, ◌++◌}
use Prim.Native.Nat.{ℕ, zero, suc, ◌+◌, ◌-◌, ◌*◌, ◌/◌, ◌%◌, ◌^◌, ◌≤◌, ◌<◌, min}
use native.Mathlib.Omega.{arith}
use lib.ListN.{length}
use lib.Pow.{pow_pos}
use Rattle.bits.specs.Bits.{Bytes}
use Rattle.nodes.specs.declared.triples.Triple.{Triple}
use Rattle.nodes.specs.Depth.{depth_of}
use Rattle.nodes.specs.Limits.{KnownNode}
use Rattle.nodes.specs.Neighbours.{none, neighbours_of, edge}
use Rattle.triangles.specs.Corners.{Point, Triangle, InPanel, Exact, corners_of, turned, plus, minus, twice_area}
use Rattle.tables.specs.Table.{Row, unless, Answers, Outcome}
use Rattle.node_calls.specs.Calls.{node_rows, Neighbours, no_corners, Corners}
use Rattle.nodes.proofs.Edges.{edge_depth, edge_mutual}
use Rattle.nodes.proofs.Limits.{known_shallow}
use Rattle.nodes.proofs.Neighbouring.{left_depth, right_depth, left_right}
use Rattle.triangles.proofs.Sides.{Across, Beside, edge_across, left_beside}
use Rattle.triangles.proofs.Borders.{Border, border}
use Rattle.triangles.proofs.Cornering.{in_panel}
use Rattle.triangles.proofs.Areas.{area_is, outward_area}
use Rattle.triangles.proofs.LongSides.{LongSide, long_side}
use Rattle.triangles.proofs.Midpoints.{whole_corners}
use Rattle.triangles.proofs.Turning.{CornerOf, same_corners, turned_back}
use Rattle.node_calls.proofs.Outcomes.{done_known, neighbours_one, corners_one}
use Rattle.sums.specs.Rank.{rank}
use Rattle.words.specs.Words.{word, leaf_bit}
use Rattle.sums.proofs.Counts.{word_all}
use Rattle.cuts.specs.Cuts.{CoverOnce}
use Rattle.cuts.proofs.Areas.{total}
use Rattle.panel.specs.Panels.{size_of, Fits, deep_of, RightLength, CutOf, Good, InRange, LeafOf, Pinned, leaf_count}
use Rattle.panel.specs.Calls.{panel_rows, leaf_rows, Judged, Count, LeafBits, LeafAt, Ancestor, NumberOf, PinOf, Open, SplitAt, Split, MergeAt, merge_rows, Merge, Pin, Unpin, named_cuts, Mended, Mend}
use Rattle.panel.proofs.GoodPanels.{leaf_areas}
use Rattle.panel.proofs.LeafRows.{rows_behind}
use Rattle.panel.proofs.SameBytes.{bytes_same}
use Rattle.panel.proofs.Once.{judge_one, count_one, leaf_bits_one, leaf_at_one, ancestor_one, number_of_one, pin_of_one, open_one, split_one, merge_one, pin_put_one, mend_one}
use Rattle.mending.proofs.Once.{mend_good, mend_judged, mend_counts, mend_holds, SameBits, mend_same, good_unchanged, mend_twice}
use Rattle.records.specs.Records.{kind, number, Fine, record_at, most_records}
use Rattle.steps.specs.Steps.{panel_in, leaves_in, Step}
use Rattle.steps.specs.Holding.{Holds}
use Rattle.steps.proofs.Exactness.{nine_exactly, in_use_exactly}
use Rattle.steps.proofs.Keeping.{step_refused}
use Rattle.steps.proofs.Once.{step_one}
use Rattle.turns.specs.Runs.{Runs}
use Rattle.rounds.specs.Rounds.{Single, InOrder, Lent, round_rows, Round}
use Rattle.rounds.proofs.Once.{single_one, single_nine, single_refused, single_judged, round_one, round_empty}
use Rattle.rounds.proofs.SingleCalls.{single_good, in_order_then}
use Rattle.requests.specs.Requests.{Part, Run, Parts, Ended}
use Rattle.requests.proofs.Keeping.{run_holds, ended_holds, NoneDone}
use Rattle.requests.proofs.Once.{part_one, run_one}
use Rattle.requests.proofs.Parts.{parts_one}
use Rattle.printing.specs.Printing.{Lines}
use Rattle.printing.proofs.Once.{lines_one, lines_then}
use Rattle.evidence.specs.Known.{Every, known_cases, EveryMend, mend_cases, KnownRound}
use Rattle.tables.specs.Exactly.{Exactly}
use Rattle.tables.proofs.Exactness.{Without, Differing, refused_exactly}
use Rattle.evidence.proofs.Held.{Held, Since, never_covered, mended_stays}
use Rattle.evidence.proofs.Known.{known, known_mends}
use Rattle.evidence.proofs.NoLeaf.{WhyNoLeaf, why_no_leaf, SaysWhy, says_why}
use Rattle.evidence.proofs.Numbers.{NumbersName, numbers_name, number_of_leaf_at, leaf_at_number_of}
use Rattle.evidence.proofs.Rounds.{round_reached, round_since, known_round}
use Rattle.evidence.proofs.Scans.{ScanKept, run_keeps_scan, runs_stay, runs_grow}
use Rattle.evidence.proofs.ThereAndBack.{PinnedAround}
use Rattle.evidence.proofs.Sequences.{Reached, always_good, always_covers, always_long_side, split_grows, back_answers, back_restores, again_restores}

-- ---- demand 1: every input of every call has one outcome, refusals are exact, and what is lent is kept where a call refuses

-- what is asked of a call that answers n and leaves x behind where R n x, by the table `rows`: two outcomes are equal, each number is answered
-- exactly under its row's condition, and beside a refusal x is `kept`. B says what x is by its type
pub record Settled (rows : List Row) (A : Type 0) (B : A → Type 0) (kept : A) (R : ℕ → A → Type 0) : Type 0 where
  pub one : (n m : ℕ) (x y : A) → B x → B y → R n x → R m y → (n ≡ m) × (x ≡ y)
  pub exact : (n : ℕ) (x : A) → R n x → Exactly rows n
  pub keeps : (n : ℕ) (x : A) → R n x → n ≢ 0 → x ≡ kept

-- any value of the type
abbrev Any : (A : Type 0) → A → Type 0
Any A x = Unit {0}

settled : (rows : List Row) (A : Type 0) (B : A → Type 0) (kept : A) (Done : A → Type 0) → Differing rows
    → ((n m : ℕ) (x y : A) → B x → B y → Outcome rows A Done (λ z. z ≡ kept) n x → Outcome rows A Done (λ z. z ≡ kept) m y → (n ≡ m) × (x ≡ y))
    → Settled rows A B kept (Outcome rows A Done (λ z. z ≡ kept))
settled rows A B kept Done u one = record {
  one = one;
  exact = λ n x o. refused_exactly rows n u o.answer;
  keeps = λ n x o z. o.refused z;
}

pub record Demand1 : Type 0 where
  pub judge : (s : List ℕ) → Settled (panel_rows s) (Unit {0}) (Any (Unit {0})) tt (λ n x. Judged s n)
  pub count : (s : List ℕ) → Settled (panel_rows s) ℕ (Any ℕ) 0 (Count s)
  pub leaf_bits : (s : List ℕ) → Settled (panel_rows s) (List ℕ) (Any (List ℕ)) [] (LeafBits s)
  pub leaf_at : (s : List ℕ) (i : ℕ) → Settled (panel_rows s ++ unless 8 (i < leaf_count s) ∷ []) ℕ (Any ℕ) 0 (LeafAt s i)
  pub number_of : (s : List ℕ) (k : ℕ) → Settled (leaf_rows s k) ℕ (Any ℕ) 0 (NumberOf s k)
  pub pin_of : (s : List ℕ) (k : ℕ) → Settled (leaf_rows s k) ℕ (Any ℕ) 0 (PinOf s k)
  pub opens : (s : List ℕ) (D : ℕ) → Settled (unless 1 (Fits s D) ∷ []) (List ℕ) Bytes s (Open s D)
  pub split : (s : List ℕ) (k : ℕ) → Settled (leaf_rows s k ++ unless 5 (depth_of k < deep_of s) ∷ []) (List ℕ) Bytes s (Split s k)
  pub merge : (s : List ℕ) (k : ℕ) → Settled (leaf_rows s k ++ merge_rows s k) (List ℕ) Bytes s (Merge s k)
  pub pin : (s : List ℕ) (k : ℕ) → Settled (leaf_rows s k) (List ℕ) Bytes s (Pin s k)
  pub unpin : (s : List ℕ) (k : ℕ) → Settled (leaf_rows s k) (List ℕ) Bytes s (Unpin s k)
  -- in range and not a leaf is exactly one of two, and 4 and 10 say which; beside an answer stands one ancestor
  pub no_leaf : (s : List ℕ) → Good s → (k : ℕ) → InRange s k → WhyNoLeaf s k
  pub number_of_why : {s : List ℕ} {k n i : ℕ} → NumberOf s k n i → SaysWhy s k n
  pub split_why : {s t : List ℕ} {k n : ℕ} → Split s k n t → SaysWhy s k n
  pub merge_why : {s t : List ℕ} {k n : ℕ} → Merge s k n t → SaysWhy s k n
  pub pin_of_why : {s : List ℕ} {k n v : ℕ} → PinOf s k n v → SaysWhy s k n
  pub pin_why : {s t : List ℕ} {k n : ℕ} → Pin s k n t → SaysWhy s k n
  pub unpin_why : {s t : List ℕ} {k n : ℕ} → Unpin s k n t → SaysWhy s k n
  pub ancestor : (s : List ℕ) (k n a b : ℕ) → Ancestor s k n a → Ancestor s k n b → a ≡ b
  pub neighbours : (n : ℕ) → Settled (node_rows n) Triple (Any Triple) none (Neighbours n)
  pub corners : (n : ℕ) → Settled (node_rows n) Triangle (Any Triangle) no_corners (Corners n)
  -- a round; one with no record; records in two rounds come to what they come to in one
  pub round : (s rs out : List ℕ) → Settled (round_rows s rs out) Lent (Any Lent) (record { panel = s; answers = out }) (Round s rs out)
  pub round_empty : {s out : List ℕ} {n : ℕ} {x : Lent} → Good s → Round s [] out n x → (n ≡ 0) × (x ≡ record { panel = s; answers = out })
  pub rounds_then : {rs p s xs ys t u : List ℕ} → InOrder rs s xs t → 8 * length xs ≡ length rs → InOrder p t ys u → InOrder (rs ++ p) s (xs ++ ys) u
  -- one record of a round: 9 exactly where it is no fine split or merge, and else its call's answer; a refused one changes nothing, and after each the
  -- panel is good, so that none answers 1 or 2
  pub single : {r s t u : List ℕ} {n m : ℕ} → Bytes t → Bytes u → Single r s n t → Single r s m u → (n ≡ m) × (t ≡ u)
  pub single_bad : {r s t : List ℕ} {n : ℕ} → Single r s n t → (n ≡ 9) ↔ (Fine 1 2 r → ⊥)
  pub single_keeps : {r s t : List ℕ} {n : ℕ} → Single r s n t → n ≢ 0 → t ≡ s
  pub single_good : {r s t : List ℕ} {n : ℕ} → Good s → Single r s n t → Good t × (n ≢ 1) × (n ≢ 2)
  -- one record of a request file: 9 exactly where it is bad, 18 exactly where it asks for an open that fits, over more than two leaves, and else its call's
  -- answer; a refused one; a part of the input, and a run of records
  pub step : {r b u v : List ℕ} {D n m E F : ℕ} → Bytes u → Bytes v → Step 0 4 r D b n E u → Step 0 4 r D b m F v → (n ≡ m) × (E ≡ F) × (u ≡ v)
  pub step_bad : {r b u : List ℕ} {D n E : ℕ} → Step 0 4 r D b n E u → (n ≡ 9) ↔ (Fine 0 4 r → ⊥)
  pub step_in_use : {r b u : List ℕ} {D n E : ℕ} → Step 0 4 r D b n E u
      → (n ≡ 18) ↔ (Fine 0 4 r × (kind r ≡ 0) × Fits (panel_in (number r) b) (number r) × (2 < leaves_in D b))
  pub step_keeps : {r b u : List ℕ} {D n E : ℕ} → Step 0 4 r D b n E u → n ≢ 0 → (E ≡ D) × (u ≡ b)
  pub part : {p b out u v x y : List ℕ} {ends : Bool} {before C n m D E : ℕ} → before ≤ min most_records (length out)
      → Part p ends before C b out n D u x → Part p ends before C b out m E v y → (n ≡ m) × (D ≡ E) × (u ≡ v) × (x ≡ y)
  pub run : {rs b out u v x y : List ℕ} {n m D E : ℕ} → Run rs b out n D u x → Run rs b out m E v y → (n ≡ m) × (D ≡ E) × (u ≡ v) × (x ≡ y)
  -- the parts of an input in turn, however they are cut between records, come to what the run of the whole does
  pub parts : {b out rs p t u given x v y : List ℕ} {n m k C D E : ℕ} → Parts b out rs n C t given → Part p true n C t given m D u x
      → Run (rs ++ p) b out k E v y → (m ≡ k) × (D ≡ E) × (u ≡ v) × (x ≡ y)
  -- what a run came to is printed in one way, and blocks in turn are its lines in turn
  pub printed : {given t x y : List ℕ} {D i j k : ℕ} → Ended given D t → Lines given D t i j x → Lines given D t i k y → j ≡ k → x ≡ y
  pub blocks : {given t x y : List ℕ} {D i j k : ℕ} → Lines given D t i j x → Lines given D t j k y → Lines given D t i k (x ++ y)

-- the eight rows of a merge
merge_differs : (s : List ℕ) (k : ℕ) → Differing (leaf_rows s k ++ merge_rows s k)
merge_differs s k = (omega arith, omega arith, rest)
  where
    rest : Differing (unless 2 (Good s) ∷ rows_behind s k (merge_rows s k))
    rest = omega arith

merge_says_why : {s t : List ℕ} {k n : ℕ} → Merge s k n t → SaysWhy s k n
merge_says_why {s} {k = k} o = says_why (merge_rows s k) (merge_differs s k) o.answer

pub demand_1 : Demand1
demand_1 = record {
  judge = λ s. record {
    one = λ n m x y _ _ p q. (judge_one s n m p q, refl);
    exact = λ n x a. refused_exactly (panel_rows s) n (omega arith) a;
    keeps = λ n x a z. refl;
  };
  count = λ s. settled _ _ _ _ _ (omega arith) (λ n m x y _ _. count_one s n m x y);
  leaf_bits = λ s. settled _ _ _ _ _ (omega arith) (λ n m x y _ _. leaf_bits_one s n m x y);
  leaf_at = λ s i. settled _ _ _ _ _ (omega arith) (λ n m x y _ _. leaf_at_one s i n m x y);
  number_of = λ s k. settled _ _ _ _ _ (omega arith) (λ n m x y _ _. number_of_one s k n m x y);
  pin_of = λ s k. settled _ _ _ _ _ (omega arith) (λ n m x y _ _. pin_of_one s k n m x y);
  opens = λ s D. settled _ _ _ _ _ (omega arith) (open_one s D);
  split = λ s k. settled _ _ _ _ _ (omega arith) (split_one s k);
  merge = λ s k. settled _ _ _ _ _ (merge_differs s k) (merge_one s k);
  pin = λ s k. settled _ _ _ _ _ (omega arith) (pin_put_one s k 1);
  unpin = λ s k. settled _ _ _ _ _ (omega arith) (pin_put_one s k 0);
  no_leaf = why_no_leaf;
  number_of_why = λ o. says_why [] (omega arith) o.answer;
  split_why = λ o. says_why (unless 5 _ ∷ []) (omega arith) o.answer;
  merge_why = merge_says_why;
  pin_of_why = λ o. says_why [] (omega arith) o.answer;
  pin_why = λ o. says_why [] (omega arith) o.answer;
  unpin_why = λ o. says_why [] (omega arith) o.answer;
  ancestor = ancestor_one;
  neighbours = λ n. settled _ _ _ _ _ (omega arith) (λ a b x y _ _. neighbours_one n a b x y);
  corners = λ n. settled _ _ _ _ _ (omega arith) (λ a b x y _ _. corners_one n a b x y);
  round = λ s rs out. settled _ _ _ _ _ (omega arith) (λ n m x y _ _. round_one s rs out n m x y);
  round_empty = round_empty;
  rounds_then = in_order_then;
  single = single_one;
  single_bad = single_nine;
  single_keeps = single_refused;
  single_good = λ g o. ((single_good g o).0, (single_judged g o).0, (single_judged g o).1);
  step = step_one;
  step_bad = nine_exactly;
  step_in_use = in_use_exactly;
  step_keeps = step_refused;
  part = part_one;
  run = run_one;
  parts = parts_one;
  printed = λ e. lines_one (ended_holds e);
  blocks = lines_then;
}

-- ---- demand 2: numbers name leaves both ways, and the bytes are the paper's

-- what holds of a good panel
pub record Read (s : List ℕ) : Type 0 where
  -- numbers 0 to the count less 1, and no others, name every leaf once, left to right; number of leaf and leaf by number undo each other
  pub names : NumbersName s
  pub back : (i k : ℕ) → LeafAt s i 0 k → NumberOf s k 0 i
  pub forth : (k i : ℕ) → NumberOf s k 0 i → LeafAt s i 0 k
  -- the count is word 1, and counts the leaf bits that are set
  pub counts : (c : ℕ) → Count s 0 c → (c ≡ word (deep_of s) s 1) × (c ≡ rank (leaf_bit (deep_of s) s) (2 ^ deep_of s))
  -- cuts and pinned leaves settle the bytes
  pub same : (t : List ℕ) → Good t → deep_of s ≡ deep_of t → Bytes s → Bytes t → ((n : ℕ) → 1 ≤ n → (CutOf s n ↔ CutOf t n))
      → ((k : ℕ) → LeafOf s k → Pinned s k ↔ Pinned t k) → s ≡ t
  -- twice the leaves' areas, by the corners that are handed out, sum to 131,072
  pub areas : (leaf : ℕ → ℕ) (corners : ℕ → Triangle) → ((i : ℕ) → i < leaf_count s → LeafAt s i 0 (leaf i) × Corners (leaf i) 0 (corners i))
      → total (λ i. twice_area (corners i)) (leaf_count s) ≡ 131072

-- what holds of a node's neighbours, which by their outcome the call hands out, and of its corners in the order of the matrices. A neighbour that is
-- a node has the same depth
pub record Placed (n : ℕ) : Type 0 where
  pub left_level : (neighbours_of n).left ≢ 0 → depth_of (neighbours_of n).left ≡ depth_of n
  pub right_level : (neighbours_of n).right ≢ 0 → depth_of (neighbours_of n).right ≡ depth_of n
  pub edge_level : edge n ≢ 0 → depth_of (edge n) ≡ depth_of n
  pub edge_back : edge n ≢ 0 → edge (edge n) ≡ n
  pub left_back : (y : ℕ) → y ≢ 0 → ((neighbours_of n).left ≡ y) ↔ ((neighbours_of y).right ≡ n)
  pub across : (neighbours_of n).edge ≢ 0 → Across (corners_of (neighbours_of n).edge) (corners_of n)
  pub beside : (neighbours_of n).left ≢ 0 → Beside (corners_of (neighbours_of n).left) (corners_of n)
  pub at_border : Border n
  pub inside : InPanel (corners_of n)
  pub area : twice_area (corners_of n) ≡ 2 ^ (17 - depth_of n)
  -- its corners are whole numbers
  pub whole : 2 ≤ n / 2 → Exact (corners_of (n / 2))

-- what holds of the corners t that are handed out of node n
pub record HandedOut (n : ℕ) (t : Triangle) : Type 0 where
  -- they turn counterclockwise with y upward, and twice their area has that sign
  pub turns : minus t < plus t
  pub area : plus t ≡ minus t + 2 ^ (17 - depth_of n)
  -- they are the three points that the matrices give, and the long side goes from the first to the last
  pub same : (p : Point) → CornerOf t p ↔ CornerOf (corners_of n) p
  pub long : LongSide t
  -- turned once more, they are in the order of the matrices, to which the rules on neighbours keep
  pub back : turned (depth_of n % 2) t ≡ corners_of n

pub record Demand2 : Type 0 where
  pub panel : (s : List ℕ) → Good s → Read s
  pub node : (n : ℕ) → KnownNode n → Placed n
  pub corners : (n : ℕ) (t : Triangle) → Corners n 0 t → HandedOut n t
  pub cases : Every known_cases
  pub round : KnownRound

total_same : (f g : ℕ → ℕ) (c : ℕ) → ((i : ℕ) → i < c → f i ≡ g i) → total f c ≡ total g c
unfolding total
total_same f g zero e = refl
total_same f g (suc c) e = ap₂ (λ x y. x + y) (total_same f g c (λ i h. e i (omega arith))) (e c (omega arith))

handed_out : (n : ℕ) (t : Triangle) → Corners n 0 t → HandedOut n t
handed_out n t c =
    let k = done_known n c.answer in
    let a = outward_area n k.low (known_shallow k) in
    rw (c.done refl).corners (record {
      turns = omega (arith, pow_pos (17 - depth_of n));
      area = a;
      same = same_corners (depth_of n % 2) (corners_of n);
      long = long_side n k.low (known_shallow k);
      back = turned_back n k.low (depth_of n % 2);
    })

corner_area : (n : ℕ) (t : Triangle) → Corners n 0 t → twice_area t ≡ 2 ^ (17 - depth_of n)
unfolding twice_area
corner_area n t c = omega (arith, (handed_out n t c).area)

panel_read : (s : List ℕ) → Good s → Read s
panel_read s G = record {
  names = numbers_name s G;
  back = number_of_leaf_at s;
  forth = leaf_at_number_of s;
  counts = λ c o. (o.done refl, o.done refl ∙ word_all (deep_of s) s G.right.sums);
  same = λ t T e. bytes_same G T (G.fits.long ∙ ap size_of e ∙ sym T.fits.long);
  areas = λ leaf corners L.
      total_same (λ i. twice_area (corners i)) (λ i. 2 ^ (17 - depth_of (leaf i))) (leaf_count s)
      (λ i h. corner_area (leaf i) (corners i) (L i h).1)
      ∙ leaf_areas s G leaf (λ i h. (L i h).0.done refl);
}

node_placed : (n : ℕ) → KnownNode n → Placed n
node_placed n k =
    let d : depth_of n ≤ 17 = known_shallow k in record {
      left_level = left_depth n k.low;
      right_level = right_depth n k.low;
      edge_level = edge_depth n;
      edge_back = edge_mutual n;
      left_back = λ y. left_right n y k.low;
      across = edge_across n k.low;
      beside = left_beside n k.low;
      at_border = border n k.low d;
      inside = in_panel n k.low;
      area = area_is n k.low d;
      whole = whole_corners n d;
    }

pub demand_2 : Demand2
demand_2 = record { panel = panel_read; node = node_placed; corners = handed_out; cases = known; round = known_round }

-- ---- demand 3: any sequence of calls keeps covering and the long side rule; splits are smallest and bounded, merges exact

pub record Demand3 : Type 0 where
  -- after an accepted open and any outcomes of split, merge, pin and unpin; and after a run of records
  pub good : {t : List ℕ} → Reached t → Good t
  pub covers : {t : List ℕ} → Reached t → CoverOnce (deep_of t) (CutOf t)
  pub long_side : {t : List ℕ} → Reached t → (n : ℕ) → 2 ≤ n → CutOf t n → edge n ≢ 0 → CutOf t (edge n)
  -- a round leads to no panel that single calls don't lead to
  pub round : {s rs out : List ℕ} {n : ℕ} {x : Lent} → Reached s → Round s rs out n x → Reached x.panel
  pub after_records : {rs b out u after : List ℕ} {count D : ℕ} → Run rs b out count D u after → Holds D u
  -- no record of a run loses a scan; and from any record of it on the panel stays open, and has no fewer leaves where no merge is accepted
  pub scan : {rs b given t u : List ℕ} {D n E : ℕ} → Runs 0 4 rs 0 b given D t → Step 0 4 (record_at rs (length given)) D t n E u → ScanKept (record_at rs (length given)) D t n E u
  pub open_on : {rs b given u : List ℕ} {C D : ℕ} → Holds C b → Runs 0 4 rs C b given D u → C ≢ 0 → D ≢ 0
  pub grows_on : {rs b given u : List ℕ} {C D : ℕ} → Holds C b → Runs 0 4 rs C b given D u → NoneDone 2 rs given → leaves_in C b ≤ leaves_in D u
  -- the smallest good panel that holds every old cut and k's; at least one leaf more, and at most twice k's depth
  pub smallest : {s : List ℕ} {k : ℕ} {t : List ℕ} → Split s k 0 t → SplitAt s k t
  pub bounded : {s : List ℕ} {k : ℕ} {t : List ℕ} → Split s k 0 t → (leaf_count s + 1 ≤ leaf_count t) × (leaf_count t ≤ leaf_count s + 2 * depth_of k)
  -- exactly the parent's cut and the one across
  pub exact : {s : List ℕ} {k : ℕ} {t : List ℕ} → Merge s k 0 t → MergeAt s k t
  -- a pinned leaf's triangle is never covered by a coarser leaf: it is a leaf or is cut, and every leaf inside it is pinned
  pub held : {s t : List ℕ} {l : ℕ} → Good s → LeafOf s l → Pinned s l → Since s l t → Held t l
  pub held_round : {s t rs out : List ℕ} {l n : ℕ} {x : Lent} → Since s l t → Round t rs out n x → Since s l x.panel
  -- after a split its merge is accepted, or refused with 11 exactly where it meets a pin that was passed on; it leads back exactly where k's edge neighbour was
  -- none or a leaf; after a merge the split leads back
  pub accepted : {s : List ℕ} {k : ℕ} {t : List ℕ} → Split s k 0 t → (n : ℕ) (u : List ℕ) → Merge t (2 * k) n u
      → ((n ≡ 11) ↔ PinnedAround s k) × ((n ≡ 0) ↔ (PinnedAround s k → ⊥))
  pub back : {s : List ℕ} {k : ℕ} {t u : List ℕ} → Bytes s → Bytes u → Split s k 0 t → Merge t (2 * k) 0 u → (u ≡ s) ↔ ((edge k ≡ 0) ⊎ LeafOf s (edge k))
  pub again : {s : List ℕ} {k : ℕ} {t : List ℕ} → Bytes s → Merge s k 0 t → (n : ℕ) (u : List ℕ) → Bytes u → Split t (k / 2) n u → (n ≡ 0) × (u ≡ s)

pub demand_3 : Demand3
demand_3 = record {
  good = always_good;
  covers = always_covers;
  long_side = always_long_side;
  round = round_reached;
  after_records = run_holds;
  scan = run_keeps_scan;
  open_on = λ h r. runs_stay h r;
  grows_on = λ h r. runs_grow h r;
  smallest = λ o. o.done refl;
  bounded = split_grows;
  exact = λ o. o.done refl;
  held = never_covered;
  held_round = round_since;
  accepted = back_answers;
  back = back_restores;
  again = again_restores;
}

-- ---- mending a card: the first demand of it, what it keeps, and what comes after

pub record MendDemand : Type 1 where
  pub mend : (s : List ℕ) → Settled (unless 1 (RightLength s) ∷ []) Mended (λ x. Bytes x.panel) (record { panel = s; added = 0 }) (Mend s)
  -- it counts exactly, takes no named cut back, and reads the leaf bits, but for the first, and the pins alone; a good panel comes back unchanged, and mending
  -- twice is mending once
  pub mend_counts : {s : List ℕ} {x : Mended} → Mend s 0 x → leaf_count x.panel ≡ 1 + named_cuts s + x.added
  pub mend_holds : {s : List ℕ} {x : Mended} → Mend s 0 x → (n : ℕ) → CutOf s n → CutOf x.panel n
  pub mend_same : (s t : List ℕ) (n m : ℕ) (x y : Mended) → SameBits s t → Bytes x.panel → Bytes y.panel → Mend s n x → Mend t m y
      → (n ≡ m) × (n ≡ 0 → x ≡ y)
  pub mend_unchanged : (s : List ℕ) (n : ℕ) (x : Mended) → Bytes s → Bytes x.panel → Good s → Mend s n x → (n ≡ 0) × (x ≡ record { panel = s; added = 0 })
  pub mend_twice : (s : List ℕ) (n m : ℕ) (x y : Mended) → Bytes x.panel → Bytes y.panel → Mend s n x → Mend x.panel m y
      → (m ≡ n) × (y ≡ record { panel = x.panel; added = 0 })
  -- after it no call that judges the panel, with any rows behind, answers 1 or 2
  pub mend_judged : {s : List ℕ} {x : Mended} {n : ℕ} (rows : List Row) → Mend s 0 x → Without 1 rows → Without 2 rows → Answers (panel_rows x.panel ++ rows) n
      → (n ≢ 1) × (n ≢ 2)
  -- what it leaves is good; a good panel keeps whatever holds of it
  pub good : {s : List ℕ} {x : Mended} → Mend s 0 x → Good x.panel
  pub stays : {t : List ℕ} {n : ℕ} {x : Mended} (P : List ℕ → Type 0) → Bytes t → Bytes x.panel → Mend t n x → Good t → P t → P x.panel
  pub cases : EveryMend mend_cases

pub mend_demand : MendDemand
mend_demand = record {
  mend = λ s. settled _ _ _ _ _ (omega arith) (mend_one s);
  mend_counts = mend_counts;
  mend_holds = mend_holds;
  mend_same = mend_same;
  mend_unchanged = good_unchanged;
  mend_twice = mend_twice;
  mend_judged = mend_judged;
  good = mend_good;
  stays = mended_stays;
  cases = known_mends;
}
