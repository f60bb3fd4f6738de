-- Tests of what the calls answer and leave behind: cuts are told node by node, and the rows of a table one after the other.
use mathlib.Core.Path.{◌≡◌, refl, sym, ◌∙◌, subst}
use mathlib.Core.Bool.{Bool, not, ◌&&◌, ◌||◌, So, beq}
use mathlib.Core.Logic.{◌≢◌, ◌⊎◌, inr, ⊎_elim, ◌↔◌}
use mathlib.Core.List.{List, [], ◌∷◌, ◌++◌}
use Prim.Native.Nat.{ℕ, suc, ◌+◌, ◌-◌, ◌*◌, ◌/◌, ◌^◌, ◌≤◌, ◌<◌}
use native.Mathlib.Nat.{div-eq_of_lt}
use native.Mathlib.Decide.{dec_lt}
use native.Mathlib.Omega.{arith}
use lib.ListN.{length}
use lib.Pow.{pow_mono}
use lib.Dec.{leb, ltb, eqb}
use borrow.Author.Tests.{ltb-true, eqb-true}
use Rattle.bits.specs.Bits.{bit}
use Rattle.nodes.specs.Depth.{depth_of}
use Rattle.nodes.specs.Neighbours.{edge}
use Rattle.tables.specs.Table.{Row, unless, Answers, Outcome}
use Rattle.tables.specs.inner.Says.{Says}
use Rattle.nodes.proofs.Depths.{At, at_depth}
use Rattle.tables.proofs.Tables.{is_done, is_refused, refused_more}
use Rattle.panel.specs.Panels.{deep_of, CutOf, Good, InRange, LeafOf, pin_of, Pinned, number_in, leaf_count}
use Rattle.cuts.specs.Cuts.{place_of, sibling}
use Rattle.pins.specs.Pins.{pin_place, pin_bit}
use Rattle.panel.specs.Calls.{panel_rows, leaf_rows, Ancestor, PinOf, Together, Fresh, PinsPassed, SplitAt, Bare, Unpinned, PinsKept, MergeAt, merge_rows, PinAt}
use Rattle.cuts.proofs.Covering.{is_above, above_no_leaf}
use Rattle.cuts.proofs.ForcedCuts.{Forced, Added, forced_at, smallest_added, smallest_iff}
use Rattle.panel.proofs.Rows.{is_good, behind}
use Rattle.panel.proofs.LeafRows.{rows_behind, left_leaf}
use Rattle.panel.proofs.GoodPanels.{leaf_in_range}
use Rattle.panel.proofs.SameBytes.{deep_same, past}
use Rattle.evidence.specs.Known.{LeavesFrom, Leaves, Refused}
use Rattle.evidence.proofs.Saying.{says_same, says_le, says_lt, imply, says_iff, says_and, says_or, says_imply, says_not, alike, imply_shown, ◌and◌, up_to, shows_all, Decided, same_sets, same_list, same_list_lem, Tested, first_no, answered, by_answer, outcome_shown}
use Rattle.evidence.proofs.Testing.{leaf_in, says_leaf, forced_in, says_forced, cut_of, decided, good_panel, good_shown}

-- ---- leaves by number

-- the leaves from number i on are ks, and there are no more
unfoldable pub leaves_in : List ℕ → ℕ → List ℕ → Bool
leaves_in t i [] = eqb i (leaf_count t)
leaves_in t i (k ∷ ks) = ltb i (leaf_count t) && leaf_in (cut_of t) k && eqb (number_in t k) i && leaves_in t (suc i) ks

pub leaves_shown : {t : List ℕ} → Good t → (i : ℕ) (ks : List ℕ) → So (leaves_in t i ks) → LeavesFrom t i ks
unfolding leaves_in
leaves_shown {t} G i [] e = is_done (is_good G) (eqb-true i (leaf_count t) e)
leaves_shown {t} G i (k ∷ ks) e =
    let (((h, l), n), more) = (ltb-true i (leaf_count t) and (says_leaf (decided G.fits) k).yes and eqb-true (number_in t k) i and leaves_shown G (suc i) ks) e in
    (is_done (behind (unless 8 (i < leaf_count t) ∷ []) G (inr (h, refl))) (record { leaf = l; number = n }), more)

-- ---- what open leaves

unfoldable pub fresh_in : ℕ → List ℕ → Bool
fresh_in D t = eqb (deep_of t) D && up_to (2 ^ deep_of t) (λ n. beq (cut_of t n) (eqb n 1)) && up_to (2 ^ D) (λ p. eqb (pin_bit D t p) 0)

pub fresh_shown : {D : ℕ} {t : List ℕ} → Good t → So (fresh_in D t) → Fresh D t
unfolding fresh_in
fresh_shown {D} {t} G e =
    let d = decided G.fits in
    let one : Decided (2 ^ deep_of t) (λ n. n ≡ 1) (λ n. eqb n 1) = record { says = λ n. says_same n 1; high = λ n r. omega (arith, d.high 1 G.cuts.root) } in
    let ((deep, cuts), pins) = (eqb-true (deep_of t) D and same_sets d one and shows_all (2 ^ D) (λ p. eqb-true (pin_bit D t p) 0)) e in
    record { good = G; deep = deep; cuts = cuts; pins = pins }

-- ---- what split and merge leave

-- the cuts of a panel as long as s
pub as_long : (s : List ℕ) {t : List ℕ} → Good t → length t ≡ length s → Decided (2 ^ deep_of s) (CutOf t) (cut_of t)
as_long s {t} G e = subst (λ D. Decided (2 ^ D) (CutOf t) (cut_of t)) (deep_same s t e) (decided G.fits)

-- each leaf of t has the pin of the leaf of s that it is, or lies in, some levels up
unfoldable pub passed_in : List ℕ → List ℕ → Bool
passed_in s t = up_to (2 ^ (deep_of t + 1)) (λ m. up_to (deep_of t + 1) (λ j.
    imply (leaf_in (cut_of s) (m / 2 ^ j)) (imply (leaf_in (cut_of t) m) (beq (eqb (pin_of t m) 1) (eqb (pin_of s (m / 2 ^ j)) 1)))))

passed_shown : {s t : List ℕ} → Good s → Good t → So (passed_in s t) → PinsPassed s t
unfolding passed_in
passed_shown {s} {t} S T e l m j L M up = go (dec_lt j (deep_of t + 1))
  where
    high : m < 2 ^ (deep_of t + 1)
    high = (leaf_in_range t T m M).high

    shown : j < deep_of t + 1 → LeafOf s (m / 2 ^ j) → LeafOf t m → Pinned t m ↔ Pinned s (m / 2 ^ j)
    shown = shows_all (2 ^ (deep_of t + 1)) (λ m. shows_all (deep_of t + 1) (λ j.
        imply_shown (says_leaf (decided S.fits) (m / 2 ^ j))
        (imply_shown (says_leaf (decided T.fits) m) (alike (says_same (pin_of t m) 1) (says_same (pin_of s (m / 2 ^ j)) 1))))) e m high j

    go : Dec (j < deep_of t + 1) → Pinned t m ↔ Pinned s l
    go (yes h) = subst (λ x. LeafOf s x → Pinned t m ↔ Pinned s x) up (λ x. shown h x M) L
    go (no h) = absurd (omega (arith, L.low, up, div-eq_of_lt (let q : m < 2 ^ j = omega (arith, high, pow_mono {i = deep_of t + 1} {j = j} (omega arith)) in q)))

unfoldable pub split_in : List ℕ → ℕ → List ℕ → Bool
split_in s k t =
    eqb (length t) (length s) && leaf_in (cut_of s) k && ltb (depth_of k) (deep_of s)
    && up_to (2 ^ deep_of s) (λ n. beq (cut_of s n || forced_in (depth_of k) k n) (cut_of t n)) && passed_in s t

pub split_shown : {s t : List ℕ} (k : ℕ) → Good s → Good t → So (split_in s k t) → SplitAt s k t
unfolding split_in
split_shown {s} {t} k S T e =
    let ((((long, l), deep), same), pins) = (eqb-true (length t) (length s) and (says_leaf d k).yes and ltb-true (depth_of k) (deep_of s) and (λ x. x) and passed_shown S T) e in
    let a : At (depth_of k) k = at_depth (omega (arith, l.low)) in
    record {
      good = T;
      long = long;
      cuts = smallest_iff (same_sets (added a deep) (as_long s T long) same) (smallest_added (CutOf s) S.cuts (depth_of k) k a (λ h. l.parent));
      pins = pins;
    }
  where
    d : Decided (2 ^ deep_of s) (CutOf s) (cut_of s)
    d = decided S.fits

    high : At (depth_of k) k → depth_of k < deep_of s → (n : ℕ) → Forced (depth_of k) k n → n < 2 ^ deep_of s
    high a deep n f =
        let (c, h, b) = forced_at (depth_of k) k n a f in
        omega (arith, b.high, pow_mono (let g : suc c ≤ deep_of s = omega arith in g))

    added : At (depth_of k) k → depth_of k < deep_of s → Decided (2 ^ deep_of s) (Added (CutOf s) (depth_of k) k) (λ n. cut_of s n || forced_in (depth_of k) k n)
    added a deep = record {
      says = λ n. says_or (d.says n) (says_forced (depth_of k) k n);
      high = λ n. ⊎_elim (d.high n) (high a deep n);
    }

-- the leaves of t have the pins that they had in s, and none where they were no leaves
unfoldable pub kept_in : List ℕ → List ℕ → Bool
kept_in s t = up_to (2 ^ (deep_of t + 1)) (λ m. imply (leaf_in (cut_of t) m) (beq (eqb (pin_of t m) 1) (leaf_in (cut_of s) m && eqb (pin_of s m) 1)))

kept_shown : {s t : List ℕ} → Good s → Good t → So (kept_in s t) → PinsKept s t
unfolding kept_in
kept_shown {s} {t} S T e m M =
    shows_all (2 ^ (deep_of t + 1)) (λ m.
    imply_shown (says_leaf (decided T.fits) m) (alike (says_same (pin_of t m) 1) (says_and (says_leaf (decided S.fits) m) (says_same (pin_of s m) 1)))) e
    m (leaf_in_range t T m M).high M

unfoldable pub merge_in : List ℕ → ℕ → List ℕ → Bool
merge_in s k t =
    eqb (length t) (length s)
    && up_to (2 ^ deep_of s) (λ n. beq (cut_of t n) (cut_of s n && not (eqb n (k / 2)) && not (eqb n (edge (k / 2))))) && kept_in s t

pub merge_shown : {s t : List ℕ} (k : ℕ) → Good s → Good t → So (merge_in s k t) → MergeAt s k t
unfolding merge_in
merge_shown {s} {t} k S T e =
    let ((long, same), pins) = (eqb-true (length t) (length s) and (λ x. x) and kept_shown S T) e in
    record { good = T; long = long; cuts = same_sets (as_long s T long) kept same; pins = pins }
  where
    kept : Decided (2 ^ deep_of s) (λ n. CutOf s n × (n ≢ k / 2) × (n ≢ edge (k / 2))) (λ n. cut_of s n && not (eqb n (k / 2)) && not (eqb n (edge (k / 2))))
    kept = record {
      says = λ n. says_iff (λ x. (x.0.0, x.0.1, x.1)) (λ x. ((x.0, x.1), x.2)) (says_and (says_and ((decided S.fits).says n) (says_not (says_same n (k / 2)))) (says_not (says_same n (edge (k / 2)))));
      high = λ n x. (decided S.fits).high n x.0;
    }

-- ---- what pin and unpin leave

unfoldable pub pin_in : List ℕ → ℕ → ℕ → List ℕ → Bool
pin_in s k v t =
    eqb (length t) (length s) && eqb (pin_of t k) v
    && up_to (8 * length s) (λ q. eqb q (pin_place (deep_of s) (place_of (deep_of s) k)) || eqb (bit t q) (bit s q))

pub pin_shown : {s t : List ℕ} (k v : ℕ) → So (pin_in s k v t) → PinAt s k v t
unfolding pin_in
pin_shown {s} {t} k v e =
    let ((long, pin), same) = (eqb-true (length t) (length s) and eqb-true (pin_of t k) v and shows_all (8 * length s) (λ q. (says_or (says_same q place) (says_same (bit t q) (bit s q))).yes)) e in
    record { long = long; pin = pin; rest = λ q z. rest long same q z (dec_lt q (8 * length s)) }
  where
    place : ℕ
    place = pin_place (deep_of s) (place_of (deep_of s) k)

    rest : length t ≡ length s → ((q : ℕ) → q < 8 * length s → (q ≡ place) ⊎ (bit t q ≡ bit s q)) → (q : ℕ) → q ≢ place → Dec (q < 8 * length s) → bit t q ≡ bit s q
    rest long same q z (yes h) = ⊎_elim (λ x. absurd (z x)) (λ x. x) (same q h)
    rest long same q z (no h) = past t q (omega arith) ∙ sym (past s q (omega arith))

-- ---- what the calls that take a leaf answer

range_in : List ℕ → ℕ → Bool
range_in s k = leb 2 k && ltb k (2 ^ (deep_of s + 1))

says_range : (s : List ℕ) (k : ℕ) → Says (InRange s k) (range_in s k)
unfolding range_in
says_range s k =
    says_iff (λ x. record { low = x.0; high = x.1 }) (λ x. (x.low, x.high)) (says_and (says_le 2 k) (says_lt k (2 ^ (deep_of s + 1))))

-- the leaves that a merge needs
together_in : List ℕ → ℕ → Bool
together_in s k =
    leaf_in (cut_of s) (sibling k)
    && imply (not (eqb (edge (k / 2)) 0)) (leaf_in (cut_of s) (2 * edge (k / 2)) && leaf_in (cut_of s) (2 * edge (k / 2) + 1))

says_together : {s : List ℕ} → Good s → (k : ℕ) → Says (Together s k) (together_in s k)
unfolding together_in
says_together {s} S k =
    says_iff (λ x. record { beside = x.0; across = x.1 }) (λ x. (x.beside, x.across))
    (says_and (leaf (sibling k)) (says_imply (says_not (says_same (edge (k / 2)) 0)) (says_and (leaf (2 * edge (k / 2))) (leaf (2 * edge (k / 2) + 1)))))
  where
    leaf : (n : ℕ) → Says (LeafOf s n) (leaf_in (cut_of s) n)
    leaf = says_leaf (decided S.fits)

-- the pins that it must not meet
bare_in : List ℕ → ℕ → Bool
bare_in s n = not (eqb (pin_of s (2 * n)) 1) && not (eqb (pin_of s (2 * n + 1)) 1)

unpinned_in : List ℕ → ℕ → Bool
unfolding bare_in
unpinned_in s k = bare_in s (k / 2) && imply (not (eqb (edge (k / 2)) 0)) (bare_in s (edge (k / 2)))

says_unpinned : (s : List ℕ) (k : ℕ) → Says (Unpinned s k) (unpinned_in s k)
unfolding bare_in unpinned_in
says_unpinned s k =
    says_iff (λ x. record { own = x.0; across = x.1 }) (λ x. (x.own, x.across))
    (says_and (bare (k / 2)) (says_imply (says_not (says_same (edge (k / 2)) 0)) (bare (edge (k / 2)))))
  where
    bare : (n : ℕ) → Says (Bare s n) (bare_in s n)
    bare n =
        says_iff (λ x. record { left = x.0; right = x.1 }) (λ x. (x.left, x.right))
        (says_and (says_not (says_same (pin_of s (2 * n)) 1)) (says_not (says_same (pin_of s (2 * n + 1)) 1)))

-- the rows of a leaf and those behind them, and their tests: a node in range that is not cut is a leaf, or lies below one
unfoldable pub leaf_tests : List ℕ → ℕ → List Bool → List Bool
unfolding range_in
leaf_tests s k bs = range_in s k ∷ not (cut_of s k) ∷ leaf_in (cut_of s) k ∷ bs

leaf_tested : {s : List ℕ} → Good s → (k : ℕ) (rows : List Row) (bs : List Bool) → Tested rows bs → Tested (rows_behind s k rows) (leaf_tests s k bs)
unfolding leaf_tests
leaf_tested {s} S k rows bs t =
    let d = decided S.fits in
    (says_range s k, λ r. (says_not (d.says k), λ u. (says_iff (λ l b. above_no_leaf b.1 l) (left_leaf S r u) (says_leaf d k), λ _. t)))

abbrev split_last : List ℕ → ℕ → List Row
split_last s k = unless 5 (depth_of k < deep_of s) ∷ []

abbrev pub split_rows : List ℕ → ℕ → List Row
split_rows s k = rows_behind s k (split_last s k)

unfoldable pub split_tests : List ℕ → ℕ → List Bool
unfolding leaf_tests
split_tests s k = leaf_tests s k (ltb (depth_of k) (deep_of s) ∷ [])

pub split_tested : {s : List ℕ} → Good s → (k : ℕ) → Tested (split_rows s k) (split_tests s k)
unfolding split_tests
split_tested {s} S k = leaf_tested S k (split_last s k) (ltb (depth_of k) (deep_of s) ∷ []) (says_lt (depth_of k) (deep_of s), λ _. tt)

unfoldable pub merge_tests : List ℕ → ℕ → List Bool
unfolding leaf_tests together_in unpinned_in
merge_tests s k = leaf_tests s k (ltb 1 (depth_of k) ∷ together_in s k ∷ unpinned_in s k ∷ [])

pub merge_tested : {s : List ℕ} → Good s → (k : ℕ) → Tested (rows_behind s k (merge_rows s k)) (merge_tests s k)
unfolding merge_tests
merge_tested {s} S k =
    leaf_tested S k (merge_rows s k) (ltb 1 (depth_of k) ∷ together_in s k ∷ unpinned_in s k ∷ [])
    (says_lt 1 (depth_of k), λ _. (says_together S k, λ _. (says_unpinned s k, λ _. tt)))

-- the rows of a call that takes a leaf and asks no more of it
pub leaf_alone : {s : List ℕ} → Good s → (k : ℕ) → Tested (rows_behind s k []) (leaf_tests s k [])
leaf_alone S k = leaf_tested S k [] [] tt

-- whether leaf k is pinned
unfoldable pub pin_of_in : List ℕ → ℕ → ℕ → Bool
unfolding leaf_tests
pin_of_in s k v = good_panel s && eqb (first_no (rows_behind s k []) (leaf_tests s k [])) 0 && eqb v (pin_of s k)

pub pin_of_shown : (s : List ℕ) (k v : ℕ) → So (pin_of_in s k v) → PinOf s k 0 v
unfolding pin_of_in
pin_of_shown s k v e =
    let ((G, f), p) = (good_shown s and eqb-true (first_no (rows_behind s k []) (leaf_tests s k [])) 0 and eqb-true v (pin_of s k)) e in
    is_done (behind (rows_behind s k []) G (subst (Answers (rows_behind s k [])) f (answered (rows_behind s k []) (leaf_tests s k []) (leaf_alone G k)))) p

-- ---- what a node that is no leaf is refused with

-- the ancestor a beside the answer n
unfoldable pub ancestor_in : List ℕ → ℕ → ℕ → ℕ → Bool
ancestor_in s k n a =
    eqb n 10 && leaf_in (cut_of s) a && ltb (depth_of a) (depth_of k) && eqb (k / 2 ^ (depth_of k - depth_of a)) a
    || not (eqb n 10) && eqb a 0

ancestor_shown : {s : List ℕ} → Good s → (k n a : ℕ) → So (ancestor_in s k n a) → Ancestor s k n a
unfolding ancestor_in
ancestor_shown {s} G k n a e =
    ⊎_elim
    (λ x. record { leaf = λ _. is_above G.cuts (depth_of k - depth_of a) (omega (arith, x.0.1)) x.1 x.0.0.1; none = λ z. absurd (z x.0.0.0) })
    (λ x. record { leaf = λ z. absurd (x.0 z); none = λ _. x.1 })
    ((says_or
    (says_and (says_and (says_and (says_same n 10) (says_leaf (decided G.fits) a)) (says_lt (depth_of a) (depth_of k))) (says_same (k / 2 ^ (depth_of k - depth_of a)) a))
    (says_and (says_not (says_same n 10)) (says_same a 0))).yes e)

unfoldable pub refused_in : List ℕ → ℕ → ℕ → ℕ → Bool
unfolding leaf_tests
refused_in s k n a = good_panel s && eqb (first_no (rows_behind s k []) (leaf_tests s k [])) n && not (eqb n 0) && ancestor_in s k n a

pub refused_shown : (s : List ℕ) (k n a : ℕ) → So (refused_in s k n a) → Refused s k n a
unfolding refused_in
refused_shown s k n a e =
    let (((G, f), z), x) = (good_shown s and eqb-true (first_no (rows_behind s k []) (leaf_tests s k [])) n and (says_not (says_same n 0)).yes and (λ x. x)) e in
    let b = behind (rows_behind s k []) G (subst (Answers (rows_behind s k [])) f (answered (rows_behind s k []) (leaf_tests s k []) (leaf_alone G k))) in
    record {
      split = is_refused z (refused_more (leaf_rows s k) (split_last s k) n z b) refl;
      merge = is_refused z (refused_more (leaf_rows s k) (merge_rows s k) n z b) refl;
      number_of = is_refused z b refl;
      pin = is_refused z b refl;
      unpin = is_refused z b refl;
      pin_of = is_refused z b refl;
      ancestor = ancestor_shown G k n a x;
    }

-- ---- a call that changes a panel

-- from panel s the rows behind the judgement answer n, and leave t with the leaves ks; done tests what is so where n is 0
unfoldable pub changed : List Row → List Bool → Bool → List ℕ → ℕ → List ℕ → List ℕ → Bool
changed rows bs done s n t ks =
    good_panel s && good_panel t && eqb (first_no rows bs) n && by_answer n done (same_list eqb t s) && leaves_in t 0 ks

pub changed_shown : (rows : List Row) (bs : List Bool) {done : Bool} {s : List ℕ} (n : ℕ) {t : List ℕ} (ks : List ℕ) {Done : List ℕ → Type 0}
    → (Good s → Tested rows bs) → (Good s → Good t → So done → Done t)
    → So (changed rows bs done s n t ks) → Outcome (panel_rows s ++ rows) (List ℕ) Done (λ x. x ≡ s) n t × Leaves t ks
unfolding changed
changed_shown rows bs {s = s} n {t} ks tested shown e =
    let ((((S, T), a), x), y) = (good_shown s and good_shown t and eqb-true (first_no rows bs) n and (λ x. x) and (λ y. y)) e in
    let answers = behind rows S (subst (Answers rows) a (answered rows bs (tested S))) in
    (outcome_shown n answers (shown S T) (same_list_lem eqb-true t s) x, leaves_shown T 0 ks y)
