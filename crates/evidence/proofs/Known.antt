-- The known panels: the test of each case, which the checker computes, and the law that a case whose test passes holds.
use mathlib.Core.Path.{◌≡◌, refl, ◌∙◌, subst}
use mathlib.Core.Bool.{Bool, ◌&&◌, So}
use mathlib.Core.Logic.{inr}
use mathlib.Core.List.{List, [], ◌∷◌}
use Prim.Native.Nat.{ℕ, ◌+◌, ◌^◌}
use lib.ListN.{length}
use lib.Dec.{leb, ltb, eqb}
use borrow.Author.Tests.{leb-true, ltb-true, eqb-true}
use Rattle.bits.specs.Bits.{run}
use Rattle.nodes.specs.Depth.{depth_of, depth_in}
use Rattle.nodes.specs.Limits.{greatest_depth, KnownNode}
use Rattle.nodes.specs.Neighbours.{neighbours_of, neighbours_at}
use Rattle.triangles.specs.Corners.{corners_of, corners_at}
use Rattle.triangles.proofs.Turning.{outward}
use Rattle.node_calls.proofs.Outcomes.{known_node_lem, known_corners}
use Rattle.tables.proofs.Tables.{is_done}
use Rattle.sums.specs.Rank.{rank}
use Rattle.words.specs.Words.{word, leaf_bit}
use Rattle.panel.specs.Panels.{Fits}
use Rattle.panel.specs.Calls.{Fresh, Open, merge_rows}
use Rattle.pins.specs.Pins.{pin_bit}
use Rattle.panel.proofs.LeafRows.{rows_behind}
use Rattle.panel.proofs.Rows.{is_good}
use Rattle.evidence.specs.Known.{Case, judged, opens, splits, merges, pins, unpins, pinned, refused, neighbours, corners, Holds, Every, known_cases, MendCase, mends, MendHolds, EveryMend, mend_cases}
use Rattle.evidence.proofs.Saying.{◌and◌, up_to, same_list, same_list_lem, first_no}
use Rattle.evidence.proofs.Testing.{cut_in, good_in, leaf_in, forced_in, fits_in, sums_in, right_in, pins_in, good_panel, good_shown}
use Rattle.evidence.proofs.Calling.{leaves_in, leaves_shown, fresh_in, fresh_shown, passed_in, split_in, split_shown, kept_in, merge_in, merge_shown, pin_in, pin_shown, split_rows, split_tests, split_tested, merge_tests, merge_tested, leaf_tests, leaf_alone, pin_of_in, pin_of_shown, ancestor_in, refused_in, refused_shown, changed, changed_shown}
use Rattle.evidence.proofs.Mends.{below_in, mend_in, mends_in, mends_shown}

known_node : ℕ → Bool
known_node n = leb 2 n && ltb n (2 ^ (greatest_depth + 1))

is_known : (n : ℕ) → So (known_node n) → KnownNode n
unfolding known_node
is_known n e = let (low, high) = (leb-true 2 n and ltb-true n (2 ^ (greatest_depth + 1))) e in record { low = low; high = high }

-- any bytes of the fresh panel's length are opened so
opened_any : {D : ℕ} {t : List ℕ} → Fresh D t → (s : List ℕ) → length s ≡ length t → Open s D 0 t
opened_any {D} {t} F s e =
    let f : Fits t D = subst (Fits t) F.deep F.good.fits in
    is_done (inr (record { low = f.low; high = f.high; long = e ∙ f.long }, refl)) F

-- ---- the test of a case, and what it shows

test : Case → Bool
test (judged t ks) = good_panel t && leaves_in t 0 ks
test (opens D t ks) = good_panel t && fresh_in D t && leaves_in t 0 ks
test (splits s k n t ks) = changed (split_rows s k) (split_tests s k) (split_in s k t) s n t ks
test (merges s k n t ks) = changed (rows_behind s k (merge_rows s k)) (merge_tests s k) (merge_in s k t) s n t ks
test (pins s k n t ks) = changed (rows_behind s k []) (leaf_tests s k []) (pin_in s k 1 t) s n t ks
test (unpins s k n t ks) = changed (rows_behind s k []) (leaf_tests s k []) (pin_in s k 0 t) s n t ks
test (pinned s k v) = pin_of_in s k v
test (refused s k n a) = refused_in s k n a
test (neighbours n l r e) =
    known_node n && eqb l (neighbours_of n).left && eqb r (neighbours_of n).right && eqb e (neighbours_of n).edge
test (corners n t) = known_node n && same_list (same_list eqb) t (outward n)

sound : (c : Case) → So (test c) → Holds c
unfolding test
sound (judged t ks) e =
    let (G, x) = (good_shown t and (λ x. x)) e in (is_good G, leaves_shown G 0 ks x)
sound (opens D t ks) e =
    let ((G, x), y) = (good_shown t and (λ x. x) and (λ y. y)) e in (opened_any (fresh_shown G x), leaves_shown G 0 ks y)
sound (splits s k n t ks) e = changed_shown (split_rows s k) (split_tests s k) n ks (λ S. split_tested S k) (split_shown k) e
sound (merges s k n t ks) e = changed_shown (rows_behind s k (merge_rows s k)) (merge_tests s k) n ks (λ S. merge_tested S k) (merge_shown k) e
sound (pins s k n t ks) e = changed_shown (rows_behind s k []) (leaf_tests s k []) n ks (λ S. leaf_alone S k) (λ _ _. pin_shown k 1) e
sound (unpins s k n t ks) e = changed_shown (rows_behind s k []) (leaf_tests s k []) n ks (λ S. leaf_alone S k) (λ _ _. pin_shown k 0) e
sound (pinned s k v) e = pin_of_shown s k v e
sound (refused s k n a) e = refused_shown s k n a e
sound (neighbours n l r e) z =
    let (((a, p), q), o) = (is_known n and eqb-true l (neighbours_of n).left and eqb-true r (neighbours_of n).right and eqb-true e (neighbours_of n).edge) z in
    known_node_lem a (λ i. record { left = p i; right = q i; edge = o i })
sound (corners n t) e =
    let (a, p) = (is_known n and same_list_lem (same_list_lem eqb-true) t (outward n)) e in known_node_lem a (known_corners a p)

-- ---- all cases

-- each is computed by itself, so that a wrong one is named by its place
abbrev Tested : List Case → Type 0
Tested [] = Unit {0}
Tested (c ∷ cs) = So (test c) × Tested cs

all_sound : (cs : List Case) → Tested cs → Every cs
all_sound [] e = tt
all_sound (c ∷ cs) e = (sound c e.0, all_sound cs e.1)

tested : Tested known_cases
unfolding test known_node up_to same_list first_no cut_in good_in leaf_in forced_in fits_in sums_in right_in pins_in good_panel leaves_in fresh_in passed_in split_in kept_in merge_in pin_in pin_of_in split_tests merge_tests leaf_tests ancestor_in refused_in changed run word leaf_bit pin_bit rank depth_of depth_in neighbours_of neighbours_at corners_of corners_at
tested = (refl, (refl, (refl, (refl, (refl, (refl, (refl, (refl, (refl, (refl, (refl, (refl, (refl, (refl, (refl, (refl, (refl, (refl, (refl, (refl, (refl, (refl, (refl, (refl, (refl, (refl, (refl, (refl, (refl, (refl, (refl, tt)))))))))))))))))))))))))))))))

pub known : Every known_cases
known = all_sound known_cases tested

mend_test : MendCase → Bool
mend_test (mends s n a t ks) = mends_in s n a t ks

mend_sound : (c : MendCase) → So (mend_test c) → MendHolds c
unfolding mend_test
mend_sound (mends s n a t ks) e = mends_shown s n a t ks e

abbrev MendsTested : List MendCase → Type 0
MendsTested [] = Unit {0}
MendsTested (c ∷ cs) = So (mend_test c) × MendsTested cs

mends_sound : (cs : List MendCase) → MendsTested cs → EveryMend cs
mends_sound [] e = tt
mends_sound (c ∷ cs) e = (mend_sound c e.0, mends_sound cs e.1)

mends_tested : MendsTested mend_cases
unfolding mend_test known_node up_to same_list first_no cut_in good_in leaf_in forced_in fits_in sums_in right_in pins_in good_panel leaves_in fresh_in passed_in split_in kept_in merge_in pin_in pin_of_in split_tests merge_tests leaf_tests ancestor_in refused_in changed below_in mend_in mends_in run word leaf_bit pin_bit rank depth_of depth_in neighbours_of neighbours_at corners_of corners_at
mends_tested = (refl, (refl, (refl, (refl, (refl, (refl, (refl, (refl, tt))))))))

pub known_mends : EveryMend mend_cases
known_mends = mends_sound mend_cases mends_tested
