-- Two results that one input allows are equal, for every call on a panel: what is done is settled by cuts and pinned
-- leaves, and these settle the bytes.
use mathlib.Core.Path.{◌≡◌, refl, sym, ap, ap₂, ◌∙◌, subst}
use mathlib.Core.Logic.Iff
use mathlib.Core.Logic.{inl, ◌↔◌}
use mathlib.Core.List.{List, [], ◌∷◌, ◌++◌}
use Prim.Native.Nat.{ℕ, ◌/◌, ◌^◌, ◌≤◌, ◌<◌}
use native.Mathlib.Decide.{ℕ_discrete}
use native.Mathlib.Omega.{arith}
use Rattle.bits.specs.Bits.{bit}
use Rattle.bits.proofs.Laws.{Bytes, ext_bits}
use Rattle.nodes.specs.Depth.{depth_of}
use Rattle.tables.specs.Table.{Row, unless, Answers, Outcome}
use Rattle.tables.proofs.Tables.{answers_one, outcome_one}
use Rattle.panel.specs.Panels.{size_of, deep_of, CutOf, Good, LeafOf, Pinned, leaf_count}
use Rattle.panel.specs.Calls.{panel_rows, Judged, Count, LeafBits, LeafNumbered, LeafAt, leaf_rows, Ancestor, NumberOf, PinOf, Fresh, Open, SplitAt, Split, MergeAt, Merge, PinAt, PinPut, MendAt, added_cuts, Mended, MendedBy, Mend}
use Rattle.words.specs.Words.{leaf_bit}
use Rattle.cuts.specs.Cuts.{place_of}
use Rattle.cuts.proofs.Covering.{above_once}
use Rattle.cuts.proofs.Leaves.{GoodBits, leaf_place, leaf_set, leaf_same}
use Rattle.pins.specs.Pins.{pin_place, pin_bit}
use Rattle.cuts.proofs.ForcedCuts.{smallest_one}
use Rattle.panel.proofs.LeafRows.{number_rows, good_past, leaf_past}
use Rattle.panel.proofs.GoodPanels.{dec_cuts, good_bits, leaf_before, number_once}
use Rattle.panel.proofs.SameBytes.{deep_same, bytes_same}

-- ---- calls that read

equal : (A : Type 0) (a x y : A) → x ≡ a → y ≡ a → x ≡ y
equal A a x y p q = p ∙ sym q

pub judge_one : (s : List ℕ) (n m : ℕ) → Judged s n → Judged s m → n ≡ m
judge_one s n m = answers_one (panel_rows s) n m

pub count_one : (s : List ℕ) (n m c d : ℕ) → Count s n c → Count s m d → (n ≡ m) × (c ≡ d)
count_one s n m c d = outcome_one _ ℕ _ _ (equal ℕ _) (equal ℕ 0) n m c d

pub leaf_bits_one : (s : List ℕ) (n m : ℕ) (t u : List ℕ) → LeafBits s n t → LeafBits s m u → (n ≡ m) × (t ≡ u)
leaf_bits_one s n m t u = outcome_one _ (List ℕ) _ _ (equal (List ℕ) _) (equal (List ℕ) []) n m t u

pub number_of_one : (s : List ℕ) (k n m i j : ℕ) → NumberOf s k n i → NumberOf s k m j → (n ≡ m) × (i ≡ j)
number_of_one s k n m i j = outcome_one _ ℕ _ _ (equal ℕ _) (equal ℕ 0) n m i j

pub pin_of_one : (s : List ℕ) (k n m v w : ℕ) → PinOf s k n v → PinOf s k m w → (n ≡ m) × (v ≡ w)
pin_of_one s k n m v w = outcome_one _ ℕ _ _ (equal ℕ _) (equal ℕ 0) n m v w

-- beside one answer stands one ancestor
pub ancestor_one : (s : List ℕ) (k n a b : ℕ) → Ancestor s k n a → Ancestor s k n b → a ≡ b
ancestor_one s k n a b p q = go (ℕ_discrete n 10)
  where
    go : Dec (n ≡ 10) → a ≡ b
    go (yes e) = above_once (p.leaf e) (q.leaf e)
    go (no z) = p.none z ∙ sym (q.none z)

-- the same outcome, with more known where it is done
known : {rows : List Row} {A : Type 0} {Done More Refused : A → Type 0} {n : ℕ} {x : A}
    → Outcome rows A Done Refused n x → (n ≡ 0 → Done x → More x) → Outcome rows A More Refused n x
known o f = record { answer = o.answer; done = λ z. f z (o.done z); refused = o.refused }

pub leaf_at_one : (s : List ℕ) (i n m k l : ℕ) → LeafAt s i n k → LeafAt s i m l → (n ≡ m) × (k ≡ l)
leaf_at_one s i n m k l p q =
    outcome_one _ ℕ (λ x. Good s × LeafNumbered s i x) _ (λ x y a b. number_once s a.0 i x y a.1 b.1) (equal ℕ 0) n m k l
    (with_good n k p) (with_good m l q)
  where
    with_good : (n k : ℕ) → LeafAt s i n k → Outcome (number_rows s i) ℕ (λ x. Good s × LeafNumbered s i x) (λ x. x ≡ 0) n k
    with_good n k p = known p (λ z d. ((good_past (unless 8 (i < leaf_count s) ∷ []) (subst (Answers (number_rows s i)) z p.answer)).0, d))

-- ---- calls that change a panel

-- what a panel's bytes may be after a call: bytes
with_bytes : {rows : List Row} {Done Refused : List ℕ → Type 0} {n : ℕ} {t : List ℕ} → Bytes t
    → Outcome rows (List ℕ) Done Refused n t → Outcome rows (List ℕ) (λ x. Bytes x × Done x) Refused n t
with_bytes b o = known o (λ z d. (b, d))

-- no leaf of a fresh panel is pinned
fresh_unpinned : {D : ℕ} {t : List ℕ} → Fresh D t → (k : ℕ) → LeafOf t k → Pinned t k → ⊥
fresh_unpinned {D} {t} f k l p =
    let z = subst (λ x. (q : ℕ) → q < 2 ^ x → pin_bit x t q ≡ 0) (sym f.deep) f.pins (place_of (deep_of t) k) in
    omega (arith, p, z (leaf_place (deep_of t) (leaf_bit (deep_of t) t) (good_bits t f.good) k l))

fresh_same : (D : ℕ) (t u : List ℕ) → Bytes t × Fresh D t → Bytes u × Fresh D u → t ≡ u
fresh_same D t u (bt, ft) (bu, fu) =
    bytes_same ft.good fu.good (ft.good.fits.long ∙ ap size_of (ft.deep ∙ sym fu.deep) ∙ sym fu.good.fits.long) bt bu cuts
    (λ k l. (λ p. absurd (fresh_unpinned ft k l p), λ p. absurd (fresh_unpinned fu k (leaf_same cuts k l) p)))
  where
    cuts : (n : ℕ) → 1 ≤ n → CutOf t n ↔ CutOf u n
    cuts n h = Iff.trans (ft.cuts n) (Iff.symm (fu.cuts n))

pub open_one : (s : List ℕ) (D n m : ℕ) (t u : List ℕ) → Bytes t → Bytes u → Open s D n t → Open s D m u → (n ≡ m) × (t ≡ u)
open_one s D n m t u bt bu p q =
    outcome_one _ (List ℕ) _ _ (fresh_same D) (equal (List ℕ) s) n m t u (with_bytes bt p) (with_bytes bu q)

-- a leaf after a split is, or lies in, one leaf of before, and has its pin
split_same : (s : List ℕ) (k : ℕ) (t u : List ℕ) → Good s × Bytes t × SplitAt s k t → Good s × Bytes u × SplitAt s k u → t ≡ u
split_same s k t u (g, bt, a) (_, bu, b) =
    bytes_same a.good b.good (a.long ∙ sym b.long) bt bu (λ n h. cuts n)
    (λ m l. let (j, o) = leaf_before s g t (λ n c. a.cuts.holds n (inl c)) m l in
    Iff.trans (a.pins (m / 2 ^ j) m j o l refl) (Iff.symm (b.pins (m / 2 ^ j) m j o (leaf_same (λ n h. cuts n) m l) refl)))
  where
    cuts : (n : ℕ) → CutOf t n ↔ CutOf u n
    cuts = smallest_one a.cuts b.cuts (dec_cuts a.good) (dec_cuts b.good)

pub split_one : (s : List ℕ) (k n m : ℕ) (t u : List ℕ) → Bytes t → Bytes u → Split s k n t → Split s k m u → (n ≡ m) × (t ≡ u)
split_one s k n m t u bt bu p q =
    outcome_one _ (List ℕ) _ _ (split_same s k) (equal (List ℕ) s) n m t u (with_good n t bt p) (with_good m u bu q)
  where
    rows : List Row
    rows = leaf_rows s k ++ unless 5 (depth_of k < deep_of s) ∷ []

    with_good : (n : ℕ) (t : List ℕ) → Bytes t → Split s k n t → Outcome rows (List ℕ) (λ x. Good s × Bytes x × SplitAt s k x) (λ x. x ≡ s) n t
    with_good n t b p = known p (λ z d. ((leaf_past (unless 5 (depth_of k < deep_of s) ∷ []) (subst (Answers rows) z p.answer)).0, b, d))

merge_same : (s : List ℕ) (k : ℕ) (t u : List ℕ) → Bytes t × MergeAt s k t → Bytes u × MergeAt s k u → t ≡ u
merge_same s k t u (bt, a) (bu, b) =
    bytes_same a.good b.good (a.long ∙ sym b.long) bt bu cuts (λ m l. Iff.trans (a.pins m l) (Iff.symm (b.pins m (leaf_same cuts m l))))
  where
    cuts : (n : ℕ) → 1 ≤ n → CutOf t n ↔ CutOf u n
    cuts n h = Iff.trans (a.cuts n) (Iff.symm (b.cuts n))

pub merge_one : (s : List ℕ) (k n m : ℕ) (t u : List ℕ) → Bytes t → Bytes u → Merge s k n t → Merge s k m u → (n ≡ m) × (t ≡ u)
merge_one s k n m t u bt bu p q =
    outcome_one _ (List ℕ) _ _ (merge_same s k) (equal (List ℕ) s) n m t u (with_bytes bt p) (with_bytes bu q)

pin_same : (s : List ℕ) (k v : ℕ) (t u : List ℕ) → Bytes t × PinAt s k v t → Bytes u × PinAt s k v u → t ≡ u
unfolding pin_bit
pin_same s k v t u (bt, a) (bu, b) = ext_bits t u bt bu (a.long ∙ sym b.long) (λ q _. go q (ℕ_discrete q (pin_place (deep_of s) (place_of (deep_of s) k))))
  where
    at : (x : List ℕ) → PinAt s k v x → bit x (pin_place (deep_of s) (place_of (deep_of s) k)) ≡ v
    at x p = subst (λ D. bit x (pin_place D (place_of D k)) ≡ v) (deep_same s x p.long) p.pin

    go : (q : ℕ) → Dec (q ≡ pin_place (deep_of s) (place_of (deep_of s) k)) → bit t q ≡ bit u q
    go q (yes e) = ap (bit t) e ∙ at t a ∙ sym (at u b) ∙ ap (bit u) (sym e)
    go q (no z) = a.rest q z ∙ sym (b.rest q z)

pub pin_put_one : (s : List ℕ) (k v n m : ℕ) (t u : List ℕ) → Bytes t → Bytes u → PinPut s k v n t → PinPut s k v m u → (n ≡ m) × (t ≡ u)
pin_put_one s k v n m t u bt bu p q =
    outcome_one _ (List ℕ) _ _ (pin_same s k v) (equal (List ℕ) s) n m t u (with_bytes bt p) (with_bytes bu q)

-- after a mending a leaf's own bit is set, so it is pinned exactly where the pin bit there was set
mended_pin : {s t : List ℕ} → MendAt s t → (k : ℕ) → LeafOf t k → Pinned t k ↔ (pin_bit (deep_of s) s (place_of (deep_of s) k) ≡ 1)
mended_pin {s} {t} m k l =
    subst (λ D. Pinned t k ↔ (pin_bit D s (place_of D k) ≡ 1)) deep (λ z. (pins.0 z).0, λ z. pins.1 (z, leaf_set (deep_of t) (leaf_bit (deep_of t) t) bits k l))
  where
    deep : deep_of t ≡ deep_of s
    deep = deep_same s t m.long

    bits : GoodBits (deep_of t) (leaf_bit (deep_of t) t)
    bits = good_bits t m.good

    pins : Pinned t k ↔ ((pin_bit (deep_of t) s (place_of (deep_of t) k) ≡ 1) × (leaf_bit (deep_of t) t (place_of (deep_of t) k) ≡ 1))
    pins =
        subst (λ D. (p : ℕ) → p < 2 ^ D → (pin_bit D t p ≡ 1) ↔ ((pin_bit D s p ≡ 1) × (leaf_bit D t p ≡ 1))) (sym deep) m.pins
        (place_of (deep_of t) k) (leaf_place (deep_of t) (leaf_bit (deep_of t) t) bits k l)

pub mended_same : (s : List ℕ) (x y : Mended) → Bytes x.panel × MendedBy s x → Bytes y.panel × MendedBy s y → x ≡ y
mended_same s x y (bx, a) (by, b) = ap₂ (λ t c. record { panel = t; added = c }) e (a.count ∙ ap (added_cuts s) e ∙ sym b.count)
  where
    cuts : (n : ℕ) → CutOf x.panel n ↔ CutOf y.panel n
    cuts = smallest_one a.mended.cuts b.mended.cuts (dec_cuts a.mended.good) (dec_cuts b.mended.good)

    e : x.panel ≡ y.panel
    e = bytes_same a.mended.good b.mended.good (a.mended.long ∙ sym b.mended.long) bx by (λ n h. cuts n)
        (λ k l. Iff.trans (mended_pin a.mended k l) (Iff.symm (mended_pin b.mended k (leaf_same (λ n h. cuts n) k l))))

pub mend_one : (s : List ℕ) (n m : ℕ) (x y : Mended) → Bytes x.panel → Bytes y.panel → Mend s n x → Mend s m y → (n ≡ m) × (x ≡ y)
mend_one s n m x y bx by p q =
    outcome_one _ Mended _ _ (mended_same s) (equal Mended _) n m x y (known p (λ z d. (bx, d))) (known q (λ z d. (by, d)))
