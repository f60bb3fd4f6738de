-- What holds after any run of calls, said with the calls' own outcomes, and what a split and its merge come to, there and back.
use mathlib.Core.Path.{◌≡◌, refl, sym, subst}
use mathlib.Core.Logic.{◌≢◌, ◌⊎◌, inl, inr, ⊎_elim, ◌↔◌}
use mathlib.Core.List.{List, [], ◌∷◌, ◌++◌}
use Prim.Native.Nat.{ℕ, ◌+◌, ◌*◌, ◌/◌, ◌≤◌, ◌<◌}
use native.Mathlib.Decide.{ℕ_discrete}
use native.Mathlib.Omega.{arith}
use Rattle.bits.proofs.Laws.{Bytes}
use Rattle.nodes.specs.Depth.{depth_of}
use Rattle.nodes.specs.Neighbours.{edge}
use Rattle.tables.specs.Table.{Row, unless, Answers, Outcome}
use Rattle.tables.proofs.Tables.{answers_one, is_done}
use Rattle.cuts.specs.Cuts.{CoverOnce}
use Rattle.panel.specs.Panels.{deep_of, CutOf, Good, LeafOf, leaf_count}
use Rattle.panel.specs.Calls.{leaf_rows, Open, SplitAt, Split, Together, Unpinned, MergeAt, merge_rows, Merge, Pin, Unpin}
use Rattle.panel.proofs.Pinning.{put_stays}
use Rattle.panel.proofs.GoodPanels.{covers}
use Rattle.panel.proofs.LeafRows.{is_leaf, leaf_past, row_past}
use Rattle.evidence.proofs.Growth as growth
use Rattle.panel.proofs.Once.{split_one}
use Rattle.evidence.proofs.ThereAndBack.{PinnedAround, split_leaf, split_deep, split_together, split_unpinned, dec_around, split_merge_back, split_merge_leaf, merge_leaf, merge_deep, merge_split}

-- ---- any run of calls

-- a panel that an accepted open and any run of outcomes of split, merge, pin and unpin leave, refused ones among them
pub data Reached : List ℕ → Type 0 where
  opened : {s t : List ℕ} (D : ℕ) → Open s D 0 t → Reached t
  split : {s t : List ℕ} (k n : ℕ) → Reached s → Split s k n t → Reached t
  merged : {s t : List ℕ} (k n : ℕ) → Reached s → Merge s k n t → Reached t
  pinned : {s t : List ℕ} (k n : ℕ) → Reached s → Pin s k n t → Reached t
  unpinned : {s t : List ℕ} (k n : ℕ) → Reached s → Unpin s k n t → Reached t

-- a call that leaves a good panel where it is done, and the old one where it is refused
pub stays_good : {rows : List Row} {Done : List ℕ → Type 0} {n : ℕ} {s t : List ℕ}
    → ((x : List ℕ) → Done x → Good x) → Good s → Outcome rows (List ℕ) Done (λ x. x ≡ s) n t → Good t
stays_good {n} {s} {t} f g o = go (ℕ_discrete n 0)
  where
    go : Dec (n ≡ 0) → Good t
    go (yes z) = f t (o.done z)
    go (no z) = subst Good (sym (o.refused z)) g

pub always_good : {t : List ℕ} → Reached t → Good t
always_good (opened D o) = (o.done refl).good
always_good (split k n r o) = stays_good (λ x d. d.good) (always_good r) o
always_good (merged k n r o) = stays_good (λ x d. d.good) (always_good r) o
always_good (pinned k n r o) = (put_stays (omega arith) (always_good r) o).0
always_good (unpinned k n r o) = (put_stays (omega arith) (always_good r) o).0

-- the leaves cover the panel exactly once
pub always_covers : {t : List ℕ} → Reached t → CoverOnce (deep_of t) (CutOf t)
always_covers {t} r = covers t (always_good r)

-- the long side rule holds
pub always_long_side : {t : List ℕ} → Reached t → (n : ℕ) → 2 ≤ n → CutOf t n → edge n ≢ 0 → CutOf t (edge n)
always_long_side r = (always_good r).cuts.over

-- ---- what a call that is done has passed

pub record SplitDone (s : List ℕ) (k : ℕ) (t : List ℕ) : Type 0 where
  pub good : Good s
  pub leaf : LeafOf s k
  pub deep : depth_of k < deep_of s
  pub made : SplitAt s k t

pub split_done : {s : List ℕ} {k : ℕ} {t : List ℕ} → Split s k 0 t → SplitDone s k t
split_done {s} {k} o =
    let (g, l, a) = leaf_past (unless 5 (depth_of k < deep_of s) ∷ []) o.answer in
    record { good = g; leaf = l; deep = (row_past [] (omega arith) a).0; made = o.done refl }

pub record MergeDone (s : List ℕ) (k : ℕ) (t : List ℕ) : Type 0 where
  pub good : Good s
  pub leaf : LeafOf s k
  pub deep : 1 < depth_of k
  pub together : Together s k
  pub unpinned : Unpinned s k
  pub made : MergeAt s k t

pub merge_done : {s : List ℕ} {k : ℕ} {t : List ℕ} → Merge s k 0 t → MergeDone s k t
merge_done {s} {k} o =
    let (g, l, a) = leaf_past (merge_rows s k) o.answer in
    let (d, b) = row_past (unless 7 (Together s k) ∷ unless 11 (Unpinned s k) ∷ []) (omega arith) a in
    let (t, c) = row_past (unless 11 (Unpinned s k) ∷ []) (omega arith) b in
    record { good = g; leaf = l; deep = d; together = t; unpinned = (row_past [] (omega arith) c).0; made = o.done refl }

-- ---- the leaves grow by at least one and at most twice k's depth

pub split_grows : {s : List ℕ} {k : ℕ} {t : List ℕ} → Split s k 0 t → (leaf_count s + 1 ≤ leaf_count t) × (leaf_count t ≤ leaf_count s + 2 * depth_of k)
split_grows o = let d = split_done o in let (m, f) = growth.split_grows d.good d.leaf d.made in (omega arith, f)

-- ---- there and back

-- after an accepted split of k, merge of 2k answers 11 exactly where k was pinned, or the leaf that its edge neighbour was, or lay in; and else 0
pub back_answers : {s : List ℕ} {k : ℕ} {t : List ℕ} → Split s k 0 t → (n : ℕ) (u : List ℕ) → Merge t (2 * k) n u
    → ((n ≡ 11) ↔ PinnedAround s k) × ((n ≡ 0) ↔ (PinnedAround s k → ⊥))
back_answers {s} {k} {t} o n u p = go (dec_around d.good d.leaf d.made)
  where
    d : SplitDone s k t
    d = split_done o

    free : Unpinned t (2 * k) ↔ (PinnedAround s k → ⊥)
    free = split_unpinned d.good d.leaf d.made

    -- the rows before 11 pass
    past : (m : ℕ) → Answers (unless 11 (Unpinned t (2 * k)) ∷ []) m → n ≡ m
    past m x =
        answers_one (leaf_rows t (2 * k) ++ merge_rows t (2 * k)) n m p.answer
        (is_leaf d.made.good (merge_rows t (2 * k)) (split_leaf d.good d.leaf d.made)
        (inr (split_deep d.good d.leaf d.made, inr (split_together d.good d.leaf d.made, x))))

    go : Dec (PinnedAround s k) → ((n ≡ 11) ↔ PinnedAround s k) × ((n ≡ 0) ↔ (PinnedAround s k → ⊥))
    go (yes a) =
        let e = past 11 (inl (λ v. free.0 v a, refl)) in
        ((λ _. a, λ _. e), (λ z. absurd (omega arith), λ f. absurd (f a)))
    go (no a) =
        let e = past 0 (inr (free.1 a, refl)) in
        ((λ z. absurd (omega arith), λ x. absurd (a x)), (λ _. a, λ _. e))

-- and restores the old bytes exactly when k's edge neighbour is none or was a leaf
pub back_restores : {s : List ℕ} {k : ℕ} {t u : List ℕ} → Bytes s → Bytes u → Split s k 0 t → Merge t (2 * k) 0 u
    → (u ≡ s) ↔ ((edge k ≡ 0) ⊎ LeafOf s (edge k))
back_restores {s} {k} {t} {u} bs bu o p = (λ e. to e (ℕ_discrete (edge k) 0), from)
  where
    d : SplitDone s k t
    d = split_done o

    to : u ≡ s → Dec (edge k ≡ 0) → (edge k ≡ 0) ⊎ LeafOf s (edge k)
    to e (yes z) = inl z
    to e (no z) = inr (split_merge_leaf d.good d.leaf d.made (p.done refl) e z)

    from : (edge k ≡ 0) ⊎ LeafOf s (edge k) → u ≡ s
    from h = split_merge_back d.good d.leaf d.made (p.done refl) (merge_done p).unpinned (λ z. ⊎_elim (λ e. absurd (z e)) (λ l. l) h) bs bu

-- after an accepted merge of k, split of its parent answers 0 and restores the old bytes
pub again_restores : {s : List ℕ} {k : ℕ} {t : List ℕ} → Bytes s → Merge s k 0 t → (n : ℕ) (u : List ℕ) → Bytes u → Split t (k / 2) n u → (n ≡ 0) × (u ≡ s)
again_restores {s} {k} {t} bs o n u bu p =
    let d = merge_done o in
    let l = merge_leaf d.good d.leaf d.deep d.together d.unpinned d.made in
    split_one t (k / 2) n 0 u s bu bs p
    (is_done
    (is_leaf d.made.good (unless 5 (depth_of (k / 2) < deep_of t) ∷ []) l
    (inr (merge_deep d.good d.leaf d.deep d.together d.unpinned d.made, refl)))
    (merge_split d.good d.leaf d.deep d.together d.unpinned d.made))
