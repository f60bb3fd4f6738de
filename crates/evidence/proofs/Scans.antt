-- No record loses a scan. A split adds leaves, a pin or an unpin changes none, an open is accepted only over no panel or two leaves and leaves two, and a refusal changes nothing: so only
-- an accepted merge lowers the leaf count.
use mathlib.Core.Path.{◌≡◌, refl, ap, ◌∙◌, subst}
use mathlib.Core.Logic.{◌≢◌, ◌⊎◌, inl, inr}
use mathlib.Core.List.{List}
use Prim.Native.Nat.{ℕ, ◌≤◌, ◌<◌}
use native.Mathlib.Decide.{ℕ_discrete}
use native.Mathlib.Omega.{arith}
use lib.ListN.{length}
use Rattle.tables.specs.Table.{Row, Outcome}
use Rattle.panel.specs.Panels.{size_of, Good, leaf_count}
use Rattle.panel.specs.Calls.{Open, Split, PinPut}
use Rattle.panel.proofs.Pinning.{pinned_count, put_leaf}
use Rattle.panel.proofs.GoodPanels.{two_leaves, fresh_count}
use Rattle.records.specs.Records.{kind, Fine, record_at}
use Rattle.records.specs.InTurn.{InTurn}
use Rattle.records.specs.InTurn.InTurn.{none, more}
use Rattle.steps.specs.Steps.{panel_in, changed, leaves_in, Called, Step}
use Rattle.steps.specs.Steps.Called.{opened, refused, in_use, split, merge, pin, unpin}
use Rattle.steps.specs.Steps.Step.{bad, call}
use Rattle.steps.specs.Holding.{Holds}
use Rattle.steps.proofs.Keeping.{holds_none}
use Rattle.steps.proofs.Parts.{same_changed, held_length, leaves_none, leaves_open, leaves_changed}
use Rattle.turns.specs.Runs.{StepBytes, Runs}
use Rattle.turns.proofs.Running.{runs_holds}
use Rattle.requests.proofs.Keeping.{NoneDone, before_none, last_none}
use Rattle.evidence.proofs.Sequences.{split_grows}

-- ---- one record

-- what record r, which answers n, does to the open panel of depth D in the buffer b: it leaves that of depth E in the buffer u
pub record ScanKept (r : List ℕ) (D : ℕ) (b : List ℕ) (n E : ℕ) (u : List ℕ) : Type 0 where
  -- an open panel stays open
  pub stays : D ≢ 0 → E ≢ 0
  -- an open is accepted only over no panel or two leaves
  pub over : Fine 0 4 r → kind r ≡ 0 → n ≡ 0 → (D ≡ 0) ⊎ (leaves_in D b ≡ 2)
  -- unless the record is an accepted merge, the leaf count is not lowered
  pub grows : (Fine 0 4 r → kind r ≡ 2 → n ≢ 0) → leaves_in D b ≤ leaves_in E u

opened_deep : {s t : List ℕ} {k : ℕ} → Open s k 0 t → k ≢ 0
opened_deep o e = omega (arith, (o.done refl).deep)

-- an accepted open leaves two leaves
opened_leaves : {s t : List ℕ} {k : ℕ} (b : List ℕ) → Open s k 0 t → leaves_in k (changed k b t) ≡ 2
opened_leaves {t = t} {k = k} b o =
    let f = o.done refl in
    leaves_changed k b t (opened_deep o) (f.good.fits.long ∙ ap size_of f.deep) ∙ fresh_count f

module _ {D : ℕ} {b : List ℕ} (h : Holds D b) where
  -- as an open panel has at least two
  two_or_none : leaves_in D b ≤ 2 → (D ≡ 0) ⊎ (leaves_in D b ≡ 2)
  two_or_none l = go (ℕ_discrete D 0)
    where
      go : Dec (D ≡ 0) → (D ≡ 0) ⊎ (leaves_in D b ≡ 2)
      go (yes z) = inl z
      go (no z) = inr (omega (arith, leaves_open D b z, two_leaves (panel_in D b) (h.good z)))

  -- a call that lowers no count where it is done lowers none
  change_more : {rows : List Row} {Done : List ℕ → Type 0} {n : ℕ} {t : List ℕ} → Outcome rows (List ℕ) Done (λ x. x ≡ panel_in D b) n t
      → (n ≡ 0 → Good (panel_in D b) → (leaf_count (panel_in D b) ≤ leaf_count t) × (length t ≡ length (panel_in D b))) → leaves_in D b ≤ leaves_in D (changed D b t)
  change_more {n = n} {t = t} o f = go (ℕ_discrete n 0) (ℕ_discrete D 0)
    where
      go : Dec (n ≡ 0) → Dec (D ≡ 0) → leaves_in D b ≤ leaves_in D (changed D b t)
      go (yes a) (yes z) = omega (arith, leaves_none D b z)
      go (yes a) (no z) =
          let (m, e) = f a (h.good z) in omega (arith, leaves_open D b z, leaves_changed D b t z (e ∙ held_length h z))
      go (no a) _ = omega (arith, ap (leaves_in D) (same_changed D b t (o.refused a)))

  -- a split adds leaves
  split_more : {k n : ℕ} {t : List ℕ} → Split (panel_in D b) k n t → leaves_in D b ≤ leaves_in D (changed D b t)
  split_more {k} {t = t} o = change_more o (λ a _. (omega (arith, (split_grows (subst (λ x. Split (panel_in D b) k x t) a o)).0), (o.done a).long))

  -- a pin or an unpin leaves them
  put_more : {k v n : ℕ} {t : List ℕ} → v < 2 → PinPut (panel_in D b) k v n t → leaves_in D b ≤ leaves_in D (changed D b t)
  put_more l o = change_more o (λ a g. (omega (arith, pinned_count g (put_leaf o a) l (o.done a)), (o.done a).long))

  called_stays : {k c n E : ℕ} {u : List ℕ} → Called k D b c n E u → D ≢ 0 → E ≢ 0
  called_stays (opened o l) z = opened_deep o
  called_stays (refused o y) z = z
  called_stays (in_use f l) z = z
  called_stays (split o) z = z
  called_stays (merge o) z = z
  called_stays (pin o) z = z
  called_stays (unpin o) z = z

  called_over : {k c n E : ℕ} {u : List ℕ} → Called k D b c n E u → c ≡ 0 → n ≡ 0 → (D ≡ 0) ⊎ (leaves_in D b ≡ 2)
  called_over (opened o l) e a = two_or_none l
  called_over (refused o y) e a = absurd (y a)
  called_over (in_use f l) e a = absurd (omega arith)
  called_over (split o) e a = absurd (omega arith)
  called_over (merge o) e a = absurd (omega arith)
  called_over (pin o) e a = absurd (omega arith)
  called_over (unpin o) e a = absurd (omega arith)

  called_grows : {k c n E : ℕ} {u : List ℕ} → Called k D b c n E u → (c ≡ 2 → n ≢ 0) → leaves_in D b ≤ leaves_in E u
  called_grows (opened o l) m = omega (arith, opened_leaves b o)
  called_grows (refused o y) m = omega arith
  called_grows (in_use f l) m = omega arith
  called_grows (split o) m = split_more o
  called_grows (merge {t = t} o) m = omega (arith, ap (leaves_in D) (same_changed D b t (o.refused (m refl))))
  called_grows (pin o) m = put_more (omega arith) o
  called_grows (unpin o) m = put_more (omega arith) o

  step_keeps_scan : {r u : List ℕ} {n E : ℕ} → Step 0 4 r D b n E u → ScanKept r D b n E u
  step_keeps_scan (bad f) = record { stays = λ z. z; over = λ g. absurd (f g); grows = λ m. omega arith }
  step_keeps_scan (call f c) = record { stays = called_stays c; over = λ _. called_over c; grows = λ m. called_grows c (m f) }

-- ---- a run of records

pub run_keeps_scan : {rs b given t u : List ℕ} {D n E : ℕ} → Runs 0 4 rs 0 b given D t → Step 0 4 (record_at rs (length given)) D t n E u
    → ScanKept (record_at rs (length given)) D t n E u
run_keeps_scan {b = b} r s = step_keeps_scan (runs_holds (holds_none b) r) s

module _ {rs : List ℕ} {x : ℕ × List ℕ} (h : Holds x.0 x.1) where
  -- an open panel stays open
  pub runs_stay : {given : List ℕ} {y : ℕ × List ℕ} → InTurn (ℕ × List ℕ) (StepBytes 0 4) rs x given y → x.0 ≢ 0 → y.0 ≢ 0
  runs_stay none z = z
  runs_stay (more r (s, _)) z = (step_keeps_scan (runs_holds h r) s).stays (runs_stay r z)

  -- and where no merge is accepted, its leaf count is not lowered
  pub runs_grow : {given : List ℕ} {y : ℕ × List ℕ} → InTurn (ℕ × List ℕ) (StepBytes 0 4) rs x given y → NoneDone 2 rs given
      → leaves_in x.0 x.1 ≤ leaves_in y.0 y.1
  runs_grow none m = omega arith
  runs_grow (more {given = g} {n = n} r (s, _)) m =
      omega (arith, runs_grow r (before_none rs g n m), (step_keeps_scan (runs_holds h r) s).grows (last_none rs g n m))
