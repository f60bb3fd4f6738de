-- What every run keeps, as each of its records does: the open panel stays good. Before the first accepted open no panel is open.
use mathlib.Core.Path.{◌≡◌, refl, ◌∙◌, subst}
use mathlib.Core.Logic.{◌≢◌}
use mathlib.Core.List.{List, [], ◌∷◌, ◌++◌}
use Prim.Native.Nat.{ℕ, ◌<◌}
use native.Mathlib.Omega.{arith}
use lib.ListN.{length, get_or, length-append, get_or-append}
use lib.Seq.{get_or-append_seam}
use Rattle.records.specs.Records.{kind, record_at, Fine}
use Rattle.records.specs.InTurn.{InTurn}
use Rattle.records.specs.InTurn.InTurn.{none, more}
use Rattle.steps.specs.Steps.{Step}
use Rattle.steps.specs.Holding.{Holds}
use Rattle.steps.proofs.Keeping.{step_refused, holds_none, step_none, step_first}
use Rattle.turns.specs.Runs.{StepBytes, Runs}
use Rattle.turns.proofs.Running.{runs_holds}
use Rattle.requests.specs.Requests.{Run, Ended}

-- ---- the open panel stays good

-- what a run leaves open is good
pub run_holds : {rs b out u after : List ℕ} {count D : ℕ} → Run rs b out count D u after → Holds D u
run_holds {b = b} r = runs_holds (holds_none b) r.runs

pub ended_holds : {given t : List ℕ} {D : ℕ} → Ended given D t → Holds D t
ended_holds e = runs_holds (holds_none e.before) e.runs

-- ---- records of a kind that are refused

-- none of the first records is an accepted call of kind c
abbrev pub NoneDone : ℕ → List ℕ → List ℕ → Type 0
NoneDone c rs given = (i : ℕ) → i < length given → Fine 0 4 (record_at rs i) → kind (record_at rs i) ≡ c → get_or given i 0 ≢ 0

module _ {c : ℕ} (rs g : List ℕ) (n : ℕ) (h : NoneDone c rs (g ++ (n ∷ []))) where
  -- the last is none ..
  pub last_none : Fine 0 4 (record_at rs (length g)) → kind (record_at rs (length g)) ≡ c → n ≢ 0
  last_none f k e = h (length g) (omega (arith, length-append g (n ∷ []))) f k (get_or-append_seam g n [] 0 ∙ e)

  -- .. and neither is one before it
  pub before_none : NoneDone c rs g
  before_none i b f k e = h i (omega (arith, length-append g (n ∷ []))) f k (get_or-append g (n ∷ []) 0 i b ∙ e)

-- ---- before the first accepted open

-- no panel is open, and every byte is as before
pub none-opened : {rs b given : List ℕ} {y : ℕ × List ℕ} → InTurn (ℕ × List ℕ) (StepBytes 0 4) rs (0, b) given y → NoneDone 0 rs given → (y.0 ≡ 0) × (y.1 ≡ b)
none-opened none h = (refl, refl)
none-opened {rs} (more {given = g} {n = n} {t = t} {u = u} r (s, y)) h =
    let i = none-opened r (before_none rs g n h) in
    let o = subst (λ x. Step 0 4 (record_at rs (length g)) x t.1 n u.0 u.1) i.0 s in
    let k = step_refused o (step_none o (last_none rs g n h)) in
    (k.0, k.1 ∙ i.1)

-- and split and merge answer 1
pub before_first_open :
    {rs b given u v : List ℕ} {D n E : ℕ} → Runs 0 4 rs 0 b given D u → NoneDone 0 rs given
    → Step 0 4 (record_at rs (length given)) D u n E v → Fine 0 4 (record_at rs (length given)) → kind (record_at rs (length given)) ≢ 0
    → n ≡ 1
before_first_open r h s = step_first (none-opened r h).0 s
