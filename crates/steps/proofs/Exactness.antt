-- A record's refusals are exact: an open is answered by two rows, and no call on a panel answers 9 or 18.
use mathlib.Core.Path.{◌≡◌, refl, subst}
use mathlib.Core.Logic.{◌≢◌, inl, inr, ⊎_elim, ◌↔◌}
use mathlib.Core.List.{List, [], ◌∷◌}
use Prim.Native.Nat.{ℕ, ◌<◌}
use native.Mathlib.Omega.{arith}
use Rattle.tables.specs.Table.{Row, unless, when, Answers}
use Rattle.tables.proofs.Tables.{answers_one}
use Rattle.tables.proofs.Exactness.{outcome_without}
use Rattle.panel.specs.Panels.{Fits}
use Rattle.panel.proofs.LeafRows.{row_past}
use Rattle.records.specs.Records.{kind, number, Fine}
use Rattle.steps.specs.Steps.{panel_in, leaves_in, Called, Step}
use Rattle.steps.specs.Steps.Called.{opened, refused, in_use, split, merge, pin, unpin}
use Rattle.steps.specs.Steps.Step.{bad, call}

-- ---- an open

-- its rows: 18 is tested after 1
abbrev pub open_rows : ℕ → ℕ → List ℕ → List Row
open_rows k D b = unless 1 (Fits (panel_in k b) k) ∷ when 18 (2 < leaves_in D b) ∷ []

pub open_answers : {k D n E : ℕ} {b u : List ℕ} → Called k D b 0 n E u → Answers (open_rows k D b) n
open_answers (opened p l) = inr ((row_past [] (omega arith) p.answer).0, inr (λ h. omega arith, refl))
open_answers (refused p z) = ⊎_elim (λ a. inl a) (λ a. absurd (z a.1)) p.answer
open_answers (in_use f l) = inr (f, inl (λ h. h l, refl))

-- ---- any record

-- above 8 a call answers 10 or 11, or 18 where it is an open that would be done over more than two leaves
only_in_use : {k D c n E : ℕ} {b u : List ℕ} → Called k D b c n E u → 8 < n → n ≢ 10 → n ≢ 11 → (n ≡ 18) × (c ≡ 0) × Fits (panel_in k b) k × (2 < leaves_in D b)
only_in_use (opened p l) h z w = absurd (omega arith)
only_in_use (refused {n = n} p y) h z w = absurd (outcome_without n y (omega arith) p refl)
only_in_use (in_use f l) h z w = (refl, refl, f, l)
only_in_use (split {n = n} p) h z w = absurd (outcome_without n (omega arith) (omega arith) p refl)
only_in_use (merge {n = n} p) h z w = absurd (outcome_without n (omega arith) (omega arith) p refl)
only_in_use (pin {n = n} p) h z w = absurd (outcome_without n (omega arith) (omega arith) p refl)
only_in_use (unpin {n = n} p) h z w = absurd (outcome_without n (omega arith) (omega arith) p refl)

-- 9 is answered exactly where the record is bad
pub nine_exactly : {first last : ℕ} {r b u : List ℕ} {D n E : ℕ} → Step first last r D b n E u → (n ≡ 9) ↔ (Fine first last r → ⊥)
nine_exactly (bad f) = (λ e. f, λ g. refl)
nine_exactly (call g c) = (λ e. absurd (omega (arith, (only_in_use c (omega arith) (omega arith) (omega arith)).0)), λ f. absurd (f g))

-- 18 is answered exactly to an open that would be done, while the open panel has more than two leaves
pub in_use_exactly : {first last : ℕ} {r b u : List ℕ} {D n E : ℕ} → Step first last r D b n E u
    → (n ≡ 18) ↔ (Fine first last r × (kind r ≡ 0) × Fits (panel_in (number r) b) (number r) × (2 < leaves_in D b))
in_use_exactly (bad f) = (λ e. absurd (omega arith), λ a. absurd (f a.0))
in_use_exactly {first} {last} {r} {b} {u} {D} {n} {E} (call g c) = (to, from)
  where
    to : n ≡ 18 → Fine first last r × (kind r ≡ 0) × Fits (panel_in (number r) b) (number r) × (2 < leaves_in D b)
    to e = let (_, z, f, l) = only_in_use c (omega arith) (omega arith) (omega arith) in (g, z, f, l)

    from : Fine first last r × (kind r ≡ 0) × Fits (panel_in (number r) b) (number r) × (2 < leaves_in D b) → n ≡ 18
    from (_, z, f, l) =
        answers_one (open_rows (number r) D b) n 18 (open_answers (subst (λ x. Called (number r) D b x n E u) z c)) (inr (f, inl (λ h. h l, refl)))
