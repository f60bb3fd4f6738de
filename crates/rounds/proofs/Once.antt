-- One input has one outcome: of a record that of its call, of a round that of its records in turn. And what a record's answer says.
use mathlib.Core.Path.{◌≡◌, refl, sym, ap₂, ◌∙◌}
use mathlib.Core.Logic.{◌≢◌, inr, ◌↔◌}
use mathlib.Core.List.{List, [], ◌∷◌, ◌++◌}
use Prim.Native.Nat.{ℕ, ◌/◌, ◌<◌}
use native.Mathlib.Omega.{arith}
use lib.ListN.{length, take, drop, length-take, take-append-drop}
use Rattle.bits.specs.Bits.{Bytes}
use Rattle.nodes.specs.Depth.{depth_of}
use Rattle.tables.specs.Table.{unless, Answers}
use Rattle.tables.proofs.Tables.{outcome_one, is_done}
use Rattle.tables.proofs.Exactness.{outcome_without}
use Rattle.panel.specs.Panels.{deep_of, Good}
use Rattle.panel.specs.Calls.{merge_rows}
use Rattle.panel.proofs.Rows.{past_judge}
use Rattle.panel.proofs.LeafRows.{rows_behind}
use Rattle.panel.proofs.Once.{split_one, merge_one}
use Rattle.records.specs.Records.{number, Fine}
use Rattle.records.specs.InTurn.InTurn.{none}
use Rattle.records.proofs.InTurn.{turns_one}
use Rattle.rounds.specs.Rounds.{Single, Lent, RoundAt, round_rows, Round}
use Rattle.rounds.specs.Rounds.Single.{bad, split, merge}

-- ---- a record

pub single_one : {r s t u : List ℕ} {n m : ℕ} → Bytes t → Bytes u → Single r s n t → Single r s m u → (n ≡ m) × (t ≡ u)
single_one x y (bad f) (bad g) = (refl, refl)
single_one x y (bad f) (split g e o) = absurd (f g)
single_one x y (bad f) (merge g e o) = absurd (f g)
single_one x y (split f d p) (bad g) = absurd (g f)
single_one {r} {s} {t} {u} {n} {m} x y (split f d p) (split g e q) = split_one s (number r) n m t u x y p q
single_one x y (split f d p) (merge g e q) = absurd (omega arith)
single_one x y (merge f d p) (bad g) = absurd (g f)
single_one x y (merge f d p) (split g e q) = absurd (omega arith)
single_one {r} {s} {t} {u} {n} {m} x y (merge f d p) (merge g e q) = merge_one s (number r) n m t u x y p q

-- 9 is answered exactly where the record is bad
pub single_nine : {r s t : List ℕ} {n : ℕ} → Single r s n t → (n ≡ 9) ↔ (Fine 1 2 r → ⊥)
single_nine (bad f) = (λ e. f, λ g. refl)
single_nine (split g e o) = (λ n. absurd (outcome_without 9 (omega arith) (omega arith) o n), λ f. absurd (f g))
single_nine (merge g e o) = (λ n. absurd (outcome_without 9 (omega arith) (omega arith) o n), λ f. absurd (f g))

-- a refused record changes nothing
pub single_refused : {r s t : List ℕ} {n : ℕ} → Single r s n t → n ≢ 0 → t ≡ s
single_refused (bad f) z = refl
single_refused (split f e o) z = o.refused z
single_refused (merge f e o) z = o.refused z

-- nothing is left to judge at a record
pub single_judged : {r s t : List ℕ} {n : ℕ} → Good s → Single r s n t → (n ≢ 1) × (n ≢ 2)
single_judged g (bad f) = (λ e. omega arith, λ e. omega arith)
single_judged {r} {s} g (split f e o) = past_judge (rows_behind s (number r) (unless 5 (depth_of (number r) < deep_of s) ∷ [])) g (omega arith) (omega arith) o.answer
single_judged {r} {s} g (merge f e o) = past_judge (rows_behind s (number r) (merge_rows s (number r))) g (omega arith) (omega arith) o.answer

-- ---- a round

-- lists that are as long have first parts that are as long, and are the same where these and the rests are
take_long : (n : ℕ) (v w : List ℕ) → length v ≡ length w → length (take n v) ≡ length (take n w)
take_long n v w e = omega (arith, length-take n v, length-take n w)

same_parts : (n : ℕ) (v w : List ℕ) → take n v ≡ take n w → drop n v ≡ drop n w → v ≡ w
same_parts n v w a b = sym (take-append-drop n v) ∙ ap₂ (λ x y. x ++ y) a b ∙ take-append-drop n w

module _ (s rs out : List ℕ) where
  done_one : (x y : Lent) → RoundAt s rs out x → RoundAt s rs out y → x ≡ y
  done_one x y p q =
      let l = take_long (length rs / 8) x.answers y.answers (p.long ∙ sym q.long) in
      let e = turns_one (λ r n m a b c v w. single_one v.1 w.1 v.0 w.0) p.in_order q.in_order l in
      ap₂ (λ v w. record { panel = v; answers = w }) e.1 (same_parts (length rs / 8) x.answers y.answers e.0 (p.rest ∙ sym q.rest))

  pub round_one : (n m : ℕ) (x y : Lent) → Round s rs out n x → Round s rs out m y → (n ≡ m) × (x ≡ y)
  round_one = outcome_one (round_rows s rs out) Lent (RoundAt s rs out) (λ z. z ≡ record { panel = s; answers = out }) done_one (λ x y p q. p ∙ sym q)

-- with no record, on a good panel, it is done and changes nothing
pub round_empty : {s out : List ℕ} {n : ℕ} {x : Lent} → Good s → Round s [] out n x → (n ≡ 0) × (x ≡ record { panel = s; answers = out })
round_empty {s} {out} {n} {x} g o =
    let a : Answers (round_rows s [] out) 0 = inr (g.fits, inr (g, inr (omega arith, inr (refl, refl)))) in
    round_one s [] out n 0 x (record { panel = s; answers = out }) o (is_done a (record { in_order = none; long = refl; rest = refl }))
