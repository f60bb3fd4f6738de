-- How a call goes on from what it begins with, a judgement or the test of a leaf: a refusal is the call's own, and past it the rows have passed.
use mathlib.Core.Path.{◌≡◌, refl, subst}
use mathlib.Core.Logic.{◌≢◌}
use mathlib.Core.List.{List, [], ◌++◌}
use Prim.Native.Nat.{ℕ}
use native.Mathlib.Omega.{arith}
use Rattle.answers.specs.declared.Refusal.{Refusal}
use Rattle.std.specs.Prelude.{⊤, Result, Ok, Err}
use Rattle.answers.specs.Refusals.{refusal_number, refusal_ancestor, answer_number, answer_ancestor, answer_value}
use Rattle.tables.specs.Table.{Row, Answers, Outcome}
use Rattle.answers.proofs.Refusing.{refusal_pos, refusal_alone}
use Rattle.tables.proofs.Exactness.{answers_among}
use Rattle.tables.proofs.Tables.{is_refused, refused_more}
use Rattle.panel.specs.Panels.{deep_of, Good, LeafOf}
use Rattle.panel.specs.Calls.{panel_rows, Judged, leaf_rows, Ancestor}
use Rattle.panel.specs.inner.Judging.{GoodDepth}
use Rattle.panel.proofs.LeafRows.{good_past, leaf_past}

handed_on : (rows more : List Row) {A : Type 0} {Fine Refused : A → Type 0} {x : A} (e : Refusal)
    → Answers rows (refusal_number e) → Refused x → Outcome (rows ++ more) A Fine Refused (refusal_number e) x
handed_on rows more e a r = is_refused (refusal_pos e) (refused_more rows more (refusal_number e) (refusal_pos e) a) r

-- beside all but 10 there is no ancestor
pub no_ancestor : {s : List ℕ} {k n : ℕ} → n ≢ 10 → Ancestor s k n 0
no_ancestor z = record { leaf = λ e. absurd (z e); none = λ _. refl }

-- ---- a judgement

module _ {s : List ℕ} {j : Result ℕ Refusal} (o : GoodDepth s (answer_number j) (answer_value j)) where
  pub judged_refusal : {e : Refusal} → j ≡ Err e → Judged s (refusal_number e)
  judged_refusal h = subst (λ (i : Result ℕ Refusal). Judged s (answer_number i)) h o.answer

  pub judged_no : {e : Refusal} {more : List Row} {A : Type 0} {Fine Refused : A → Type 0} {x : A}
      → j ≡ Err e → Refused x → Outcome (panel_rows s ++ more) A Fine Refused (refusal_number e) x
  judged_no {e} {more} h r = handed_on (panel_rows s) more e (judged_refusal h) r

  pub judged_alone : {e : Refusal} {k : ℕ} → j ≡ Err e → Ancestor s k (refusal_number e) (refusal_ancestor e)
  judged_alone {e} h =
      let z = answers_among (panel_rows s) 10 (refusal_number e) (omega arith) (omega arith) (judged_refusal h) in
      record { leaf = λ x. absurd (z x); none = refusal_alone e }

  pub judged_good : {d : ℕ} → j ≡ Ok d → Good s × (d ≡ deep_of s)
  judged_good {d} h =
      let p : GoodDepth s 0 d = subst (λ (i : Result ℕ Refusal). GoodDepth s (answer_number i) (answer_value i)) h o in
      ((good_past [] p.answer).0, p.done refl)

-- ---- the test of leaf k

module _ {s : List ℕ} {k : ℕ} {a : Result ⊤ Refusal} (o : Answers (leaf_rows s k) (answer_number a)) where
  answered : {b : Result ⊤ Refusal} → a ≡ b → Answers (leaf_rows s k) (answer_number b)
  answered h = subst (λ (b : Result ⊤ Refusal). Answers (leaf_rows s k) (answer_number b)) h o

  pub tested_no : {e : Refusal} {more : List Row} {A : Type 0} {Fine Refused : A → Type 0} {x : A}
      → a ≡ Err e → Refused x → Outcome (leaf_rows s k ++ more) A Fine Refused (refusal_number e) x
  tested_no {e} {more} h r = handed_on (leaf_rows s k) more e (answered h) r

  pub tested_ancestor : {e : Refusal} → Ancestor s k (answer_number a) (answer_ancestor a) → a ≡ Err e → Ancestor s k (refusal_number e) (refusal_ancestor e)
  tested_ancestor x h = subst (λ (b : Result ⊤ Refusal). Ancestor s k (answer_number b) (answer_ancestor b)) h x

  pub tested_leaf : a ≡ Ok tt → LeafOf s k
  tested_leaf h = (leaf_past [] (answered h)).1
