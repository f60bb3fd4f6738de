-- A run goes on from part to part: the parts in turn are the run of their bytes together, however these are cut between records.
use mathlib.Core.Path.{◌≡◌, refl, sym, ap, ◌∙◌, subst⁻¹}
use mathlib.Core.Bool.{Bool, true, false}
use mathlib.Core.List.{List, [], ◌++◌}
use Prim.Native.Nat.{ℕ, ◌+◌, ◌-◌, ◌/◌, ◌%◌, ◌≤◌, ◌<◌, min}
use native.Mathlib.Omega.{arith}
use lib.ListN.{length, take, drop, length-append, take-append-drop}
use lib.Seq.{slice, length-slice, length-take-le, take-take, drop-drop}
use Rattle.records.specs.Records.{record_at, records_in, most_records}
use Rattle.records.specs.InTurn.InTurn.{none}
use Rattle.records.proofs.InTurn.{record_behind, turns_longer, turns_then}
use Rattle.turns.specs.Runs.{Runs}
use Rattle.requests.specs.Requests.{Part, Run, Parts, Ended}
use Rattle.requests.specs.Requests.Parts.{none as no-parts, more as one_more}
use Rattle.requests.proofs.Once.{run_one}

-- ---- parts in turn

-- what parts of whole records, rs together, have come to
record Sofar (b out rs : List ℕ) (n C : ℕ) (t given : List ℕ) : Type 0 where
  whole : length rs % 8 ≡ 0
  count : n ≡ min (min most_records (length rs / 8)) (length out)
  runs : Runs 0 4 rs 0 b (take n given) C t
  long : length given ≡ length out
  rest : drop n given ≡ drop n out

module _ {b out rs p t u given after : List ℕ} {ends : Bool} {n m C D : ℕ} (h : Sofar b out rs n C t given) (q : Part p ends n C t given m D u after) where
  on_count : m ≡ min (min most_records (length rs / 8 + records_in ends p)) (length out)
  on_count = omega (arith, h.count, h.long, q.all)

  on_after : n ≤ m
  on_after = omega (arith, h.count, h.long, q.all)

  on_answers : take m after ≡ take n given ++ slice n m after
  on_answers = sym (take-append-drop n (take m after)) ∙ ap (λ x. x ++ slice n m after) (take-take n m after on_after ∙ q.front)

  -- the part's records follow those of rs, where it has any that are answered
  on_record : (j : ℕ) → j < length (slice n m after) → record_at (rs ++ p) (length (take n given) + j) ≡ record_at p j
  on_record j l =
      let s = length-slice n m after (omega (arith, q.all, q.long)) in
      let e = length-take-le n given (omega (arith, h.count, h.long)) in
      ap (λ k. record_at (rs ++ p) (k + j)) e ∙ record_behind rs p n j (omega (arith, h.count, h.long, h.whole, q.all, s, l))

  on_runs : Runs 0 4 (rs ++ p) 0 b (take m after) D u
  on_runs =
      let e = length-take-le n given (omega (arith, h.count, h.long)) in
      subst⁻¹ (λ x. Runs 0 4 (rs ++ p) 0 b x D u) on_answers
      (turns_then (turns_longer p h.runs (omega (arith, e, h.count, h.whole))) on_record q.runs)

  on_rest : drop m after ≡ drop m out
  on_rest =
      let e : n + (m - n) ≡ m = omega (arith, on_after) in
      q.rest ∙ ap (λ k. drop k given) (sym e) ∙ sym (drop-drop (m - n) n given) ∙ ap (drop (m - n)) h.rest ∙ drop-drop (m - n) n out ∙ ap (λ k. drop k out) e

parts_sofar : {b out rs t given : List ℕ} {n C : ℕ} → Parts b out rs n C t given → Sofar b out rs n C t given
parts_sofar no-parts = record { whole = refl; count = omega arith; runs = none; long = refl; rest = refl }
parts_sofar (one_more {rs = rs} {p = p} a w q) =
    let h = parts_sofar a in
    let l = length-append rs p in
    record { whole = omega (arith, l, w, h.whole); count = omega (arith, l, w, h.whole, on_count h q); runs = on_runs h q; long = q.long ∙ h.long; rest = on_rest h q }

-- the parts in turn, and the last, with which the input ends, are the run of the whole
pub parts_run : {b out rs p t u given after : List ℕ} {n m C D : ℕ} → Parts b out rs n C t given → Part p true n C t given m D u after
    → Run (rs ++ p) b out m D u after
parts_run {rs = rs} {p = p} a q =
    let h = parts_sofar a in
    record {
      all = omega (arith, length-append rs p, h.whole, on_count h q);
      runs = on_runs h q;
      long = q.long ∙ h.long;
      front = refl;
      rest = on_rest h q;
    }

-- so it is one and the same, however the bytes are cut: the answers, the last depth and the buffer are those of the run of the whole
pub parts_one :
    {b out rs p t u given after v x : List ℕ} {n m k C D E : ℕ} → Parts b out rs n C t given → Part p true n C t given m D u after
    → Run (rs ++ p) b out k E v x → (m ≡ k) × (D ≡ E) × (u ≡ v) × (after ≡ x)
parts_one a q r = run_one (parts_run a q) r

-- ---- a loop that reads part by part

-- its invariant: what was read are parts of whole records
pub record Reading (b out t given : List ℕ) (n C : ℕ) : Type 0 where
  pub read : List ℕ
  pub parts : Parts b out read n C t given

pub reading_none : (b out : List ℕ) → Reading b out b out 0 0
reading_none b out = record { read = []; parts = no-parts }

module _ {b out t given : List ℕ} {n C : ℕ} (h : Reading b out t given n C) where
  pub reading_more : {p u after : List ℕ} {m D : ℕ} → length p % 8 ≡ 0 → Part p false n C t given m D u after → Reading b out u after m D
  reading_more {p} w q = record { read = h.read ++ p; parts = one_more h.parts w q }

  module _ (r : most_records ≤ length out) where
    -- with the part that the input ends with, or at the limit, the run is over
    pub reading_ended : {p u after : List ℕ} {m D : ℕ} → Part p true n C t given m D u after → Ended (take m after) D u
    reading_ended {p} {after = after} {m = m} q =
        let w = parts_run h.parts q in
        record { input = h.read ++ p; before = b; runs = w.runs; all = length-take-le m after (omega (arith, w.all, w.long)) ∙ omega (arith, w.all, r) }

    pub reading_limit : most_records ≤ n → Ended (take n given) C t
    reading_limit l =
        let s = parts_sofar h.parts in
        record { input = h.read; before = b; runs = s.runs; all = length-take-le n given (omega (arith, s.count, s.long)) ∙ omega (arith, s.count, r, l) }
