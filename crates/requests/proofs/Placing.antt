-- A part's answers are written into their place of the answers' buffer: what is in front of them and behind them stays.
use mathlib.Core.Path.{◌≡◌, sym, ap, ◌∙◌, subst⁻¹}
use mathlib.Core.Bool.{Bool}
use mathlib.Core.List.{List, ◌++◌, append_assoc}
use Prim.Native.Nat.{ℕ, ◌+◌, ◌-◌, ◌≤◌, min}
use native.Mathlib.Omega.{arith}
use lib.ListN.{length, take, drop, length-append, length-drop}
use lib.Seq.{slice, length-take-le, take_at, drop_at, drop-drop}
use Rattle.records.specs.Records.{count_after, most_records}
use Rattle.turns.specs.Runs.{Runs}
use Rattle.requests.specs.Requests.{Part}

module _ (p : List ℕ) (ends : Bool) (before : ℕ) (out : List ℕ) (count : ℕ) (h : before ≤ min most_records (length out)) (a : count ≡ min (count_after before ends p) (length out)) where
  lent_long : length (take (count - before) (drop before out)) ≡ count - before
  lent_long = length-take-le (count - before) (drop before out) (omega (arith, length-drop before out, a))

  before_long : length (take before out) ≡ before
  before_long = length-take-le before out (omega (arith, h))

  rest_same : drop (count - before) (drop before out) ≡ drop count out
  rest_same = let s : before + (count - before) ≡ count = omega (arith, h, a) in drop-drop (count - before) before out ∙ ap (λ k. drop k out) s

  -- the answers ys in that part
  pub part_placed : {C D : ℕ} {b t ys : List ℕ} → length ys ≡ length (take (count - before) (drop before out)) → Runs 0 4 p C b ys D t
      → Part p ends before C b out count D t (take before out ++ (ys ++ drop (count - before) (drop before out)))
  part_placed {C} {D} {b} {t} {ys} e r =
      let tail : List ℕ = drop (count - before) (drop before out) in
      let front : List ℕ = take before out ++ ys in
      let l : length front ≡ count = length-append (take before out) ys ∙ omega (arith, before_long, e, lent_long, h, a) in
      let j : take before out ++ (ys ++ tail) ≡ front ++ tail = sym (append_assoc (take before out) ys tail) in
      record {
        all = a;
        runs = subst⁻¹ (λ x. Runs 0 4 p C b x D t) (ap (slice before count) j ∙ ap (drop before) (take_at front tail count l) ∙ drop_at (take before out) ys before before_long) r;
        long = ap length j ∙ length-append front tail ∙ omega (arith, l, ap length rest_same, length-drop count out, a);
        front = take_at (take before out) (ys ++ tail) before before_long;
        rest = ap (drop count) j ∙ drop_at front tail count l ∙ rest_same;
      }
