-- One input has one outcome: of a part and of the whole, as records in turn have.
use mathlib.Core.Path.{◌≡◌, sym, ap, ap₂, ◌∙◌}
use mathlib.Core.Bool.{Bool}
use mathlib.Core.List.{List, ◌++◌}
use Prim.Native.Nat.{ℕ, ◌-◌, ◌≤◌, min}
use native.Mathlib.Omega.{arith}
use lib.ListN.{length, take, drop, take-append-drop}
use lib.Seq.{slice, length-slice, take-take}
use Rattle.records.specs.Records.{most_records}
use Rattle.turns.proofs.Running.{runs_one}
use Rattle.requests.specs.Requests.{Part, Run}

-- a list is its first bytes, those from there on up to another place, and the rest
in_three : (before count : ℕ) (l : List ℕ) → before ≤ count → l ≡ (take before l ++ slice before count l) ++ drop count l
in_three before count l h =
    sym (take-append-drop count l)
    ∙ ap (λ w. w ++ drop count l) (sym (take-append-drop before (take count l)) ∙ ap (λ w. w ++ slice before count l) (take-take before count l h))

-- two outcomes of one part are equal: how many are answered, the depth of the open panel, the buffer and the answers
pub part_one :
    {p b out u v x y : List ℕ} {ends : Bool} {before C n m D E : ℕ} → before ≤ min most_records (length out)
    → Part p ends before C b out n D u x → Part p ends before C b out m E v y
    → (n ≡ m) × (D ≡ E) × (u ≡ v) × (x ≡ y)
part_one {out = out} {x = x} {y = y} {before = before} {n = n} {m = m} r p q =
    let c : n ≡ m = p.all ∙ sym q.all in
    let h : before ≤ n = omega (arith, p.all, r) in
    let a = length-slice before n x (omega (arith, p.all, p.long)) in
    let d = length-slice before m y (omega (arith, q.all, q.long)) in
    let e = runs_one p.runs q.runs (a ∙ ap (λ z. z - before) c ∙ sym d) in
    let f : take before x ≡ take before y = p.front ∙ sym q.front in
    let l : drop n x ≡ drop m y = p.rest ∙ ap (λ z. drop z out) c ∙ sym q.rest in
    (c, e.1, e.2, in_three before n x h ∙ ap₂ (λ w z. w ++ z) (ap₂ (λ w z. w ++ z) f e.0) l ∙ sym (in_three before m y (omega (arith, h, c))))

-- and of the whole
pub run_one :
    {rs b out u v x y : List ℕ} {n m D E : ℕ} → Run rs b out n D u x → Run rs b out m E v y
    → (n ≡ m) × (D ≡ E) × (u ≡ v) × (x ≡ y)
run_one = part_one (omega arith)
