-- The invariant of `in_turn`: the answers written so far are those of the records so far, and one more.
use mathlib.Core.Path.{◌≡◌, sym, ap, ◌∙◌, subst, subst₂}
use Rattle.std.proofs.Common.{ℕ, ◌+◌, ◌<◌, List, [], ◌∷◌, ◌++◌, length, take, set, arith}
use Rattle.std.proofs.lemmas.Grind.{common_steps}
use Rattle.bits.specs.Bits.{Bytes}
use Rattle.records.specs.Records.{record_at}
use Rattle.records.specs.InTurn.InTurn.{more}
use Rattle.steps.specs.Steps.{Step}
use Rattle.turns.specs.Runs.{Runs}

-- record i of the code is r, answered m, which is written as n
pub filled_more :
    (given : List ℕ) (i : ℕ) {first last : ℕ} {rs b u v r : List ℕ} {C D E n m : ℕ} → Runs first last rs C b (take i given) D u → i < length given → r ≡ record_at rs i → n ≡ m
    → Step first last r D u m E v → Bytes v → Runs first last rs C b (take (i + 1) (set given i n)) E v
filled_more given i {first} {last} {rs} {b} {u} {v} {r} {C} {D} {E} {n} h l a d s y =
    let t : take i given ++ (n ∷ []) ≡ take (i + 1) (set given i n) = grind (arith, common_steps) in
    let j : length (take i given) ≡ i = grind (arith, common_steps) in
    let e : r ≡ record_at rs (length (take i given)) = a ∙ ap (record_at rs) (sym j) in
    subst (λ x. Runs first last rs C b x E v) t (more h (subst₂ (λ w k. Step first last w D u k E v) e (sym d) s, y))
