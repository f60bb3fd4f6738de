-- A test of each number of a range, in a chain: `(a..b).all(..)`.
use mathlib.Core.Bool.{Bool, true, false}
use mathlib.Core.List.{List}
use mathlib.Core.Path.{◌≡◌, refl, subst, subst⁻¹}
use Prim.Native.Nat.{ℕ, ◌+◌, ◌-◌, ◌≤◌, ◌<◌}
use native.Mathlib.Omega.{arith}
use lib.ListN.{length, get_or}
use denote.Param.Members.{Mut, Called}
use Rattle.std.specs.Bool.{MatchBool}
use Rattle.std.specs.Iterator.{YieldsThen}
use Rattle.std.specs.List.{FoldsTo, range_with_len, AllWithin, HoldsAt}
use Rattle.std.specs.Option.{MatchOption}
use Rattle.std.specs.Prelude.{Option}
use Rattle.std.specs.declared.ops.Range.{Range}
use Rattle.std.proofs.iter.Yields.{nat_range_steps}
use Rattle.std.proofs.lemmas.Iterator.{cases_from_all, YieldsList-from_range}
use Rattle.std.proofs.lemmas.List.FromFn.{length-range_with_len, get_or-range_with_len}
use Rattle.tables.specs.inner.Says.{Says}
use Rattle.tables.proofs.Tables.{says_yes, says_no}

-- it says whether P holds of them all, where each call says whether P holds of its number
pub says_each : {F : Type 0} {g : Mut F (ℕ × Unit {0}) Bool} (P : ℕ → Type 0) (s u : Range ℕ) (f : F) (r : Bool)
    → (xs : List ℕ) × (o : Option ℕ) × (j : F) × YieldsThen nat_range_steps s xs o u × FoldsTo (λ p x q. Called g p (x, tt) true q) f xs j
    × MatchOption o (r ≡ true) (λ x. (r ≡ false) × ((h : F) × Called g j (x, tt) false h))
    → ((x : ℕ) (q : F) → Called g f (x, tt) true q → (q ≡ f) × P x) → ((x : ℕ) (q : F) → Called g f (x, tt) false q → P x → ⊥)
    → Says ((k : ℕ) → s.start ≤ k → k < s.end → P k) r
says_each P s u f r ran right wrong = go r (cases_from_all u f r P (λ k. P k → ⊥) ran (YieldsList-from_range s.start s.end _ refl refl) right wrong)
  where
    all : List ℕ
    all = range_with_len s.start (s.end - s.start)

    long : length all ≡ s.end - s.start
    long = length-range_with_len s.start (s.end - s.start)

    at : (i : ℕ) → i < s.end - s.start → get_or all i 0 ≡ s.start + i
    at i l = get_or-range_with_len s.start (s.end - s.start) i 0 l

    go : (r : Bool) → MatchBool r (AllWithin P all 0 (length all)) ((i : ℕ) × (i < length all) × HoldsAt (λ k. P k → ⊥) all i) → Says ((k : ℕ) → s.start ≤ k → k < s.end → P k) r
    go true h = says_yes (λ k a b. subst P {x = get_or all (k - s.start) 0} {y = k} (omega (arith, at (k - s.start) (omega arith))) (h (k - s.start) 0 (omega arith) (omega (arith, long))))
    go false (i, l, h) = let q : i < s.end - s.start = omega (arith, long) in says_no (λ t. h 0 (subst⁻¹ P (at i q) (t (s.start + i) (omega arith) (omega arith))))
