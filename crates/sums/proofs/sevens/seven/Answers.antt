-- The two tables' rule is a test of the seven sums at each x below 256, which antt computes.
use mathlib.Core.Path.{◌≡◌, subst}
use mathlib.Core.Logic.{⊎_elim}
use mathlib.Core.Bool.{Bool, true, false, ◌&&◌}
use mathlib.Core.List.{List, [], ◌∷◌}
use Prim.Native.Nat.{ℕ, zero, suc, ◌+◌, ◌*◌, ◌/◌, ◌%◌, ◌<◌}
use native.Mathlib.Omega.{arith}
use lib.Dec.{T, eqb, ltb, eqb→eq, ltb→lt}
use lib.ListN.{get_or}
use borrow.Author.Rules.{rules}
use Rattle.bits.proofs.Laws.{le_or_lt}
use Rattle.bits.specs.inner.Abreast.{part}
use Rattle.sums.specs.inner.Rows.{PairSums, Sevens}
use Rattle.sums.proofs.sevens.seven.Goals as goal

both : (a b : Bool) → T (a && b) → T a × T b
both true b t = (tt, t)
both false b t = absurd t

-- the test f passes at each number below n
abbrev every : (ℕ → Bool) → ℕ → Bool
every f zero = true
every f (suc n) = f n && every f n

every_at : (f : ℕ → Bool) (n : ℕ) → T (every f n) → (k : ℕ) → k < n → T (f k)
every_at f zero t k h = absurd (omega arith)
every_at f (suc n) t k h =
    ⊎_elim (λ l. let e : n ≡ k = omega arith in subst (λ (m : ℕ). T (f m)) e (both (f n) (every f n) t).0)
    (λ l. every_at f n (both (f n) (every f n) t).1 k l) (le_or_lt n k)

abbrev pairs : ℕ → ℕ → ℕ → ℕ → Bool
pairs n w x y = every (λ i. eqb (part (w + 1) y i) (part w x (2 * i) + part w x (2 * i + 1))) n

pairs_are : (n w x y : ℕ) → T (pairs n w x y) → PairSums n w x y
pairs_are n w x y t i l = eqb→eq _ _ (every_at (λ i. eqb (part (w + 1) y i) (part w x (2 * i) + part w x (2 * i + 1))) n t i l)

abbrev sevens : ℕ → ℕ → Bool
sevens x n = ltb n 262144 && (pairs 4 1 x (n % 256) && (pairs 2 2 (n % 256) (n / 256 % 64) && pairs 1 3 (n / 256 % 64) (n / 16384)))

sevens_are : (x n : ℕ) → T (sevens x n) → Sevens x n
sevens_are x n t =
    let (a, p) = both (ltb n 262144) _ t in
    let (b, q) = both (pairs 4 1 x (n % 256)) _ p in
    let (c, d) = both (pairs 2 2 (n % 256) (n / 256 % 64)) _ q in
    record {
      small = ltb→lt n 262144 a;
      right = record {
        four = pairs_are 4 1 x (n % 256) b;
        two = pairs_are 2 2 (n % 256) (n / 256 % 64) c;
        one = pairs_are 1 3 (n / 256 % 64) (n / 16384) d;
      };
    }

-- the tables
abbrev first : List ℕ
first = 0 ∷ 16641 ∷ 16641 ∷ 33282 ∷ 16644 ∷ 33285 ∷ 33285 ∷ 49926 ∷ 16644 ∷ 33285 ∷ 33285 ∷ 49926 ∷ 33288 ∷ 49929 ∷ 49929 ∷ 66570 ∷ []

abbrev last : List ℕ
last = 0 ∷ 18448 ∷ 18448 ∷ 36896 ∷ 18496 ∷ 36944 ∷ 36944 ∷ 55392 ∷ 18496 ∷ 36944 ∷ 36944 ∷ 55392 ∷ 36992 ∷ 55440 ∷ 55440 ∷ 73888 ∷ []

right : (x : ℕ) → x < 256 → Sevens x (get_or first (x % 16) 0 + get_or last (x / 16) 0)
right x h = sevens_are x _ (every_at (λ x. sevens x (get_or first (x % 16) 0 + get_or last (x / 16) 0)) 256 tt x h)

pub returns : goal.returns
returns c = right c.args.x (search rules)

pub overflow_add-result : goal.overflow_add-result
overflow_add-result c = omega (arith, (right c.args.x (search rules)).small)
