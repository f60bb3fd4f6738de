-- Tests that compute, and what they say: the test of a whole is put together from the tests of its parts.
use mathlib.Core.Path.{◌≡◌, refl, ap₂}
use mathlib.Core.Bool.{Bool, true, false, not, ◌&&◌, ◌||◌, So, beq, false≢true}
use mathlib.Core.Logic.{◌⊎◌, inl, inr, ◌↔◌}
use mathlib.Core.List.{List, [], ◌∷◌}
use Prim.Native.Nat.{ℕ, zero, suc, ◌≤◌, ◌<◌}
use native.Mathlib.Decide.{ℕ_discrete, dec_lt}
use native.Mathlib.Omega.{arith}
use lib.Dec.{leb, ltb, eqb}
use borrow.Author.Tests.{leb-true, leb-false, ltb-true, ltb-false, eqb-true, eqb-false}
use Rattle.tables.specs.Table.{Row, Answers, Outcome}
use Rattle.tables.specs.inner.Says.{Says}
use Rattle.tables.proofs.Tables.{says_yes, says_no, is_done, is_refused}

-- ---- numbers

pub says_same : (a b : ℕ) → Says (a ≡ b) (eqb a b)
says_same a b = record { yes = eqb-true a b; no = eqb-false a b }

pub says_le : (a b : ℕ) → Says (a ≤ b) (leb a b)
says_le a b = record { yes = leb-true a b; no = λ e h. omega (arith, leb-false a b e) }

pub says_lt : (a b : ℕ) → Says (a < b) (ltb a b)
says_lt a b = record { yes = ltb-true a b; no = λ e h. omega (arith, ltb-false a b e) }

-- ---- parts

abbrev pub imply : Bool → Bool → Bool
imply a b = not a || b

module _ {P Q : Type 0} where
  pub says_iff : {b : Bool} → (P → Q) → (Q → P) → Says P b → Says Q b
  says_iff to from s = record { yes = λ e. to (s.yes e); no = λ e q. s.no e (from q) }

  pub says_and : {a b : Bool} → Says P a → Says Q b → Says (P × Q) (a && b)
  says_and {a = true} p q = record { yes = λ e. (p.yes refl, q.yes e); no = λ e x. q.no e x.1 }
  says_and {a = false} p q = says_no (λ x. p.no refl x.0)

  pub says_or : {a b : Bool} → Says P a → Says Q b → Says (P ⊎ Q) (a || b)
  says_or {a = true} p q = says_yes (inl (p.yes refl))
  says_or {a = false} p q = record {
    yes = λ e. inr (q.yes e);
    no = λ e x. elim x [ inl y ↦ p.no refl y | inr y ↦ q.no e y ];
  }

  pub says_imply : {a b : Bool} → Says P a → Says Q b → Says (P → Q) (imply a b)
  says_imply {a = true} p q = record { yes = λ e x. q.yes e; no = λ e f. q.no e (f (p.yes refl)) }
  says_imply {a = false} p q = says_yes (λ x. absurd (p.no refl x))

  -- two tests that answer alike
  pub alike : {a b : Bool} → Says P a → Says Q b → So (beq a b) → P ↔ Q
  alike {a = true} {b = true} p q e = (λ _. q.yes refl, λ _. p.yes refl)
  alike {a = true} {b = false} p q e = absurd (false≢true e)
  alike {a = false} {b = true} p q e = absurd (false≢true e)
  alike {a = false} {b = false} p q e = (λ x. absurd (p.no refl x), λ x. absurd (q.no refl x))

pub says_not : {P : Type 0} {a : Bool} → Says P a → Says (P → ⊥) (not a)
says_not {a = true} p = says_no (λ f. f (p.yes refl))
says_not {a = false} p = says_yes (p.no refl)

-- where only the answer yes is asked for
infixl 35 ◌and◌
pub ◌and◌ : {P Q : Type 0} {a b : Bool} → (So a → P) → (So b → Q) → So (a && b) → P × Q
◌and◌ {a = true} p q e = (p refl, q e)
◌and◌ {a = false} p q e = absurd (false≢true e)

pub or_shown : {P : Type 0} {a b : Bool} → (So a → P) → (So b → P) → So (a || b) → P
or_shown {a = true} p q e = p refl
or_shown {a = false} p q e = q e

pub imply_shown : {P Q : Type 0} {a b : Bool} → Says P a → (So b → Q) → So (imply a b) → P → Q
imply_shown {a = true} p q e x = q e
imply_shown {a = false} p q e x = absurd (p.no refl x)

-- ---- all numbers below m

unfoldable pub up_to : ℕ → (ℕ → Bool) → Bool
up_to zero f = true
up_to (suc m) f = f m && up_to m f

pub shows_all : {P : ℕ → Type 0} {f : ℕ → Bool} (m : ℕ) → ((n : ℕ) → So (f n) → P n) → So (up_to m f) → (n : ℕ) → n < m → P n
unfolding up_to
shows_all zero s e n h = absurd (omega arith)
shows_all {P} (suc m) s e n h = let (p, q) = (s m and shows_all m s) e in go p (q n) (ℕ_discrete n m)
  where
    go : P m → (n < m → P n) → Dec (n ≡ m) → P n
    go p q (yes r) = rw r p
    go p q (no r) = q (omega arith)

-- a set of numbers below m, and the test of each number
pub record Decided (m : ℕ) (P : ℕ → Type 0) (f : ℕ → Bool) : Type 0 where
  pub says : (n : ℕ) → Says (P n) (f n)
  pub high : (n : ℕ) → P n → n < m

pub same_sets : {m : ℕ} {P Q : ℕ → Type 0} {f g : ℕ → Bool} → Decided m P f → Decided m Q g
    → So (up_to m (λ n. beq (f n) (g n))) → (n : ℕ) → P n ↔ Q n
same_sets {m} {P} {Q} p q e n = go (dec_lt n m)
  where
    go : Dec (n < m) → P n ↔ Q n
    go (yes h) = shows_all m (λ i. alike (p.says i) (q.says i)) e n h
    go (no h) = (λ x. absurd (h (p.high n x)), λ x. absurd (h (q.high n x)))

-- ---- lists

unfoldable pub same_list : {A : Type 0} → (A → A → Bool) → List A → List A → Bool
same_list f [] [] = true
same_list f [] (y ∷ ys) = false
same_list f (x ∷ xs) [] = false
same_list f (x ∷ xs) (y ∷ ys) = f x y && same_list f xs ys

pub same_list_lem : {A : Type 0} {f : A → A → Bool} → ((x y : A) → So (f x y) → x ≡ y) → (xs ys : List A) → So (same_list f xs ys) → xs ≡ ys
unfolding same_list
same_list_lem s [] [] e = refl
same_list_lem s [] (y ∷ ys) e = absurd (false≢true e)
same_list_lem s (x ∷ xs) [] e = absurd (false≢true e)
same_list_lem s (x ∷ xs) (y ∷ ys) e = let (p, q) = (s x y and same_list_lem s xs ys) e in ap₂ (λ a b. a ∷ b) p q

-- ---- a table of refusals

-- each row has its test, where the rows before it pass
abbrev pub Tested : List Row → List Bool → Type 0
Tested [] bs = Unit {0}
Tested (r ∷ rows) [] = ⊥
Tested (r ∷ rows) (b ∷ bs) = Says r.passes b × (r.passes → Tested rows bs)

-- the number of the first row whose test fails, or 0
unfoldable pub first_no : List Row → List Bool → ℕ
first_no [] bs = 0
first_no (r ∷ rows) [] = 0
first_no (r ∷ rows) (true ∷ bs) = first_no rows bs
first_no (r ∷ rows) (false ∷ bs) = r.number

pub answered : (rows : List Row) (bs : List Bool) → Tested rows bs → Answers rows (first_no rows bs)
unfolding first_no
answered [] bs t = refl
answered (r ∷ rows) [] t = absurd t
answered (r ∷ rows) (true ∷ bs) t = let p = t.0.yes refl in inr (p, answered rows bs (t.1 p))
answered (r ∷ rows) (false ∷ bs) t = inl (t.0.no refl, refl)

-- the test of what is done, or of what is refused, by the answer
abbrev pub by_answer : ℕ → Bool → Bool → Bool
by_answer zero d r = d
by_answer (suc n) d r = r

pub outcome_shown : {rows : List Row} {A : Type 0} {Done Refused : A → Type 0} {x : A} (n : ℕ) {d r : Bool}
    → Answers rows n → (So d → Done x) → (So r → Refused x) → So (by_answer n d r) → Outcome rows A Done Refused n x
outcome_shown zero a f g e = is_done a (f e)
outcome_shown (suc n) a f g e = is_refused (omega arith) a (g e)
