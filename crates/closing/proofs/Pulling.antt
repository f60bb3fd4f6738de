-- Each bit of a word that was pulled has its sources, and for the masks of a drawn word these are the bits across from it.
use mathlib.Core.Path.{◌≡◌, refl, sym, ap, ◌∙◌, subst}
use mathlib.Core.Logic.{◌⊎◌, inl, inr, ⊎_elim, ◌↔◌}
use mathlib.Core.List.{List, [], ◌∷◌, ◌++◌}
use Prim.Native.Nat.{ℕ, zero, suc, ◌+◌, ◌-◌, ◌*◌, ◌/◌, ◌%◌, ◌^◌, ◌≤◌, ◌<◌}
use native.Mathlib.Nat.{zero-div}
use native.Mathlib.Decide.{dec_le}
use native.Mathlib.Omega.{arith}
use lib.Bits.{bit_and, bit_or}
use Rattle.bits.specs.Bits.{digit}
use Rattle.bits.proofs.Laws.{digit_lt, digit-mod, digit_shift}
use Rattle.bits.proofs.Digitwise.{and_set, or_set, shl_digit}
use Rattle.closing.specs.inner.Wordwise.{SetIn, placed, sources, Pulled, Met, WordDrawn}

-- ---- sources

set_in-++ : (x : ℕ) (is js : List ℕ) → SetIn x (is ++ js) ↔ (SetIn x is ⊎ SetIn x js)
set_in-++ x [] js = (inr, ⊎_elim (λ z. absurd z) (λ s. s))
set_in-++ x (i ∷ is) js =
    let e = set_in-++ x is js in
    (⊎_elim (λ s. inl (inl s)) (λ s. ⊎_elim (λ t. inl (inr t)) inr (e.0 s)), ⊎_elim (⊎_elim inl (λ s. inr (e.1 (inl s)))) (λ s. inr (e.1 (inr s))))

set-placed : (x b i : ℕ) → b < 2 → SetIn x (placed b i) ↔ ((b ≡ 1) × (digit x i ≡ 1))
set-placed x zero i l = (λ z. absurd z, λ s. absurd (omega (arith, s.0)))
set-placed x (suc zero) i l = (⊎_elim (λ s. (refl, s)) (λ z. absurd z), λ s. inl s.1)
set-placed x (suc (suc b)) i l = absurd (omega arith)

-- ---- the machine's word

module _ (b y k up down : ℕ) (above : up % 2 ^ k ≡ 0) where
  -- no bit of up stands lower than k
  up_above : (p : ℕ) → digit up p ≡ 1 → k ≤ p
  up_above p s = go (dec_le k p)
    where
      go : Dec (k ≤ p) → k ≤ p
      go (yes l) = l
      go (no l) = absurd (omega (arith, digit-mod up p k (omega arith), ap (λ (n : ℕ). digit n p) above, ap (λ (n : ℕ). n % 2) (zero-div (2 ^ p))))

  module _ (p : ℕ) (l : p < 32) where
    from_below : (digit (bit_and (y * 2 ^ k % 2 ^ 32) up) p ≡ 1) ↔ SetIn y (placed (digit up p) (p - k))
    from_below =
        let a = and_set (y * 2 ^ k % 2 ^ 32) up p in
        let e = set-placed y (digit up p) (p - k) (digit_lt up p) in (
          λ s. let (d, u) = a.0 s in e.1 (u, sym (shl_digit y k 32 p l (up_above p u)) ∙ d),
          λ s. let (u, d) = e.0 s in a.1 (shl_digit y k 32 p l (up_above p u) ∙ d, u),
        )

    from_above : (digit (bit_and (y / 2 ^ k) down) p ≡ 1) ↔ SetIn y (placed (digit down p) (p + k))
    from_above =
        let a = and_set (y / 2 ^ k) down p in
        let e = set-placed y (digit down p) (p + k) (digit_lt down p) in
        let f : digit (y / 2 ^ k) p ≡ digit y (p + k) = digit_shift y k p ∙ ap (digit y) (let g : k + p ≡ p + k = omega arith in g) in (
          λ s. let (d, u) = a.0 s in e.1 (u, sym f ∙ d),
          λ s. let (u, d) = e.0 s in a.1 (f ∙ d, u),
        )

  pub pulled : Pulled b y k up down (bit_or (bit_or b (bit_and (y * 2 ^ k % 2 ^ 32) up)) (bit_and (y / 2 ^ k) down))
  pulled = record {
    at = λ p l.
        let A : ℕ = bit_and (y * 2 ^ k % 2 ^ 32) up in
        let B : ℕ = bit_and (y / 2 ^ k) down in
        let o = or_set (bit_or b A) B p in
        let i = or_set b A p in
        let e = set_in-++ y (placed (digit up p) (p - k)) (placed (digit down p) (p + k)) in (
          λ s. ⊎_elim (λ t. ⊎_elim inl (λ u. inr (e.1 (inl ((from_below p l).0 u)))) (i.0 t)) (λ u. inr (e.1 (inr ((from_above p l).0 u)))) (o.0 s),
          ⊎_elim (λ t. o.1 (inl (i.1 (inl t)))) (λ u. ⊎_elim (λ v. o.1 (inl (i.1 (inr ((from_below p l).1 v))))) (λ v. o.1 (inr ((from_above p l).1 v))) (e.0 u)),
        );
  }

-- ---- tables, compared entry by entry

abbrev table : (n : ℕ) → (ℕ → List ℕ) → List (List ℕ)
table zero f = []
table (suc n) f = f 0 ∷ table n (λ i. f (suc i))

abbrev first : List (List ℕ) → List ℕ
first [] = []
first (x ∷ xs) = x

abbrev others : List (List ℕ) → List (List ℕ)
others [] = []
others (x ∷ xs) = xs

same_entry : (n : ℕ) (f g : ℕ → List ℕ) → table n f ≡ table n g → (i : ℕ) → i < n → f i ≡ g i
same_entry zero f g e i l = absurd (omega arith)
same_entry (suc n) f g e zero l = ap first e
same_entry (suc n) f g e (suc i) l = same_entry n (λ j. f (suc j)) (λ j. g (suc j)) (ap others e) i (omega arith)

-- ---- a drawn word

-- the sources of bit p inside the word, across from it, and among the children
abbrev near : ℕ → List ℕ
near p = sources 2 0x20222020 0x08088808 p ++ sources 14 0x00800000 0x00000200 p

abbrev far : ℕ → List ℕ
far p = sources 30 0x80000000 0x00000002 p ++ sources 18 0x02000000 0x00000080 p

abbrev children : ℕ → List ℕ
children p = sources 1 0x44444444 0x44444444 p

even_near : (c : ℕ) → c < 16 → near (2 * c) ≡ []
even_near = same_entry 16 (λ c. near (2 * c)) (λ c. []) refl

even_far : (c : ℕ) → c < 16 → far (2 * c) ≡ []
even_far = same_entry 16 (λ c. far (2 * c)) (λ c. []) refl

odd_children : (c : ℕ) → c < 16 → children (2 * c + 1) ≡ []
odd_children = same_entry 16 (λ c. children (2 * c + 1)) (λ c. []) refl

two_children : (c : ℕ) → c < 8 → children (4 * c + 2) ≡ (4 * c + 1) ∷ (4 * c + 3) ∷ []
two_children = same_entry 8 (λ c. children (4 * c + 2)) (λ c. (4 * c + 1) ∷ (4 * c + 3) ∷ []) refl

no_children : (c : ℕ) → c < 8 → children (4 * c) ≡ []
no_children = same_entry 8 (λ c. children (4 * c)) (λ c. []) refl

module _ {b y a₁ a₂ a₃ a₄ r : ℕ} (p₁ : Pulled b b 2 0x20222020 0x08088808 a₁) (p₂ : Pulled a₁ b 14 0x00800000 0x00000200 a₂)
    (p₃ : Pulled a₂ y 30 0x80000000 0x00000002 a₃) (p₄ : Pulled a₃ y 18 0x02000000 0x00000080 a₄) (p₅ : Pulled a₄ a₄ 1 0x44444444 0x44444444 r) where
  -- before the parents
  met : (p : ℕ) → p < 32 → (digit a₄ p ≡ 1) ↔ ((digit b p ≡ 1) ⊎ (SetIn b (near p) ⊎ SetIn y (far p)))
  met p l =
      let n = set_in-++ b (sources 2 0x20222020 0x08088808 p) (sources 14 0x00800000 0x00000200 p) in
      let f = set_in-++ y (sources 30 0x80000000 0x00000002 p) (sources 18 0x02000000 0x00000080 p) in
      let e₁ = p₁.at p l in
      let e₂ = p₂.at p l in
      let e₃ = p₃.at p l in
      let e₄ = p₄.at p l in (
        λ s. ⊎_elim (λ s. ⊎_elim (λ s. ⊎_elim (λ s. ⊎_elim inl (λ t. inr (inl (n.1 (inl t)))) (e₁.0 s)) (λ t. inr (inl (n.1 (inr t)))) (e₂.0 s)) (λ t. inr (inr (f.1 (inl t)))) (e₃.0 s)) (λ t. inr (inr (f.1 (inr t)))) (e₄.0 s),
        ⊎_elim (λ s. e₄.1 (inl (e₃.1 (inl (e₂.1 (inl (e₁.1 (inl s))))))))
            (⊎_elim (λ t. e₄.1 (inl (e₃.1 (inl (⊎_elim (λ u. e₂.1 (inl (e₁.1 (inr u)))) (λ u. e₂.1 (inr u)) (n.0 t))))))
            (λ t. ⊎_elim (λ u. e₄.1 (inl (e₃.1 (inr u)))) (λ u. e₄.1 (inr u)) (f.0 t))),
      )

  -- an odd bit, with one source inside or one across
  odd_same : (c : ℕ) → c < 16 → (digit r (2 * c + 1) ≡ 1) ↔ (digit a₄ (2 * c + 1) ≡ 1)
  odd_same c l =
      let e = p₅.at (2 * c + 1) (omega arith) in
      (λ s. ⊎_elim (λ t. t) (λ t. absurd (subst (SetIn a₄) (odd_children c l) t)) (e.0 s), λ s. e.1 (inl s))

  from_near : (c i : ℕ) → c < 16 → near (2 * c + 1) ≡ i ∷ [] → far (2 * c + 1) ≡ [] → (digit r (2 * c + 1) ≡ 1) ↔ ((digit b (2 * c + 1) ≡ 1) ⊎ (digit b i ≡ 1))
  from_near c i l n f =
      let o = odd_same c l in
      let e = met (2 * c + 1) (omega arith) in (
        λ s. ⊎_elim inl (⊎_elim (λ t. inr (⊎_elim (λ u. u) (λ z. absurd z) (subst (SetIn b) n t))) (λ t. absurd (subst (SetIn y) f t))) (e.0 (o.0 s)),
        ⊎_elim (λ s. o.1 (e.1 (inl s))) (λ s. o.1 (e.1 (inr (inl (subst (SetIn b) (sym n) (inl s)))))),
      )

  from_far : (c i : ℕ) → c < 16 → near (2 * c + 1) ≡ [] → far (2 * c + 1) ≡ i ∷ [] → (digit r (2 * c + 1) ≡ 1) ↔ ((digit b (2 * c + 1) ≡ 1) ⊎ (digit y i ≡ 1))
  from_far c i l n f =
      let o = odd_same c l in
      let e = met (2 * c + 1) (omega arith) in (
        λ s. ⊎_elim inl (⊎_elim (λ t. absurd (subst (SetIn b) n t)) (λ t. inr (⊎_elim (λ u. u) (λ z. absurd z) (subst (SetIn y) f t)))) (e.0 (o.0 s)),
        ⊎_elim (λ s. o.1 (e.1 (inl s))) (λ s. o.1 (e.1 (inr (inr (subst (SetIn y) (sym f) (inl s)))))),
      )

  -- an even bit has no source but children
  even_same : (c : ℕ) → c < 16 → (digit a₄ (2 * c) ≡ 1) ↔ (digit b (2 * c) ≡ 1)
  even_same c l =
      let e = met (2 * c) (omega arith) in
      (λ s. ⊎_elim (λ t. t) (⊎_elim (λ t. absurd (subst (SetIn b) (even_near c l) t)) (λ t. absurd (subst (SetIn y) (even_far c l) t))) (e.0 s), λ s. e.1 (inl s))

  near_pair : (c d : ℕ) → c < 16 → d < 16 → near (2 * c + 1) ≡ (2 * d + 1) ∷ [] → far (2 * c + 1) ≡ [] → near (2 * d + 1) ≡ (2 * c + 1) ∷ [] → far (2 * d + 1) ≡ [] → Met b b r (2 * c + 1) (2 * d + 1)
  near_pair c d k l n f m g = record { there = from_near c (2 * d + 1) k n f; back = from_near d (2 * c + 1) l m g }

  far_pair : (c d : ℕ) → c < 16 → d < 16 → near (2 * c + 1) ≡ [] → far (2 * c + 1) ≡ (2 * d + 1) ∷ [] → near (2 * d + 1) ≡ [] → far (2 * d + 1) ≡ (2 * c + 1) ∷ [] → Met b y r (2 * c + 1) (2 * d + 1)
  far_pair c d k l n f m g = record { there = from_far c (2 * d + 1) k n f; back = from_far d (2 * c + 1) l m g }

  pub word_drawn : WordDrawn b y r
  word_drawn = record {
    middle = middle;
    inner = near_pair 7 8 (omega arith) (omega arith) refl refl refl refl;
    outer = near_pair 4 11 (omega arith) (omega arith) refl refl refl refl;
    outermost = far_pair 0 15 (omega arith) (omega arith) refl refl refl refl;
    next = far_pair 3 12 (omega arith) (omega arith) refl refl refl refl;
    parents = parents;
    rest = rest;
  }
    where
      middle : (i : ℕ) → i < 4 → Met b b r (8 * i + 3) (8 * i + 5)
      middle zero l = near_pair 1 2 (omega arith) (omega arith) refl refl refl refl
      middle (suc zero) l = near_pair 5 6 (omega arith) (omega arith) refl refl refl refl
      middle (suc (suc zero)) l = near_pair 9 10 (omega arith) (omega arith) refl refl refl refl
      middle (suc (suc (suc zero))) l = near_pair 13 14 (omega arith) (omega arith) refl refl refl refl
      middle (suc (suc (suc (suc i)))) l = absurd (omega arith)

      at : (p q : ℕ) → p ≡ q → (u v : ℕ) → (digit u p ≡ 1) ↔ (digit v p ≡ 1) → (digit u q ≡ 1) ↔ (digit v q ≡ 1)
      at p q e u v = subst (λ x. (digit u x ≡ 1) ↔ (digit v x ≡ 1)) e

      parents : (c : ℕ) → c < 8 → (digit r (4 * c + 2) ≡ 1) ↔ ((digit b (4 * c + 2) ≡ 1) ⊎ ((digit r (4 * c + 1) ≡ 1) ⊎ (digit r (4 * c + 3) ≡ 1)))
      parents c l =
          let e = p₅.at (4 * c + 2) (omega arith) in
          let own = at (2 * (2 * c + 1)) (4 * c + 2) (omega arith) a₄ b (even_same (2 * c + 1) (omega arith)) in
          let left = at (2 * (2 * c) + 1) (4 * c + 1) (omega arith) r a₄ (odd_same (2 * c) (omega arith)) in
          let right = at (2 * (2 * c + 1) + 1) (4 * c + 3) (omega arith) r a₄ (odd_same (2 * c + 1) (omega arith)) in (
            λ s. ⊎_elim (λ t. inl (own.0 t)) (λ t. inr (⊎_elim (λ u. inl (left.1 u)) (⊎_elim (λ u. inr (right.1 u)) (λ z. absurd z)) (subst (SetIn a₄) (two_children c l) t))) (e.0 s),
            ⊎_elim (λ s. e.1 (inl (own.1 s))) (λ s. e.1 (inr (subst (SetIn a₄) (sym (two_children c l)) (⊎_elim (λ u. inl (left.0 u)) (λ u. inr (inl (right.0 u))) s)))),
          )

      rest : (c : ℕ) → c < 8 → (digit r (4 * c) ≡ 1) ↔ (digit b (4 * c) ≡ 1)
      rest c l =
          let e = p₅.at (4 * c) (omega arith) in
          let own = at (2 * (2 * c)) (4 * c) (omega arith) a₄ b (even_same (2 * c) (omega arith)) in
          (λ s. ⊎_elim own.0 (λ t. absurd (subst (SetIn a₄) (no_children c l) t)) (e.0 s), λ s. e.1 (inl (own.1 s)))
