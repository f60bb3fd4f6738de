-- Records in turn: one outcome where each step has one, what every step keeps, and records of bytes put together.
use mathlib.Core.Path.{◌≡◌, refl, ap, ap₂, ◌∙◌, subst, subst⁻¹, subst₂}
use mathlib.Core.List.{List, [], ◌∷◌, ◌++◌, append_assoc, append-nil}
use Prim.Native.Nat.{ℕ, ◌+◌, ◌*◌, ◌≤◌, ◌<◌}
use native.Mathlib.Omega.{arith}
use lib.ListN.{length, take, drop, length-append, length-drop}
use lib.Seq.{take-append-le, drop-append-le, drop-append-add}
use Rattle.records.specs.Records.{record_at}
use Rattle.records.specs.InTurn.{InTurn}
use Rattle.records.specs.InTurn.InTurn.{none, more}

-- ---- records of bytes put together

record_before : (rs p : List ℕ) (i : ℕ) → 8 * i + 8 ≤ length rs → record_at (rs ++ p) i ≡ record_at rs i
record_before rs p i h =
    ap (take 8) (drop-append-le (8 * i) rs p (omega arith)) ∙ take-append-le 8 (drop (8 * i) rs) p (omega (arith, length-drop (8 * i) rs))

pub record_behind : (rs p : List ℕ) (n j : ℕ) → 8 * n ≡ length rs → record_at (rs ++ p) (n + j) ≡ record_at p j
record_behind rs p n j e =
    let k : 8 * (n + j) ≡ length rs + 8 * j = omega (arith, e) in
    ap (λ x. take 8 (drop x (rs ++ p))) k ∙ ap (take 8) (drop-append-add rs p (8 * j))

module _ {S : Type 0} {Step : List ℕ → S → ℕ → S → Type 0} where
  -- what every step keeps, records in turn keep
  pub turns_keep : {rs given : List ℕ} {s t : S} (P : S → Type 0) → ((r : List ℕ) (n : ℕ) (x y : S) → P x → Step r x n y → P y)
      → P s → InTurn S Step rs s given t → P t
  turns_keep {rs} {s = s} P f h r = go r
    where
      go : {given : List ℕ} {t : S} → InTurn S Step rs s given t → P t
      go none = h
      go (more q x) = f _ _ _ _ (go q) x

  -- as many answers are the same answers, and leave the same
  pub turns_one : {rs xs ys : List ℕ} {s t u : S} → ((r : List ℕ) (n m : ℕ) (x y z : S) → Step r x n y → Step r x m z → (n ≡ m) × (y ≡ z))
      → InTurn S Step rs s xs t → InTurn S Step rs s ys u → length xs ≡ length ys → (xs ≡ ys) × (t ≡ u)
  turns_one {rs} {s = s} f a b e = go a b e
    where
      go : {xs ys : List ℕ} {t u : S} → InTurn S Step rs s xs t → InTurn S Step rs s ys u → length xs ≡ length ys → (xs ≡ ys) × (t ≡ u)
      go none none e = (refl, refl)
      go none (more {given = h} {n = m} q y) e = absurd (omega (arith, length-append h (m ∷ [])))
      go (more {given = g} {n = n} p x) none e = absurd (omega (arith, length-append g (n ∷ [])))
      go (more {given = g} {n = n} {u = u} p x) (more {given = h} {n = m} q y) e =
          let l : length g ≡ length h = omega (arith, length-append g (n ∷ []), length-append h (m ∷ [])) in
          let i = go p q l in
          let o = f _ _ _ _ _ _ (subst₂ (λ w z. Step (record_at rs (length w)) z n u) i.0 i.1 x) y in
          (ap₂ (λ w k. w ++ (k ∷ [])) i.0 o.0, o.1)

  -- bytes behind the records answered change nothing
  pub turns_longer : {rs xs : List ℕ} {s t : S} (p : List ℕ) → InTurn S Step rs s xs t → 8 * length xs ≤ length rs → InTurn S Step (rs ++ p) s xs t
  turns_longer {rs} {s = s} p a h = go a h
    where
      go : {xs : List ℕ} {t : S} → InTurn S Step rs s xs t → 8 * length xs ≤ length rs → InTurn S Step (rs ++ p) s xs t
      go none h = none
      go (more {given = g} {n = n} {t = t} {u = u} q x) h =
          let l = length-append g (n ∷ []) in
          more (go q (omega (arith, h, l))) (subst⁻¹ (λ r. Step r t n u) (record_before rs p (length g) (omega (arith, h, l))) x)

  -- records that go on where others end
  pub turns_then : {rs p xs ys : List ℕ} {s t u : S} → InTurn S Step rs s xs t
      → ((j : ℕ) → j < length ys → record_at rs (length xs + j) ≡ record_at p j) → InTurn S Step p t ys u → InTurn S Step rs s (xs ++ ys) u
  turns_then {rs} {p} {xs = xs} {s = s} {t = t} r h a = go h a
    where
      go : {ys : List ℕ} {u : S} → ((j : ℕ) → j < length ys → record_at rs (length xs + j) ≡ record_at p j) → InTurn S Step p t ys u → InTurn S Step rs s (xs ++ ys) u
      go h none = subst⁻¹ (λ x. InTurn S Step rs s x t) (append-nil xs) r
      go h (more {given = g} {n = n} {t = v} {u = u} q x) =
          let l = length-append g (n ∷ []) in
          let e : record_at rs (length (xs ++ g)) ≡ record_at p (length g) = ap (record_at rs) (length-append xs g) ∙ h (length g) (omega (arith, l)) in
          subst (λ w. InTurn S Step rs s w u) (append_assoc xs g (n ∷ []))
          (more (go (λ j k. h j (omega (arith, l, k))) q) (subst⁻¹ (λ r. Step r v n u) e x))
