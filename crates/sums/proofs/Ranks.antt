-- Laws of rank, over any bits f by place: it grows by one at each set bit, so each number below the count is the rank of exactly one.
use mathlib.Core.Path.{◌≡◌, refl, ap}
use mathlib.Core.Logic.{◌↔◌}
use Prim.Native.Nat.{ℕ, zero, suc, ◌+◌, ◌-◌, ◌≤◌, ◌<◌}
use native.Mathlib.Nat.{add-zero, add-suc, le_dest}
use native.Mathlib.Numerals.{add-one}
use native.Mathlib.Decide.{dec_lt}
use native.Mathlib.Omega.{arith}
use Rattle.sums.specs.Rank.{rank}

-- every bit is 0 or 1
abbrev pub Bits : (ℕ → ℕ) → Type 0
Bits f = (p : ℕ) → f p ≤ 1

module _ (f : ℕ → ℕ) where
  pub rank-none : rank f 0 ≡ 0
  unfolding rank
  rank-none = refl

  pub rank_next : (p : ℕ) → rank f (p + 1) ≡ rank f p + f p
  unfolding rank
  rank_next p = ap (rank f) (add-one p)

  -- left of p, and the m from p on
  pub rank-add : (p m : ℕ) → rank f (p + m) ≡ rank f p + rank (λ i. f (p + i)) m
  unfolding rank
  rank-add p zero = rw (add-zero p) (omega arith)
  rank-add p (suc m) = rw add-suc (omega (arith, rank-add p m))

  pub rank_mono : (p q : ℕ) → p ≤ q → rank f p ≤ rank f q
  rank_mono p q h = let (m, e) = le_dest h in omega (arith, rank-add p m, ap (rank f) e)

  -- a set bit counts for all places right of it
  pub rank_lt : (p q : ℕ) → f p ≡ 1 → p < q → rank f p < rank f q
  rank_lt p q s h = omega (arith, rank_next p, rank_mono (p + 1) q (omega arith))

  -- the set bits stand in the order of their ranks
  pub rank_order : (p q : ℕ) → f p ≡ 1 → (p < q) ↔ (rank f p < rank f q)
  rank_order p q s = (rank_lt p q s, λ h. go h (dec_lt p q))
    where
      go : rank f p < rank f q → Dec (p < q) → p < q
      go h (yes l) = l
      go h (no l) = absurd (omega (arith, rank_mono q p (omega arith)))

  -- no two set bits have the same rank
  pub rank_inj : (p q : ℕ) → f p ≡ 1 → f q ≡ 1 → rank f p ≡ rank f q → p ≡ q
  rank_inj p q s t e = go (dec_lt p q) (dec_lt q p)
    where
      go : Dec (p < q) → Dec (q < p) → p ≡ q
      go (yes l) y = absurd (omega (arith, rank_lt p q s l))
      go (no l) (yes y) = absurd (omega (arith, rank_lt q p t y))
      go (no l) (no y) = omega arith

  -- each number below the count is the rank of a set bit
  pub select : Bits f → (m i : ℕ) → i < rank f m → (p : ℕ) × (p < m) × (f p ≡ 1) × (rank f p ≡ i)
  unfolding rank
  select two zero i h = absurd (omega arith)
  select two (suc m) i h = go (select two m i) (dec_lt i (rank f m))
    where
      go : (i < rank f m → (p : ℕ) × (p < m) × (f p ≡ 1) × (rank f p ≡ i)) → Dec (i < rank f m) → (p : ℕ) × (p < suc m) × (f p ≡ 1) × (rank f p ≡ i)
      go ih (yes q) = let (p, l, s, e) = ih q in (p, omega arith, s, e)
      go ih (no q) = (m, omega arith, omega (arith, two m), omega (arith, two m))

-- the same bits have the same ranks
pub rank_ext : (f g : ℕ → ℕ) (m : ℕ) → ((p : ℕ) → p < m → f p ≡ g p) → rank f m ≡ rank g m
unfolding rank
rank_ext f g zero h = refl
rank_ext f g (suc m) h = omega (arith, rank_ext f g m (λ p l. h p (omega arith)), h m (omega arith))

-- more bits have a higher rank, but for the first bit of each
pub rank_first : (f g : ℕ → ℕ) (m : ℕ) → 0 < m → ((p : ℕ) → 0 < p → p < m → f p ≤ g p) → rank f m + g 0 ≤ rank g m + f 0
unfolding rank
rank_first f g zero z h = absurd (omega arith)
rank_first f g (suc zero) z h = omega arith
rank_first f g (suc (suc m)) z h =
    omega (arith, rank_first f g (suc m) (omega arith) (λ p a l. h p a (omega arith)), h (suc m) (omega arith) (omega arith))

-- the first bit is one of the bits
pub first_counts : (f : ℕ → ℕ) (m : ℕ) → 0 < m → f 0 ≤ rank f m
first_counts f m h = omega (arith, rank-none f, rank_next f 0, rank_mono f (0 + 1) m (omega arith))

-- the same bits, but for the first, have the same rank without it
pub rank_rest : (f g : ℕ → ℕ) (m : ℕ) → 0 < m → ((p : ℕ) → 0 < p → p < m → f p ≡ g p) → rank f m - f 0 ≡ rank g m - g 0
rank_rest f g m z e =
    omega (
      arith,
      rank_first f g m z (λ p a h. omega (arith, e p a h)),
      rank_first g f m z (λ p a h. omega (arith, e p a h)),
      first_counts f m z,
      first_counts g m z,
    )
