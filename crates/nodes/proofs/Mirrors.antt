-- The neighbour across the long side, by pairs of digits: a pair 01 or 10 has it beside itself, and a pair 00 or 11, mirrored,
-- below the neighbour of the node two levels up. So all digits up to the lowest mixed pair are turned round.
use mathlib.Core.Path.{◌≡◌, refl, sym, ◌∙◌, ap, ap₂, subst}
use mathlib.Core.Logic.{◌≢◌, ◌⊎◌, inl, inr}
use Prim.Native.Nat.{ℕ, zero, suc, ◌+◌, ◌-◌, ◌*◌, ◌/◌, ◌%◌, ◌^◌, ◌≤◌, ◌<◌, min}
use native.Mathlib.Nat.{mod-lt, mod-eq_of_lt}
use lib.Arith.{mod-mul}
use native.Mathlib.Decide.{dec_le, ℕ_discrete}
use native.Mathlib.Omega.{arith}
use lib.Bits.{bit_and, bit_xor, differ, and_step, xor_step}
use lib.Count.{count_trailing_zeros, under}
use lib.Pow.{pow-add, pow_pos, pow_mono}
use Rattle.nodes.specs.Depth.{depth_of}
use Rattle.nodes.specs.Neighbours.{right_child, edge}
use Rattle.nodes.proofs.Depths.{At, at_depth, depth_half, depth_is}
use Rattle.nodes.proofs.Neighbouring.{right_child_lem}
use Rattle.nodes.proofs.Edges.{edge_0, edge_1, edge_2, edge_3, edge_first, edge_second}

-- ---- the lowest mixed pair

-- the lower digit of each of w pairs
abbrev pub low_digits : ℕ → ℕ
low_digits zero = 0
low_digits (suc w) = 4 * low_digits w + 1

abbrev pub digits : ℕ → ℕ
digits zero = 0
digits (suc w) = suc (suc (digits w))

-- a digit for each pair of n: whether the pair is mixed
abbrev pub mixed : ℕ → ℕ → ℕ
mixed w n = bit_and (bit_xor n (n / 2)) (low_digits w)

-- how many digits stand below the lowest mixed pair
abbrev pub mirrored : ℕ → ℕ → ℕ
mirrored w n = count_trailing_zeros (digits w) (mixed w n)

differ_lt : (a b : ℕ) → a < 2 → b < 2 → differ a b < 2
differ_lt zero b h l = l
differ_lt (suc zero) zero h l = omega arith
differ_lt (suc zero) (suc zero) h l = omega arith
differ_lt (suc zero) (suc (suc b)) h l = absurd (omega arith)
differ_lt (suc (suc a)) b h l = absurd (omega arith)

xor_low : (n : ℕ) → bit_xor n (n / 2) % 2 ≡ differ (n % 2) (n / 2 % 2)
xor_low n = let d = differ_lt (n % 2) (n / 2 % 2) (omega arith) (omega arith) in omega (arith, xor_step n (n / 2))

xor_half : (n : ℕ) → bit_xor n (n / 2) / 2 ≡ bit_xor (n / 2) (n / 2 / 2)
xor_half n = let d = differ_lt (n % 2) (n / 2 % 2) (omega arith) (omega arith) in omega (arith, xor_step n (n / 2))

module _ (w n : ℕ) where
  first_step : mixed (suc w) n ≡ bit_and (bit_xor n (n / 2) / 2) (2 * low_digits w) * 2 + min (bit_xor n (n / 2) % 2) 1
  first_step =
      and_step (bit_xor n (n / 2)) (4 * low_digits w + 1)
      ∙ ap₂ (λ x y. bit_and (bit_xor n (n / 2) / 2) x * 2 + min (bit_xor n (n / 2) % 2) y) (let e : (4 * low_digits w + 1) / 2 ≡ 2 * low_digits w = omega arith in e) (let e : (4 * low_digits w + 1) % 2 ≡ 1 = omega arith in e)

  second_step : bit_and (bit_xor n (n / 2) / 2) (2 * low_digits w) ≡ mixed w (n / 2 / 2) * 2 + min (bit_xor n (n / 2) / 2 % 2) 0
  second_step =
      and_step (bit_xor n (n / 2) / 2) (2 * low_digits w)
      ∙ ap₂ (λ x y. bit_and x y * 2 + min (bit_xor n (n / 2) / 2 % 2) (2 * low_digits w % 2)) (ap (λ x. x / 2) (xor_half n) ∙ xor_half (n / 2)) (let e : 2 * low_digits w / 2 ≡ low_digits w = omega arith in e)
      ∙ ap (λ x. mixed w (n / 2 / 2) * 2 + min (bit_xor n (n / 2) / 2 % 2) x) (let e : 2 * low_digits w % 2 ≡ 0 = omega arith in e)

  mixed_low : mixed (suc w) n % 2 ≡ differ (n % 2) (n / 2 % 2)
  mixed_low = omega (arith, first_step, xor_low n)

  mixed_next : (mixed (suc w) n / 2 % 2 ≡ 0) × (mixed (suc w) n / 2 / 2 ≡ mixed w (n / 2 / 2))
  mixed_next = omega (arith, first_step, second_step)

  -- a mixed pair ends the mirrored digits, and a pair that is not is passed
  mirrored_none : differ (n % 2) (n / 2 % 2) ≡ 1 → mirrored (suc w) n ≡ 0
  unfolding count_trailing_zeros
  mirrored_none e = ap (λ x. under x (count_trailing_zeros (suc (digits w)) (mixed (suc w) n / 2))) (mixed_low ∙ e)

  mirrored_pair : differ (n % 2) (n / 2 % 2) ≡ 0 → mirrored (suc w) n ≡ suc (suc (mirrored w (n / 2 / 2)))
  unfolding count_trailing_zeros
  mirrored_pair e =
      ap₂ (λ x y. under x (under y (count_trailing_zeros (digits w) (mixed (suc w) n / 2 / 2)))) (mixed_low ∙ e) mixed_next.0
      ∙ ap (λ x. suc (suc (count_trailing_zeros (digits w) x))) mixed_next.1

-- ---- the neighbour

pow_three : (g : ℕ) → 2 ^ (g + 3) ≡ 8 * 2 ^ g
pow_three g = pow-add 2 g 3 ∙ omega arith

-- n with its g + 2 lowest digits turned round
abbrev pub turned : ℕ → ℕ → ℕ
turned g n = (n - n % (4 * 2 ^ g)) + (4 * 2 ^ g - 1 - n % (4 * 2 ^ g))

-- the digits turned round are those left to all ones
turn_sum : (n q x : ℕ) → x ≤ n → x < q → (n - x) + (q - 1 - x) + 2 * x + 1 ≡ n + q
turn_sum n q x h l = omega arith

turn_step : (n m q c r t u : ℕ) → n ≡ 4 * m + r → r ≤ 3 → t + 2 * c + 1 ≡ m + q → u + 2 * (c * 4 + r) + 1 ≡ n + 4 * q → 4 * t + (3 - r) ≡ u
turn_step n m q c r t u e h a b = omega arith

-- what the lowest mixed pair of n, g digits up, and n's depth d say of its edge neighbour
pub record Across (g d n : ℕ) : Type 0 where
  pub inner : g + 3 ≤ d → edge n ≡ turned g n
  pub half : (g + 3 ≤ d → ⊥) → d % 2 ≡ 1 → edge n ≡ 3 * 2 ^ d - 1 - n
  pub none : (g + 3 ≤ d → ⊥) → (d % 2 ≡ 1 → ⊥) → edge n ≡ 0

-- at depth 1 the digit below the first is turned round, at depth 2 there is none
across_first : (g n : ℕ) → 2 ≤ n → n ≤ 3 → Across g 1 n
across_first g n p q = record {
  inner = λ h. absurd (omega arith);
  half = λ _ _. edge_first n p q;
  none = λ _ h. absurd (h refl);
}

across_second : (g n : ℕ) → 4 ≤ n → n ≤ 7 → Across g 2 n
across_second g n p q = record {
  inner = λ h. absurd (omega arith);
  half = λ _ h. absurd (omega arith);
  none = λ _ _. edge_second n p q;
}

module _ (n : ℕ) (p : 8 ≤ n) where
  mixed_across : (d : ℕ) → (n % 4 ≡ 0 → ⊥) → (n % 4 ≡ 3 → ⊥) → Across 0 (suc (suc (suc d))) n
  mixed_across d a b = record { inner = λ _. go (ℕ_discrete (n % 4) 1); half = λ h. absurd (h (omega arith)); none = λ h. absurd (h (omega arith)) }
    where
      go : Dec (n % 4 ≡ 1) → edge n ≡ turned 0 n
      go (yes e) = ap edge (let f : n ≡ 2 * (2 * (n / 4)) + 1 = omega arith in f) ∙ edge_1 (n / 4) (omega arith) ∙ omega arith
      go (no e) = ap edge (let f : n ≡ 2 * (2 * (n / 4) + 1) = omega arith in f) ∙ edge_2 (n / 4) (omega arith) ∙ omega (arith, right_child_lem (2 * (n / 4)))

  -- below a neighbour two levels up stands the mirrored pair
  pair_across : (n % 4 ≡ 0) ⊎ (n % 4 ≡ 3) → (edge (n / 4) ≡ 0 → edge n ≡ 0) × (edge (n / 4) ≢ 0 → edge n ≡ 4 * edge (n / 4) + (3 - n % 4))
  pair_across (inl e) =
      let f : edge n ≡ right_child (right_child (edge (n / 4))) = ap edge (let h : n ≡ 2 * (2 * (n / 4)) = omega arith in h) ∙ edge_0 (n / 4) (omega arith) in
      let a = right_child_lem (right_child (edge (n / 4))) in
      let b = right_child_lem (edge (n / 4)) in
      (λ z. omega arith, λ z. omega arith)
  pair_across (inr e) =
      let f : edge n ≡ 2 * (2 * edge (n / 4)) = ap edge (let h : n ≡ 2 * (2 * (n / 4) + 1) + 1 = omega arith in h) ∙ edge_3 (n / 4) (omega arith) in
      (λ z. omega arith, λ z. omega arith)

  module _ (r : (n % 4 ≡ 0) ⊎ (n % 4 ≡ 3)) (g d : ℕ) (a : At d (n / 4)) (ih : Across g d (n / 4)) where
    -- the digits turned round below n are those below n / 4 and the pair
    turned_pair : n % (4 * 2 ^ suc (suc g)) ≡ (n / 4 % (4 * 2 ^ g)) * 4 + n % 4
    turned_pair = ap (λ x. n % x) (let e : 4 * 2 ^ suc (suc g) ≡ 4 * 2 ^ g * 4 = omega arith in e) ∙ mod-mul n {m = 4 * 2 ^ g} {c = 4} (omega (arith, pow_pos g)) (omega arith)

    turned_step : n / 4 % (4 * 2 ^ g) < 4 * 2 ^ g → n / 4 % (4 * 2 ^ g) ≤ n / 4 → 4 * turned g (n / 4) + (3 - n % 4) ≡ turned (suc (suc g)) n
    turned_step l k =
        turn_step n (n / 4) (4 * 2 ^ g) (n / 4 % (4 * 2 ^ g)) (n % 4) (turned g (n / 4)) (turned (suc (suc g)) n) (omega arith) (omega arith)
        (turn_sum (n / 4) (4 * 2 ^ g) (n / 4 % (4 * 2 ^ g)) k l)
        (subst (λ x. (n - x) + (4 * 2 ^ suc (suc g) - 1 - x) + 2 * ((n / 4 % (4 * 2 ^ g)) * 4 + n % 4) + 1 ≡ n + 4 * (4 * 2 ^ g)) (sym turned_pair)
        (turn_sum n (4 * 2 ^ suc (suc g)) ((n / 4 % (4 * 2 ^ g)) * 4 + n % 4) (omega arith) (omega arith) ∙ omega arith))

    mirrored_across : Across (suc (suc g)) (suc (suc d)) n
    mirrored_across = record {
      inner = λ h. let i = ih.inner (omega arith) in
          let l = mod-lt (n / 4) {m = 4 * 2 ^ g} (omega (arith, pow_pos g)) in
          let q : 2 ^ (g + 3) ≤ 2 ^ d = pow_mono (let k : g + 3 ≤ d = omega arith in k) in
          let s : 2 ^ (g + 3) ≡ 8 * 2 ^ g = pow_three g in
          (pair_across r).1 (λ z. omega (arith, a, l, pow_pos g)) ∙ ap (λ x. 4 * x + (3 - n % 4)) i ∙ turned_step l (omega (arith, a, l, pow_pos g));
      half = λ h o. let i = ih.half (λ k. h (omega arith)) (omega arith) in
          (pair_across r).1 (λ z. omega (arith, a, pow_pos d)) ∙ omega (arith, a, pow_pos d);
      none = λ h o. (pair_across r).0 (ih.none (λ k. h (omega arith)) (λ k. o (omega arith)));
    }

-- ---- every node

small_across : (g n : ℕ) → 2 ≤ n → n ≤ 7 → Across g (depth_of n) n
small_across g n p q = go (dec_le n 3)
  where
    go : Dec (n ≤ 3) → Across g (depth_of n) n
    go (yes a) = subst (λ d. Across g d n) (sym (depth_is {d = 1} (omega arith))) (across_first g n p a)
    go (no a) = subst (λ d. Across g d n) (sym (depth_is {d = 2} (omega arith))) (across_second g n (omega arith) q)

differ_pair : (a b : ℕ) → a < 2 → b < 2 → differ a b ≡ (a + b) % 2
differ_pair zero b h l = omega arith
differ_pair (suc zero) zero h l = omega arith
differ_pair (suc zero) (suc zero) h l = omega arith
differ_pair (suc zero) (suc (suc b)) h l = absurd (omega arith)
differ_pair (suc (suc a)) b h l = absurd (omega arith)

module _ (w n : ℕ) (p : 8 ≤ n) (ih : Across (mirrored w (n / 4)) (depth_of (n / 4)) (n / 4)) where
  deep : depth_of n ≡ suc (suc (depth_of (n / 4)))
  deep =
      depth_half n (omega arith) ∙ ap suc (depth_half (n / 2) (omega arith))
      ∙ ap (λ x. suc (suc (depth_of x))) (let e : n / 2 / 2 ≡ n / 4 = omega arith in e)

  pair : differ (n % 2) (n / 2 % 2) ≡ (n % 2 + n / 2 % 2) % 2
  pair = differ_pair (n % 2) (n / 2 % 2) (omega arith) (omega arith)

  passed : (n % 4 ≡ 0) ⊎ (n % 4 ≡ 3) → Across (mirrored (suc w) n) (depth_of n) n
  passed r =
      let e : differ (n % 2) (n / 2 % 2) ≡ 0 = pair ∙ even r in
      let f : mirrored (suc w) n ≡ suc (suc (mirrored w (n / 4))) =
      mirrored_pair w n e ∙ ap (λ x. suc (suc (mirrored w x))) (let q : n / 2 / 2 ≡ n / 4 = omega arith in q) in
      subst (λ g. Across g (depth_of n) n) (sym f) (subst (λ d. Across (suc (suc (mirrored w (n / 4)))) d n) (sym deep)
      (mirrored_across n p r (mirrored w (n / 4)) (depth_of (n / 4)) (at_depth (omega arith)) ih))
    where
      even : (n % 4 ≡ 0) ⊎ (n % 4 ≡ 3) → (n % 2 + n / 2 % 2) % 2 ≡ 0
      even (inl e) = omega arith
      even (inr e) = omega arith

  met : (n % 4 ≡ 0 → ⊥) → (n % 4 ≡ 3 → ⊥) → Across (mirrored (suc w) n) (depth_of n) n
  met a b =
      let e : differ (n % 2) (n / 2 % 2) ≡ 1 = pair ∙ odd (ℕ_discrete (n % 4) 1) in
      let f : depth_of (n / 4) ≡ suc (depth_of (n / 4 / 2)) = depth_half (n / 4) (omega arith) in
      subst (λ g. Across g (depth_of n) n) (sym (mirrored_none w n e))
      (subst (λ d. Across 0 d n) (sym (deep ∙ ap (λ x. suc (suc x)) f)) (mixed_across n p (depth_of (n / 4 / 2)) a b))
    where
      odd : Dec (n % 4 ≡ 1) → (n % 2 + n / 2 % 2) % 2 ≡ 1
      odd (yes c) =
          let h : n / 2 ≡ 2 * (n / 4) = omega arith in
          let x : n % 2 ≡ 1 = omega arith in
          ap₂ (λ y z. (y + z % 2) % 2) x h ∙ omega arith
      odd (no c) =
          let h : n / 2 ≡ 2 * (n / 4) + 1 = omega arith in
          let x : n % 2 ≡ 0 = omega arith in
          ap₂ (λ y z. (y + z % 2) % 2) x h ∙ omega arith

  next_across : Across (mirrored (suc w) n) (depth_of n) n
  next_across = go (ℕ_discrete (n % 4) 0) (ℕ_discrete (n % 4) 3)
    where
      go : Dec (n % 4 ≡ 0) → Dec (n % 4 ≡ 3) → Across (mirrored (suc w) n) (depth_of n) n
      go (yes a) b = passed (inl a)
      go (no a) (yes b) = passed (inr b)
      go (no a) (no b) = met a b

-- the neighbour of each node that w pairs and one digit hold
pub across : (w n : ℕ) → 2 ≤ n → n < 2 * 4 ^ w → Across (mirrored w n) (depth_of n) n
across zero n p h = absurd (omega arith)
across (suc w) n p h = go (dec_le n 7) (across w (n / 4))
  where
    go : Dec (n ≤ 7) → (2 ≤ n / 4 → n / 4 < 2 * 4 ^ w → Across (mirrored w (n / 4)) (depth_of (n / 4)) (n / 4)) → Across (mirrored (suc w) n) (depth_of n) n
    go (yes a) ih = small_across (mirrored (suc w) n) n p a
    go (no a) ih = next_across w n (omega arith) (ih (omega arith) (omega arith))

-- ---- what the code computes stays within its numbers

pub record Turns (k g : ℕ) : Type 0 where
  pub shift : 4 * 2 ^ g % 2 ^ 32 ≡ 4 * 2 ^ g
  pub some : 0 < 4 * 2 ^ g
  pub inside : 4 * 2 ^ g ≤ k
  pub under : k % (4 * 2 ^ g) < 4 * 2 ^ g

pub turns : (k g : ℕ) → 1 ≤ k → k < 2 ^ 18 → g + 3 ≤ depth_of k → Turns k g
turns k g p h l =
    let a : At (depth_of k) k = at_depth p in
    let e : 8 * 2 ^ g ≤ k = omega (arith, pow_three g, pow_mono l) in
    record {
      shift = mod-eq_of_lt (omega arith);
      some = omega (arith, pow_pos g);
      inside = omega arith;
      under = mod-lt k {m = 4 * 2 ^ g} (omega (arith, pow_pos g));
    }

pub half_shift : (d : ℕ) → d ≤ 17 → 3 * 2 ^ d % 2 ^ 32 ≡ 3 * 2 ^ d
half_shift d h = mod-eq_of_lt (omega (arith, pow_mono {i = d} {j = 17} h))
