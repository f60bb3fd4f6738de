-- Rows: the words of one depth stand side by side, so a row is walked by adding widths; and how stretches of right sums join.
use mathlib.Core.Path.{◌≡◌, sym, ap, ap₂, ◌∙◌, subst}
use mathlib.Core.Logic.{⊎_elim}
use mathlib.Core.List.{List}
use Prim.Native.Nat.{ℕ, zero, suc, ◌+◌, ◌-◌, ◌*◌, ◌%◌, ◌^◌, ◌≤◌, ◌<◌}
use native.Mathlib.Nat.{add-zero, suc-mul, zero-mul, le_refl}
use native.Mathlib.Omega.{arith}
use lib.ListN.{length}
use lib.Pow.{pow_mono}
use Rattle.bits.specs.Bits.{field}
use Rattle.bits.specs.inner.Puts.{put_field}
use Rattle.bits.proofs.Laws.{le_or_lt}
use Rattle.nodes.proofs.Depths.{pow_next, at_from, depth_is}
use Rattle.words.specs.Words.{start, word}
use Rattle.words.specs.inner.Working.{put_word, Room}
use Rattle.sums.specs.inner.Rows.{SumAt, SumsBetween}
use Rattle.words.proofs.Slots.{from, wide, row_from, packed, from_mono, from_top}
use Rattle.words.proofs.Rooms.{bounds, room_bytes}

-- ---- words of depth d, which have w bits

module _ (D d w : ℕ) (h : d + w ≡ D + 1) (hd : d ≤ D) where
  pub wide_at : (k : ℕ) → 2 ^ d ≤ k → k < 2 ^ (d + 1) → wide D k ≡ w
  wide_at k lo hi = omega (arith, depth_is (at_from {d = d} {n = k} lo hi))

  pub word_at : (bs : List ℕ) (k : ℕ) → 2 ^ d ≤ k → k < 2 ^ (d + 1) → word D bs k ≡ field bs (from D k) w
  unfolding word
  word_at bs k lo hi = ap (field bs (from D k)) (wide_at k lo hi)

  -- i words on from word k
  pub from_at : (k i : ℕ) → 2 ^ d ≤ k → k + i ≤ 2 ^ (d + 1) → from D (k + i) ≡ from D k + i * w
  from_at k zero lo hi = ap (from D) (add-zero k) ∙ omega (arith, zero-mul w)
  from_at k (suc i) lo hi =
      let e : k + suc i ≡ k + i + 1 = omega arith in
      ap (from D) e
      ∙ packed D (k + i) (omega (arith, pow_mono {i = d + 1} {j = D + 1} (omega arith)))
      ∙ ap₂ (λ (x y : ℕ). x + y) (from_at k i lo (omega arith)) (wide_at (k + i) (omega arith) (omega arith))
      ∙ omega (arith, suc-mul i w)

  -- word j of the row, from its first on
  pub from_row : (j k : ℕ) → k ≡ 2 ^ d + j → j ≤ 2 ^ d → from D k ≡ 2 ^ (d + 1) + 2 ^ d * w + j * w
  from_row j k e l =
      ap (from D) e ∙ from_at (2 ^ d) j (le_refl (2 ^ d)) (omega (arith, pow_next d))
      ∙ omega (arith, row_from D d, ap (λ (x : ℕ). 2 ^ d * x) {x = D + 1 - d} {y = w} (omega arith))

-- ---- stretches

pub sums_join : (D : ℕ) (bs : List ℕ) (m n o : ℕ) → SumsBetween D bs m n → SumsBetween D bs n o → SumsBetween D bs m o
sums_join D bs m n o f g k a b = ⊎_elim (λ x. g k x b) (λ x. f k a x) (le_or_lt n k)

pub sums_next : (D : ℕ) (bs : List ℕ) (m k : ℕ) → SumsBetween D bs m k → SumAt D bs k → SumsBetween D bs m (k + 1)
sums_next D bs m k f s = sums_join D bs m k (k + 1) f (λ j a b. let e : k ≡ j = omega arith in subst (SumAt D bs) e s)

-- ---- a row by running places

-- word k, or the first behind its row, starts at bit p, and its children's words at bit c
pub record Running (D k p c : ℕ) : Type 0 where
  pub own : p ≡ from D k
  pub kids : c ≡ from D (2 * k)

-- what stands there: word k has w + 1 bits and its children's words have w each, all are inside, and their places are small
pub record Here (D d k p c : ℕ) (bs : List ℕ) (w : ℕ) : Type 0 where
  pub bytes : 4 ≤ length bs
  pub narrow : w ≤ 17
  pub low : 2 ^ d ≤ k
  pub high : k < 2 ^ (d + 1)
  pub node : k < 2 ^ D
  pub own_in : p + (w + 1) ≤ 8 * length bs
  pub kids_in : c + 2 * w ≤ 8 * length bs
  pub own_small : p + (w + 1) ≤ 524288
  pub kids_small : c + 2 * w ≤ 524288
  pub own_word : field bs p (w + 1) ≡ word D bs k
  pub left_word : field bs c w ≡ word D bs (2 * k)
  pub right_word : field bs (c + w) w ≡ word D bs (2 * k + 1)
  pub own_put : (v : ℕ) → put_field bs p (w + 1) v ≡ put_word D bs k v
  pub twice : 2 ^ (w + 1) ≡ 2 * 2 ^ w
  pub sum_small : 2 ^ (w + 1) ≤ 262144
  pub next : Running D (k + 1) (p + (w + 1)) (c + 2 * w)

module _ {D d : ℕ} {bs : List ℕ} (given : Room D bs × (d < D)) where
  -- the row's first word, as the code computes it, and where it ends
  pub row_first : 1 * 2 ^ d % 2 ^ 64 ≡ 2 ^ d
  row_first = let s = pow_mono {i = d} {j = 16} (omega (arith, given.0.high)) in omega arith

  pub row_end : 2 * 2 ^ d % 2 ^ 64 ≡ 2 ^ (d + 1)
  row_end = let s = pow_mono {i = d} {j = 16} (omega (arith, given.0.high)) in omega (arith, pow_next d)

  pub running_first : {p c : ℕ} → p ≡ start D d (2 ^ d) → c ≡ start D (d + 1) (2 ^ (d + 1)) → Running D (1 * 2 ^ d % 2 ^ 64) p c
  running_first e f = record {
    own = e ∙ sym (row_from D d) ∙ ap (from D) (sym row_first);
    kids = f ∙ sym (row_from D (d + 1)) ∙ ap (from D) {x = 2 ^ (d + 1)} {y = 2 * (1 * 2 ^ d % 2 ^ 64)} (omega (arith, row_first, pow_next d));
  }

  module _ {k p c : ℕ} (r : Running D k p c) (lo : 1 * 2 ^ d % 2 ^ 64 ≤ k) (hi : k < 2 * 2 ^ d % 2 ^ 64) where
    abbrev w : ℕ
    w = D - d

    low : 2 ^ d ≤ k
    low = omega (arith, row_first)

    high : k < 2 ^ (d + 1)
    high = omega (arith, row_end)

    own_next : from D (k + 1) ≡ p + (w + 1)
    own_next = omega (arith, r.own, from_at D d (w + 1) (omega arith) (omega arith) k 1 low (omega (arith, high)))

    kids_at : (i : ℕ) → i ≤ 2 → from D (2 * k + i) ≡ c + i * w
    kids_at i b = omega (arith, r.kids, from_at D (d + 1) w (omega arith) (omega arith) (2 * k) i (omega (arith, low, pow_next d)) (omega (arith, high, pow_next (d + 1))))

    up : (n : ℕ) → n ≤ 2 ^ (d + 1 + 1) → from D n ≤ 2 ^ (D + 2)
    up n b = let e = pow_mono {i = d + 1 + 1} {j = D + 1} (omega arith) in omega (arith, from_mono D n (2 ^ (D + 1)) (omega arith) (le_refl (2 ^ (D + 1))), from_top D)

    child : (i : ℕ) → i < 2 → field bs (c + i * w) w ≡ word D bs (2 * k + i)
    child i b =
        ap (λ (s : ℕ). field bs s w) (sym (kids_at i (omega arith)))
        ∙ sym (word_at D (d + 1) w (omega arith) (omega arith) bs (2 * k + i) (omega (arith, low, pow_next d)) (omega (arith, high, pow_next (d + 1))))

    pub here : Here D d k p c bs (D - d)
    unfolding put_word
    here =
        let b = bounds given.0 in
        let two = pow_next (d + 1) in
        let x : p + (w + 1) ≤ 2 ^ (D + 2) = omega (arith, own_next, up (k + 1) (omega (arith, high))) in
        let y : c + 2 * w ≤ 2 ^ (D + 2) = omega (arith, kids_at 2 (omega arith), up (2 * k + 2) (omega (arith, high))) in
        let e : wide D k ≡ w + 1 = wide_at D d (w + 1) (omega arith) (omega arith) k low high in
        record {
          bytes = room_bytes given.0;
          narrow = omega arith;
          low = low;
          high = high;
          node = omega (arith, high, pow_mono {i = d + 1} {j = D} (omega arith));
          own_in = omega arith;
          kids_in = omega arith;
          own_small = omega arith;
          kids_small = omega arith;
          own_word = ap (λ (s : ℕ). field bs s (w + 1)) r.own ∙ sym (word_at D d (w + 1) (omega arith) (omega arith) bs k low high);
          left_word = ap (λ (s : ℕ). field bs s w) (omega (arith, zero-mul w)) ∙ child 0 (omega arith) ∙ ap (word D bs) (add-zero (2 * k));
          right_word = ap (λ (s : ℕ). field bs s w) (omega arith) ∙ child 1 (omega arith);
          own_put = λ v. ap₂ (λ (s t : ℕ). put_field bs s t v) r.own (sym e);
          twice = pow_next w;
          sum_small = pow_mono {i = w + 1} {j = 18} (omega arith);
          next = record { own = sym own_next; kids = sym (kids_at 2 (omega arith)) ∙ ap (from D) {x = 2 * k + 2} {y = 2 * (k + 1)} (omega arith) };
        }
