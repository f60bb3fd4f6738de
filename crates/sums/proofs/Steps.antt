-- Sums made a part at a time: a word made the sum of its children's words changes no other, and parts made from the leaf bits up join.
use mathlib.Core.Path.{◌≡◌, refl, sym, ap, ap₂, ◌∙◌}
use mathlib.Core.Logic.{◌⊎◌, inl, inr, ⊎_elim}
use mathlib.Core.List.{List}
use Prim.Native.Nat.{ℕ, suc, ◌+◌, ◌-◌, ◌*◌, ◌^◌, ◌≤◌, ◌<◌}
use native.Mathlib.Omega.{arith}
use lib.ListN.{length}
use borrow.Author.Count.{below_none, below_more}
use Rattle.bits.specs.Bits.{bit, field}
use Rattle.bits.proofs.Laws.{le_or_lt}
use Rattle.bits.proofs.Windows.{field_one}
use Rattle.nodes.specs.Depth.{depth_of}
use Rattle.nodes.proofs.Depths.{pow_next, depth_left, depth_right, depth_le}
use Rattle.words.specs.Words.{width, word}
use Rattle.words.specs.inner.Working.{put_word}
use Rattle.sums.specs.inner.Summed.{Summed}
use Rattle.sums.specs.inner.Rows.{SumsBetween, Made, MadeHere}
use Rattle.words.proofs.Slots.{from, wide, packed, from_mono, from_one, from_leaf, word_lt, word_same, length-put_word, bit_put_word, word_put_same, word_put_other}

abbrev pub sum_of : ℕ → List ℕ → ℕ → ℕ
sum_of D bs k = word D bs (2 * k) + word D bs (2 * k + 1)

-- a sum of two children's words fits
pub sum_fits : (D : ℕ) (bs : List ℕ) (k : ℕ) → 1 ≤ k → k < 2 ^ D → sum_of D bs k < 2 ^ wide D k
sum_fits D bs k p h =
    let d = depth_of k in
    let l : suc d ≤ D = omega (arith, depth_le (2 * k) D (omega (arith, pow_next D)), depth_left k p) in
    let e : 2 ^ width D d ≡ 2 * 2 ^ width D (suc d) = ap (λ (x : ℕ). 2 ^ x) {x = D + 1 - d} {y = D + 1 - suc d + 1} (omega arith) ∙ pow_next (D + 1 - suc d) in
    let a = ap (λ (x : ℕ). 2 ^ width D x) (depth_left k p) in
    let b = ap (λ (x : ℕ). 2 ^ width D x) (depth_right k p) in
    omega (arith, word_lt D bs (2 * k), word_lt D bs (2 * k + 1))

pub made_none : (D m n : ℕ) (xs : List ℕ) → n ≡ m → Made D m n xs xs
made_none D m n xs e = record { long = refl; same = λ p h. refl; sums = λ k l h. absurd (omega arith) }

-- one word more
module _ {D m k : ℕ} {xs ys : List ℕ} (one : 1 ≤ m) (low : m ≤ k) (row : k < 2 * m) (h : k < 2 ^ D) (room : 2 ^ (D + 2) ≤ 8 * length ys) (s : Made D m k xs ys) where
  abbrev zs : List ℕ
  zs = put_word D ys k (sum_of D ys k)

  here : k < 2 ^ (D + 1)
  here = omega (arith, pow_next D)

  other : (j : ℕ) → j < 2 ^ (D + 1) → (j ≡ k → ⊥) → word D zs j ≡ word D ys j
  other j l n = word_put_other D ys k (sum_of D ys k) here j l n

  -- the children of words of this row are in the next
  kids : (j : ℕ) → m ≤ j → j < k + 1 → sum_of D zs j ≡ sum_of D ys j
  kids j l u =
      ap₂ (λ (x y : ℕ). x + y) (other (2 * j) (omega (arith, pow_next D)) (λ e. omega arith)) (other (2 * j + 1) (omega (arith, pow_next D)) (λ e. omega arith))

  pub made_step : Made D m (k + 1) xs zs
  made_step = record {
    long = length-put_word D ys k (sum_of D ys k) ∙ s.long;
    same = λ p o. bit_put_word D ys k (sum_of D ys k) p (⊎_elim (λ l. inl (omega (arith, from_mono D m k low (omega (arith, here))))) (λ l. inr (omega (arith, packed D k here))) o)
        ∙ s.same p (⊎_elim (λ l. inl l) (λ l. inr (omega (arith, packed D k here))) o);
    sums = λ j l u. ⊎_elim (λ b. let e : j ≡ k = omega arith in
        ap (word D zs) e ∙ word_put_same D ys k (sum_of D ys k) here (sum_fits D ys k (omega arith) h) room ∙ ap (sum_of D ys) (sym e) ∙ sym (kids j l u))
        (λ b. other j (omega (arith, here)) (λ e. omega arith) ∙ s.sums j l b ∙ sym (kids j l u))
        (le_or_lt k j);
  }

-- a part made after the part behind it
module _ {D m n o : ℕ} {xs ys zs : List ℕ} (one : 1 ≤ n) (low : m ≤ n) (mid : n ≤ o) (top : o ≤ 2 ^ D) (s : Made D n o xs ys) (t : Made D m n ys zs) where
  -- the words of the part behind are left
  left : (j : ℕ) → n ≤ j → j < 2 ^ (D + 1) → word D zs j ≡ word D ys j
  left j l h = word_same D j ys zs (λ p a b. t.same p (inr (omega (arith, from_mono D n j l (omega arith)))))

  pub made_join : Made D m o xs zs
  made_join = record {
    long = t.long ∙ s.long;
    same = λ p e. t.same p (⊎_elim (λ l. inl l) (λ l. inr (omega (arith, from_mono D n o mid (omega (arith, pow_next D))))) e)
        ∙ s.same p (⊎_elim (λ l. inl (omega (arith, from_mono D m n low (omega (arith, pow_next D))))) (λ l. inr l) e);
    sums = λ j l h. ⊎_elim (λ b. left j b (omega (arith, pow_next D)) ∙ s.sums j b h
        ∙ sym (ap₂ (λ (x y : ℕ). x + y) (left (2 * j) (omega arith) (omega (arith, pow_next D))) (left (2 * j + 1) (omega arith) (omega (arith, pow_next D)))))
        (λ b. t.sums j l b) (le_or_lt n j);
  }

-- ---- blocks of leaf bits, the first first

-- ys is xs with the sums over the first i blocks made, which Sums speaks of block by block, and no bit outside of lo to hi has changed
pub record Blockwise (Sums : List ℕ → ℕ → Type 0) (lo hi i : ℕ) (xs ys : List ℕ) : Type 0 where
  pub long : length ys ≡ length xs
  pub same : (p : ℕ) → (p < lo) ⊎ (hi ≤ p) → bit ys p ≡ bit xs p
  pub sums : (k : ℕ) → k < i → Sums ys k

pub blocks_none : {Sums : List ℕ → ℕ → Type 0} {lo hi : ℕ} (xs : List ℕ) → Blockwise Sums lo hi 0 xs xs
blocks_none xs = record { long = refl; same = λ p o. refl; sums = below_none _ }

-- one block more, whose sums are clear of those over the blocks before it and of all bits outside
pub blocks_next : {Sums : List ℕ → ℕ → Type 0} {Clear : ℕ → ℕ → Type 0} {lo hi i : ℕ} {xs ys zs : List ℕ}
    → ((k : ℕ) → k < i → ((s w : ℕ) → Clear s w → field zs s w ≡ field ys s w) → Sums ys k → Sums zs k)
    → ((p : ℕ) → (p < lo) ⊎ (hi ≤ p) → Clear p 1)
    → Blockwise Sums lo hi i xs ys → MadeHere Clear (λ bs. Sums bs i) ys zs → Blockwise Sums lo hi (i + 1) xs zs
blocks_next {ys = ys} {zs = zs} kept clear s t = record {
  long = t.long ∙ s.long;
  same = λ p o. sym (field_one zs p) ∙ t.same p 1 (clear p o) ∙ field_one ys p ∙ s.same p o;
  sums = below_more _ _ (λ k l. kept k l t.same (s.sums k l)) t.sums;
}

-- all blocks, which stand over the words from m on, before n
pub blocks_all : {Sums : List ℕ → ℕ → Type 0} {D m n lo hi i : ℕ} {xs ys : List ℕ} → from D m ≡ lo → from D n ≡ hi → SumsBetween D ys m n
    → Blockwise Sums lo hi i xs ys → Made D m n xs ys
blocks_all a b f s = record { long = s.long; same = λ p o. s.same p (⊎_elim (λ l. inl (omega arith)) (λ l. inr (omega arith)) o); sums = f }

-- ---- all parts made

pub made_all : {D : ℕ} {xs ys : List ℕ} → Made D 1 (2 ^ D) xs ys → Summed D xs ys
made_all {D} s = record {
  long = s.long;
  same = λ p o. s.same p (⊎_elim (λ l. inl (omega (arith, from_one D))) (λ l. inr (omega (arith, from_leaf D))) o);
  sums = s.sums;
}
