-- The words lie one behind the other: word k + 1 starts where word k ends, and the last ends at bit 2 ^ (D + 2).
use mathlib.Core.Path.{◌≡◌, sym, ap, ap₂, ◌∙◌, subst}
use mathlib.Core.Logic.{inl, inr, ⊎_elim}
use mathlib.Core.List.{List}
use Prim.Native.Nat.{ℕ, zero, suc, ◌+◌, ◌-◌, ◌*◌, ◌^◌, ◌≤◌, ◌<◌}
use native.Mathlib.Nat.{add-mul, mul-add, one-mul, mul-one, mul-zero, zero-mul, zero-lt-suc, le_trans, le_refl}
use native.Mathlib.Decide.{le_ind}
use native.Mathlib.Numerals.{add-one}
use native.Mathlib.Omega.{arith}
use lib.ListN.{length}
use lib.Pow.{pow_pos}
use Rattle.bits.proofs.Laws.{Bytes, ext_bits, run_inj, bit_lt, le_or_lt, order, run_ext, Out, bit_out, field_put_same, field_put_other, field_lt, length-put_field}
use Rattle.bits.proofs.Windows.{field_one}
use Rattle.bits.specs.Bits.{bit, field}
use Rattle.nodes.specs.Depth.{depth_of}
use Rattle.nodes.proofs.Depths.{at_root, pow_next, at_from, at_below, at_depth, depth_is, depth_le, depth_zero}
use Rattle.words.specs.Words.{width, start, word, leaf_bit}
use Rattle.words.specs.inner.Working.{put_word}

-- within a row
same_row : (D d k : ℕ) → start D d (k + 1) ≡ start D d k + width D d
same_row D d k = omega (arith, add-mul k 1 (D + 1 - d), one-mul (D + 1 - d))

-- from a row's last place to the next row's first
next_row : (D d : ℕ) → d ≤ D → start D (d + 1) (2 ^ (d + 1)) ≡ start D d (2 ^ (d + 1))
next_row D d h =
    let X : ℕ = D + 1 - (d + 1) in
    let e : D + 1 - d ≡ 1 + X = omega arith in
    let m : 2 ^ (d + 1) * (D + 1 - d) ≡ 2 ^ (d + 1) * 1 + 2 ^ (d + 1) * X = ap (λ (x : ℕ). 2 ^ (d + 1) * x) e ∙ mul-add (2 ^ (d + 1)) 1 X in
    omega (arith, m, mul-one (2 ^ (d + 1)), pow_next (d + 1))

-- where word k starts, and how wide it is
abbrev pub from : ℕ → ℕ → ℕ
from D k = start D (depth_of k) k

abbrev pub wide : ℕ → ℕ → ℕ
wide D k = width D (depth_of k)

-- where a row starts
pub row_from : (D d : ℕ) → from D (2 ^ d) ≡ start D d (2 ^ d)
row_from D d = ap (λ (x : ℕ). start D x (2 ^ d)) (depth_is {d = d} {n = 2 ^ d} (at_from (le_refl (2 ^ d)) (omega (arith, pow_next d, pow_pos d))))

pub packed : (D k : ℕ) → k < 2 ^ (D + 1) → from D (k + 1) ≡ from D k + wide D k
packed D zero h =
    let one : depth_of (0 + 1) ≡ depth_of 0 = depth_is {d = 0} {n = 0 + 1} (at_from (le_refl 1) (omega arith)) ∙ sym depth_zero in
    ap (λ (d : ℕ). start D d (0 + 1)) one ∙ same_row D (depth_of 0) 0
packed D (suc k) h =
    let d = at_depth {n = suc k} (zero-lt-suc k) in
    ⊎_elim (λ l.
    ap (λ (x : ℕ). start D x (suc k + 1)) (depth_is {d = depth_of (suc k)} {n = suc k + 1} (at_from (omega (arith, d.low)) l))
    ∙ same_row D (depth_of (suc k)) (suc k))
    (⊎_elim (λ e.
    ap (λ (x : ℕ). start D x (suc k + 1)) (depth_is {d = depth_of (suc k) + 1} {n = suc k + 1} (at_from (omega (arith, e)) (omega (arith, e, pow_next (depth_of (suc k) + 1), pow_pos (depth_of (suc k) + 1)))))
    ∙ ap (start D (depth_of (suc k) + 1)) e ∙ next_row D (depth_of (suc k)) (depth_le (suc k) D h) ∙ ap (start D (depth_of (suc k))) (sym e)
    ∙ same_row D (depth_of (suc k)) (suc k))
    (λ l. absurd (omega (arith, at_below d))))
    (order (suc k + 1) (2 ^ (depth_of (suc k) + 1)))

pub from_mono : (D j k : ℕ) → j ≤ k → k ≤ 2 ^ (D + 1) → from D j ≤ from D k
from_mono D j k h l =
    le_ind (λ (m : ℕ). m ≤ 2 ^ (D + 1) → from D j ≤ from D m) (λ x. le_refl (from D j))
    (λ m a ih x. le_trans (ih (omega arith)) (subst (λ (y : ℕ). from D m ≤ from D y) (add-one m) (omega (arith, packed D m (omega arith))))) k h l

-- word j ends where word k starts, or before
pub apart : (D j k : ℕ) → j < k → k ≤ 2 ^ (D + 1) → from D j + wide D j ≤ from D k
apart D j k h l = omega (arith, packed D j (omega arith), from_mono D (j + 1) k (omega arith) l)

pub from_top : (D : ℕ) → from D (2 ^ (D + 1)) ≡ 2 ^ (D + 2)
from_top D =
    row_from D (D + 1)
    ∙ omega (arith, ap (λ (x : ℕ). 2 ^ (D + 1) * x) {x = D + 1 - (D + 1)} {y = 0} (omega arith), mul-zero (2 ^ (D + 1)), ap (λ (x : ℕ). 2 ^ x) {x = D + 1 + 1} {y = D + 2} (omega arith))

-- every word lies in the panel
pub in_panel : (D k : ℕ) → k < 2 ^ (D + 1) → from D k + wide D k ≤ 2 ^ (D + 2)
in_panel D k h = subst (λ (x : ℕ). from D k + wide D k ≤ x) (from_top D) (apart D k (2 ^ (D + 1)) h (le_refl (2 ^ (D + 1))))

-- ---- words

module _ (D : ℕ) (bs : List ℕ) (k v : ℕ) (hk : k < 2 ^ (D + 1)) where
  pub word_put_same : v < 2 ^ wide D k → 2 ^ (D + 2) ≤ 8 * length bs → word D (put_word D bs k v) k ≡ v
  unfolding word put_word
  word_put_same hv l = field_put_same bs (from D k) (wide D k) v hv (omega (arith, in_panel D k hk))

  pub word_put_other : (j : ℕ) → j < 2 ^ (D + 1) → (j ≡ k → ⊥) → word D (put_word D bs k v) j ≡ word D bs j
  unfolding word put_word
  word_put_other j hj n =
      field_put_other bs (from D k) (wide D k) v (from D j) (wide D j)
      (⊎_elim (λ l. inl (apart D j k l (omega arith))) (⊎_elim (λ e. absurd (n e)) (λ l. inr (apart D k j l (omega arith)))) (order j k))

-- a word at depth d fits D - d + 1 bits
pub word_lt : (D : ℕ) (bs : List ℕ) (k : ℕ) → word D bs k < 2 ^ wide D k
unfolding word
word_lt D bs k = field_lt bs (from D k) (wide D k)

pub length-put_word : (D : ℕ) (bs : List ℕ) (k v : ℕ) → length (put_word D bs k v) ≡ length bs
unfolding put_word
length-put_word D bs k v = length-put_field bs (from D k) (wide D k) v

-- a write to a word leaves every bit outside it
pub bit_put_word : (D : ℕ) (bs : List ℕ) (k v p : ℕ) → Out (from D k) (wide D k) p → bit (put_word D bs k v) p ≡ bit bs p
unfolding put_word
bit_put_word D bs k v p h = bit_out bs (from D k) (wide D k) v p h

-- a word stays where its bits do
pub word_same : (D k : ℕ) (xs ys : List ℕ) → ((p : ℕ) → from D k ≤ p → p < from D k + wide D k → bit ys p ≡ bit xs p) → word D ys k ≡ word D xs k
unfolding word
word_same D k xs ys h =
    run_ext (bit ys) (bit xs) (from D k) (from D k) (wide D k) (λ i l. h (from D k + i) (omega arith) (omega arith))

-- all words stay where no bit before the end of the last changes
pub words_same : (D : ℕ) (xs ys : List ℕ) → ((p : ℕ) → p < 2 ^ (D + 2) → bit ys p ≡ bit xs p) → (k : ℕ) → k < 2 ^ (D + 1) → word D ys k ≡ word D xs k
words_same D xs ys same k h = word_same D k xs ys (λ p a b. same p (omega (arith, in_panel D k h)))

-- ---- bits 0 and 1, the words, and what stands behind them make the whole

pub from_zero : (D : ℕ) → from D 0 ≡ 2
from_zero D = ap (λ (d : ℕ). start D d 0) depth_zero ∙ omega (arith, zero-mul (D + 1 - 0))

pub from_one : (D : ℕ) → from D 1 ≡ D + 3
from_one D = ap (λ (d : ℕ). start D d 1) {x = depth_of 1} {y = 0} (depth_is at_root) ∙ omega arith

-- the leaf bits stand at the end
pub from_leaf : (D : ℕ) → from D (2 ^ D) ≡ 3 * 2 ^ D
from_leaf D = omega (arith, row_from D D, pow_next D, ap (λ (x : ℕ). 2 ^ D * x) {x = D + 1 - D} {y = 1} (omega arith))

-- the word that holds bit p
pub holder : (D p n : ℕ) → n ≤ 2 ^ (D + 1) → 2 ≤ p → p < from D n → (k : ℕ) × (k < 2 ^ (D + 1)) × (from D k ≤ p) × (p < from D k + wide D k)
holder D p zero hn h l = absurd (omega (arith, from_zero D))
holder D p (suc n) hn h l =
    ⊎_elim (λ a. (n, omega arith, a, omega (arith, packed D n (omega arith), ap (from D) (add-one n))))
    (λ a. holder D p n (omega arith) h a) (le_or_lt (from D n) p)

-- the words hold every bit from bit 2 on, before bit 2 ^ (D + 2)
pub words_bits : (D : ℕ) (xs ys : List ℕ) → ((k : ℕ) → k < 2 ^ (D + 1) → word D xs k ≡ word D ys k) → (p : ℕ) → 2 ≤ p → p < 2 ^ (D + 2) → bit xs p ≡ bit ys p
unfolding word
words_bits D xs ys h p a b =
    let k = holder D p (2 ^ (D + 1)) (le_refl (2 ^ (D + 1))) a (omega (arith, from_top D)) in
    let s : ℕ = from D k.0 in
    let f : s + (p - s) ≡ p = omega (arith, k.2) in
    subst (λ (x : ℕ). bit xs x ≡ bit ys x) {x = s + (p - s)} f
    (run_inj (bit xs) (bit ys) (bit_lt xs) (bit_lt ys) s s (wide D k.0) (h k.0 k.1) (p - s) (omega (arith, k.2, k.3)))

-- bits 0 and 1, the words, and the bits behind the last word make the whole
pub words_ext : (D : ℕ) (xs ys : List ℕ) → Bytes xs → Bytes ys → length xs ≡ length ys
    → ((p : ℕ) → p < 2 → bit xs p ≡ bit ys p) → ((k : ℕ) → k < 2 ^ (D + 1) → word D xs k ≡ word D ys k)
    → ((p : ℕ) → 2 ^ (D + 2) ≤ p → bit xs p ≡ bit ys p) → xs ≡ ys
words_ext D xs ys hx hy e low h behind =
    ext_bits xs ys hx hy e (λ p b. ⊎_elim (λ a. ⊎_elim (behind p) (words_bits D xs ys h p a) (le_or_lt (2 ^ (D + 2)) p)) (low p) (le_or_lt 2 p))

-- a leaf's word is one bit, counted from bit 3 * 2 ^ D on
pub leaf_word : (D p : ℕ) (bs : List ℕ) → p < 2 ^ D → word D bs (2 ^ D + p) ≡ leaf_bit D bs p
unfolding word leaf_bit
leaf_word D p bs h =
    let d : depth_of (2 ^ D + p) ≡ D = depth_is {d = D} {n = 2 ^ D + p} (at_from (omega arith) (omega (arith, pow_next D))) in
    let w : width D D ≡ 1 = omega arith in
    let s : start D D (2 ^ D + p) ≡ 3 * 2 ^ D + p = omega (arith, ap (λ (x : ℕ). (2 ^ D + p) * x) w, mul-one (2 ^ D + p), pow_next D) in
    ap (λ (x : ℕ). field bs (start D x (2 ^ D + p)) (width D x)) d ∙ ap₂ (field bs) s w ∙ field_one bs (3 * 2 ^ D + p)
