-- Right sums are determined by the leaf bits: a word is the sum of its children's words, and the words of depth D are the leaf bits.
use mathlib.Core.Path.{◌≡◌, sym, ap, ap₂, ◌∙◌}
use mathlib.Core.Logic.{inl, inr, ⊎_elim}
use mathlib.Core.List.{List}
use Prim.Native.Nat.{ℕ, zero, suc, ◌+◌, ◌-◌, ◌*◌, ◌^◌, ◌≤◌, ◌<◌}
use native.Mathlib.Omega.{arith}
use lib.ListN.{length}
use lib.Pow.{pow_pos, pow-add}
use Rattle.bits.specs.Bits.{bit}
use Rattle.bits.proofs.Laws.{Bytes, le_or_lt}
use Rattle.nodes.proofs.Depths.{pow_next}
use Rattle.words.specs.Words.{word, leaf_bit}
use Rattle.sums.specs.Sums.{SumsRight, Right}
use Rattle.sums.specs.inner.Summed.{Summed}
use Rattle.words.proofs.Slots.{packed, from_one, word_same, words_same, words_ext, leaf_word}

-- right sums over the same leaf bits are the same
module _ (D : ℕ) (xs ys : List ℕ) (a : SumsRight D xs) (b : SumsRight D ys) (leaf : (p : ℕ) → p < 2 ^ D → leaf_bit D xs p ≡ leaf_bit D ys p) where
  same_in : (n k : ℕ) → 1 ≤ k → 2 ^ (D + 1) ≤ k + n → k < 2 ^ (D + 1) → word D xs k ≡ word D ys k
  same_in zero k p l h = absurd (omega arith)
  same_in (suc n) k p l h =
      ⊎_elim (λ x.
      let e : 2 ^ D + (k - 2 ^ D) ≡ k = omega arith in
      let q : k - 2 ^ D < 2 ^ D = omega (arith, pow_next D) in
      ap (word D xs) (sym e) ∙ leaf_word D (k - 2 ^ D) xs q ∙ leaf (k - 2 ^ D) q ∙ sym (leaf_word D (k - 2 ^ D) ys q) ∙ ap (word D ys) e)
      (λ x.
      a k p x
      ∙ ap₂ (λ (u v : ℕ). u + v) (same_in n (2 * k) (omega arith) (omega arith) (omega (arith, pow_next D))) (same_in n (2 * k + 1) (omega arith) (omega arith) (omega (arith, pow_next D)))
      ∙ sym (b k p x))
      (le_or_lt (2 ^ D) k)

  pub sums_same : (k : ℕ) → 1 ≤ k → k < 2 ^ (D + 1) → word D xs k ≡ word D ys k
  sums_same k p h = same_in (2 ^ (D + 1)) k p (omega arith) h

  -- with the same bits 0 and 1, word 0, and bits behind the last word, all is the same
  pub sums_ext : Bytes xs → Bytes ys → length xs ≡ length ys → ((p : ℕ) → p < 2 → bit xs p ≡ bit ys p) → word D xs 0 ≡ word D ys 0
      → ((p : ℕ) → 2 ^ (D + 2) ≤ p → bit xs p ≡ bit ys p) → xs ≡ ys
  sums_ext hx hy e low zeroth behind = words_ext D xs ys hx hy e low words behind
    where
      words : (k : ℕ) → k < 2 ^ (D + 1) → word D xs k ≡ word D ys k
      words zero h = zeroth
      words (suc k) h = sums_same (suc k) (omega arith) h

-- right sums stay where the words' bits do
pub right_same : {D : ℕ} {xs ys : List ℕ} → ((p : ℕ) → p < 2 ^ (D + 2) → bit ys p ≡ bit xs p) → Right D xs → Right D ys
right_same {D} {xs} {ys} same r = record {
  bit_0 = same 0 (pow_pos (D + 2)) ∙ r.bit_0;
  bit_1 = same 1 (omega (arith, pow_pos D, pow-add 2 D 2)) ∙ r.bit_1;
  depth = words 0 (pow_pos (D + 1)) ∙ r.depth;
  sums = λ k l h.
      let two = pow_next D in
      words k (omega arith) ∙ r.sums k l h ∙ sym (ap₂ (λ (u v : ℕ). u + v) (words (2 * k) (omega arith)) (words (2 * k + 1) (omega arith)));
}
  where
    words : (k : ℕ) → k < 2 ^ (D + 1) → word D ys k ≡ word D xs k
    words = words_same D xs ys same

-- one length, one list of leaf bits and what stands behind the last word: only one list of bytes is right
pub right_one : {D : ℕ} {xs ys : List ℕ} → Bytes xs → Bytes ys → length xs ≡ length ys → Right D xs → Right D ys
    → ((p : ℕ) → p < 2 ^ D → leaf_bit D xs p ≡ leaf_bit D ys p) → ((p : ℕ) → 2 ^ (D + 2) ≤ p → bit xs p ≡ bit ys p) → xs ≡ ys
right_one {D} {xs} {ys} hx hy e a b leaf behind = sums_ext D xs ys a.sums b.sums leaf hx hy e spare (a.depth ∙ sym b.depth) behind
  where
    spare : (p : ℕ) → p < 2 → bit xs p ≡ bit ys p
    spare zero h = a.bit_0 ∙ sym b.bit_0
    spare (suc zero) h = a.bit_1 ∙ sym b.bit_1
    spare (suc (suc p)) h = absurd (omega arith)

-- ---- what making sums leaves

module _ {D : ℕ} {xs ys : List ℕ} (s : Summed D xs ys) where
  pub summed_leaf : (p : ℕ) → leaf_bit D ys p ≡ leaf_bit D xs p
  unfolding leaf_bit
  summed_leaf p = s.same (3 * 2 ^ D + p) (inr (omega arith))

  pub summed_spare : (p : ℕ) → p < 2 → bit ys p ≡ bit xs p
  summed_spare p h = s.same p (inl (omega arith))

  pub summed_depth : word D ys 0 ≡ word D xs 0
  summed_depth =
      word_same D 0 xs ys (λ p a b. s.same p (inl (omega (arith, packed D 0 (pow_pos (D + 1)), from_one D))))

  pub summed_behind : (p : ℕ) → 2 ^ (D + 2) ≤ p → bit ys p ≡ bit xs p
  summed_behind p h = s.same p (inr (omega (arith, pow-add 2 D 2)))

  pub summed_right : bit xs 0 ≡ 0 → bit xs 1 ≡ 0 → word D xs 0 ≡ D → Right D ys
  summed_right a b d = record {
    bit_0 = summed_spare 0 (omega arith) ∙ a;
    bit_1 = summed_spare 1 (omega arith) ∙ b;
    depth = summed_depth ∙ d;
    sums = s.sums;
  }

-- only one list of bytes is another with its sums made right
pub summed_one : {D : ℕ} {xs ys zs : List ℕ} → Bytes ys → Bytes zs → Summed D xs ys → Summed D xs zs → ys ≡ zs
summed_one {D} {xs} {ys} {zs} hy hz a b =
    sums_ext D ys zs a.sums b.sums (λ p h. summed_leaf a p ∙ sym (summed_leaf b p)) hy hz (a.long ∙ sym b.long)
    (λ p h. summed_spare a p h ∙ sym (summed_spare b p h)) (summed_depth a ∙ sym (summed_depth b)) (λ p h. summed_behind a p h ∙ sym (summed_behind b p h))
