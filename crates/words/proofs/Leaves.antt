-- Leaf bits: a write to one leaves every other bit, and the part of the bytes that they fill holds them in order.
use mathlib.Core.Path.{◌≡◌, ap, ◌∙◌}
use mathlib.Core.Logic.{◌⊎◌, inl, ⊎_elim}
use mathlib.Core.List.{List}
use Prim.Native.Nat.{ℕ, ◌+◌, ◌-◌, ◌*◌, ◌/◌, ◌%◌, ◌^◌, ◌≤◌, ◌<◌}
use native.Mathlib.Omega.{arith}
use lib.ListN.{length, take, drop}
use lib.Seq.{get_or-take}
use Rattle.bits.specs.Bits.{digit, bit}
use Rattle.bits.proofs.Laws.{length_put_bit, bit_put_same, bit_put_other}
use Rattle.bits.proofs.Windows.{bit-drop}
use Rattle.nodes.proofs.Depths.{pow_next}
use Rattle.words.specs.Words.{word, leaf_bit}
use Rattle.words.specs.inner.Working.{put_leaf_bit, Room}
use Rattle.words.proofs.Slots.{apart, from_leaf, word_same}
use Rattle.words.proofs.Rooms.{bounds, whole_bytes}

module _ (D : ℕ) (bs : List ℕ) (p v : ℕ) where
  pub length_put_leaf : length (put_leaf_bit D bs p v) ≡ length bs
  unfolding put_leaf_bit
  length_put_leaf = length_put_bit bs (3 * 2 ^ D + p) v

  module _ (hv : v < 2) where
    pub leaf_put_same : Room D bs → p < 2 ^ D → leaf_bit D (put_leaf_bit D bs p v) p ≡ v
    unfolding leaf_bit put_leaf_bit
    leaf_put_same r h = bit_put_same bs (3 * 2 ^ D + p) v (omega (arith, bounds r)) hv

    pub leaf_put_other : (q : ℕ) → (q ≡ p → ⊥) → leaf_bit D (put_leaf_bit D bs p v) q ≡ leaf_bit D bs q
    unfolding leaf_bit put_leaf_bit
    leaf_put_other q n = bit_put_other bs (3 * 2 ^ D + p) (3 * 2 ^ D + q) v hv (λ e. n (omega arith))

    -- every bit outside the leaf bits' place
    pub bit_put_leaf : (q : ℕ) → p < 2 ^ D → (q < 3 * 2 ^ D) ⊎ (4 * 2 ^ D ≤ q) → bit (put_leaf_bit D bs p v) q ≡ bit bs q
    unfolding put_leaf_bit
    bit_put_leaf q h o =
        bit_put_other bs (3 * 2 ^ D + p) q v hv (⊎_elim (λ l e. omega arith) (λ l e. omega arith) o)

    -- every sum, and word 0
    pub word_put_leaf : (k : ℕ) → p < 2 ^ D → k < 2 ^ D → word D (put_leaf_bit D bs p v) k ≡ word D bs k
    word_put_leaf k h l =
        word_same D k bs (put_leaf_bit D bs p v)
        (λ q a b. bit_put_leaf q h (inl (omega (arith, apart D k (2 ^ D) l (omega (arith, pow_next D)), from_leaf D))))

-- bit p of the part of the bytes that the leaf bits fill is leaf bit p
pub part-bit : (D : ℕ) (bs : List ℕ) (p : ℕ) → 3 ≤ D → p < 2 ^ D → bit (take (2 ^ (D - 3)) (drop (3 * 2 ^ (D - 3)) bs)) p ≡ leaf_bit D bs p
unfolding leaf_bit
part-bit D bs p l h =
    let e = whole_bytes D l in
    let b : p / 8 < 2 ^ (D - 3) = omega arith in
    ap (λ (x : ℕ). digit x (p % 8)) (get_or-take (2 ^ (D - 3)) (drop (3 * 2 ^ (D - 3)) bs) (p / 8) 0 b)
    ∙ bit-drop bs (3 * 2 ^ (D - 3)) p ∙ ap (bit bs) (omega arith)
