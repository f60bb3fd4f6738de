-- A bit that is put adds the cut that it names, and what is asked for at one node is drawn by two.
use mathlib.Core.Path.{◌≡◌, refl, ◌∙◌}
use mathlib.Core.Logic.{◌⊎◌, inl, inr, ⊎_elim, ◌↔◌}
use mathlib.Core.List.{List}
use Prim.Native.Nat.{ℕ, ◌+◌, ◌*◌, ◌/◌, ◌^◌, ◌≤◌}
use native.Mathlib.Omega.{arith}
use Rattle.bits.proofs.Laws.{bit_put_other}
use Rattle.words.specs.Words.{leaf_bit}
use Rattle.words.specs.inner.Working.{put_leaf_bit, Room}
use Rattle.words.proofs.Leaves.{length_put_leaf, leaf_put_same, leaf_put_other}
use Rattle.words.proofs.Rooms.{room_same}
use Rattle.cuts.specs.Cuts.{Cut}
use Rattle.cuts.specs.inner.Steps.{CutPlace}
use Rattle.cuts.specs.inner.Closing.{Asked, Drawn, Draws, OnlyLeaves, CutAlso, CutsDrawn}
use Rattle.cuts.proofs.OneBit.{add_iff}
use Rattle.cuts.proofs.Closing.{draws_none, draws_then}

-- ---- leaf bits alone

pub only_none : (D : ℕ) (xs : List ℕ) → OnlyLeaves D xs xs
only_none D xs = record { long = refl; same = λ p o. refl }

pub only_then : {D : ℕ} {xs ys zs : List ℕ} → OnlyLeaves D xs ys → OnlyLeaves D ys zs → OnlyLeaves D xs zs
only_then a b = record { long = b.long ∙ a.long; same = λ p o. b.same p o ∙ a.same p o }

pub only_room : {D : ℕ} {xs ys : List ℕ} → Room D xs → OnlyLeaves D xs ys → Room D ys
only_room r o = room_same o.long r

-- ---- one bit

module _ {D : ℕ} {xs ys : List ℕ} {n p : ℕ} (r : Room D xs) (at : CutPlace D n p) (put : ys ≡ put_leaf_bit D xs p 1) where
  pub cut_also : CutAlso D n xs ys
  unfolding put_leaf_bit
  cut_also = rw put (record {
    only = record {
      long = length_put_leaf D xs p 1;
      same = λ q o. bit_put_other xs (3 * 2 ^ D + p) q 1 (omega arith) (λ e. ⊎_elim (λ l. omega (arith, at.low)) (λ l. omega (arith, at.high)) o);
    };
    cuts = add_iff (omega (arith, r.high)) at (record {
      here = leaf_put_same D xs p 1 (omega arith) r at.high;
      other = λ q l z. leaf_put_other D xs p 1 (omega arith) q z;
    });
  })

-- ---- one node

module _ {P : ℕ → Type 0} {n : ℕ} where
  pub draws_node : {Q R : ℕ → Type 0} → Asked P n → ((m : ℕ) → Q m ↔ (P m ⊎ (m ≡ n))) → ((m : ℕ) → R m ↔ (Q m ⊎ (m ≡ n / 2))) → Draws n (n + 1) P R
  draws_node {Q} {R} a f g m = (λ r. ⊎_elim (λ q. ⊎_elim inl (λ e. drawn (inl e)) ((f m).0 q)) (λ e. drawn (inr e)) ((g m).0 r), ⊎_elim (λ p. (g m).1 (inl ((f m).1 (inl p)))) back)
    where
      drawn : (m ≡ n) ⊎ (m ≡ n / 2) → P m ⊎ Drawn P n (n + 1) m
      drawn e = inr (record { by = n; from = omega arith; below = omega arith; asked = a; is = e })

      back : Drawn P n (n + 1) m → R m
      back w = ⊎_elim (λ e. (g m).1 (inl ((f m).1 (inr (omega (arith, w.from, w.below)))))) (λ e. (g m).1 (inr (omega (arith, w.from, w.below)))) w.is

pub drawn_node : {D n : ℕ} {xs ys zs : List ℕ} → Asked (Cut D (leaf_bit D xs)) n → CutAlso D n xs ys → CutAlso D (n / 2) ys zs → CutsDrawn D n (n + 1) xs zs
drawn_node a f g = record { only = only_then f.only g.only; cuts = draws_node a f.cuts g.cuts }

-- ---- a level

pub drawn_none : (D low : ℕ) (xs : List ℕ) → CutsDrawn D low low xs xs
drawn_none D low xs = record { only = only_none D xs; cuts = draws_none low (Cut D (leaf_bit D xs)) }

pub drawn_then : (d : ℕ) {D low mid high : ℕ} {xs ys zs : List ℕ} → 2 ^ d ≤ low → low ≤ mid → mid ≤ high → high ≤ 2 ^ (d + 1) → CutsDrawn D low mid xs ys → CutsDrawn D mid high ys zs → CutsDrawn D low high xs zs
drawn_then d first second third last a b = record { only = only_then a.only b.only; cuts = draws_then d first second third last a.cuts b.cuts }
