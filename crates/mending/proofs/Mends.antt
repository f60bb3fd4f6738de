-- Mending makes right what stands before the leaf bits, closes the cuts that they name, and clears the pins beside leaves. The sums made before
-- and after count the leaf bits, and of these none that was set is cleared.
use mathlib.Core.Path.{◌≡◌, sym, ap, ◌∙◌, subst}
use mathlib.Core.Logic.Iff
use mathlib.Core.Logic.{◌⊎◌, inl, inr, ◌↔◌}
use mathlib.Core.List.{List}
use Prim.Native.Nat.{ℕ, ◌+◌, ◌-◌, ◌*◌, ◌^◌, ◌≤◌, ◌<◌}
use native.Mathlib.Decide.{ℕ_discrete}
use native.Mathlib.Omega.{arith}
use lib.ListN.{length}
use lib.Pow.{pow_pos}
use Rattle.bits.specs.Bits.{bit}
use Rattle.bits.specs.inner.Puts.{put_field}
use Rattle.bits.proofs.Laws.{run_ext, length-put_field, bit_out, bit_put_other, field_put_same}
use Rattle.words.specs.Words.{word, leaf_bit}
use Rattle.words.specs.inner.Working.{put_leaf_bit, Room}
use Rattle.words.proofs.Heads.{head_inside, head_fits, head_right}
use Rattle.words.proofs.Leaves.{length_put_leaf, leaf_put_same, bit_put_leaf}
use Rattle.words.proofs.Rooms.{bounds, room_same}
use Rattle.sums.specs.Rank.{rank}
use Rattle.sums.specs.Sums.{Right}
use Rattle.sums.specs.inner.Summed.{Summed}
use Rattle.sums.proofs.Ranks.{first_counts, rank_first, rank_rest}
use Rattle.sums.proofs.Counts.{leaf_bits, word_all}
use Rattle.sums.proofs.Unique.{summed_leaf, right_same}
use Rattle.cuts.specs.Cuts.{Cut, Smallest}
use Rattle.cuts.specs.inner.Closing.{CutsClosed}
use Rattle.cuts.proofs.ForcedCuts.{smallest_iff, smallest_beside}
use Rattle.cuts.proofs.OneBit.{cut_same, bits_more}
use Rattle.pins.specs.Pins.{pin_bit, PinsOnLeaves}
use Rattle.pins.specs.inner.Steps.{PinsCleared}
use Rattle.pins.proofs.PinBits.{pin_lt, summed_pin}
use Rattle.panel.specs.Panels.{Fits, deep_of, RightLength, CutOf, leaf_count}
use Rattle.panel.specs.Calls.{MendAt, named_cuts, MendedBy}
use Rattle.panel.proofs.Lengths.{fits_small, fits_deep, fits_right, right_as_long, fits_room}
use Rattle.panel.proofs.SameBytes.{cut_of, deep_same}
use Rattle.mending.specs.inner.Mending.{Begun}

-- ---- the head and leaf bit 0

module _ {D : ℕ} {xs : List ℕ} (r : Room D xs) where
  -- the head ends before the leaf bits
  before_leaves : D + 3 ≤ 3 * 2 ^ D
  before_leaves = omega (arith, bounds r, r.high)

  abbrev headed : List ℕ
  headed = put_field xs 0 (D + 3) (4 * D)

  pub begun : {ys : List ℕ} → ys ≡ put_leaf_bit D headed 0 1 → Begun D xs ys
  unfolding put_leaf_bit
  begun e = rw e (record {
    long = length_put_leaf D headed 0 1 ∙ length-put_field xs 0 (D + 3) (4 * D);
    head =
        run_ext (bit (put_leaf_bit D headed 0 1)) (bit headed) 0 0 (D + 3) (λ i h. bit_put_leaf D headed 0 1 (omega arith) (0 + i) (pow_pos D) (inl (omega (arith, before_leaves))))
        ∙ field_put_same xs 0 (D + 3) (4 * D) (head_fits D) (omega (arith, head_inside D xs r));
    first = leaf_put_same D headed 0 1 (omega arith) (room_same (length-put_field xs 0 (D + 3) (4 * D)) r) (pow_pos D);
    same = λ q h. bit_put_other headed (3 * 2 ^ D + 0) q 1 (omega arith) (λ i. omega arith) ∙ bit_out xs 0 (D + 3) (4 * D) q (inr (omega (arith, before_leaves)));
  })

-- ---- all steps, at depth D

-- from s to t: the head is written, sums are made, cuts closed, sums made again, and pins cleared; word 1 was old and is new
pub record Steps (D : ℕ) (s t : List ℕ) (old new : ℕ) : Type 0 where
  pub a : List ℕ
  pub b : List ℕ
  pub c : List ℕ
  pub d : List ℕ
  pub begins : Begun D s a
  pub first : Summed D a b
  pub closed : CutsClosed D b c
  pub second : Summed D c d
  pub cleared : PinsCleared D d t
  pub before : old ≡ word D b 1
  pub after : new ≡ word D t 1

module _ {D : ℕ} {s t : List ℕ} {old new : ℕ} (r : Room D s) (m : Steps D s t old new) where
  long : length t ≡ length s
  long = m.cleared.long ∙ m.second.long ∙ m.closed.only.long ∙ m.first.long ∙ m.begins.long

  -- the head stays as it was written
  right : Right D t
  right =
      let (i, j, w) = head_right D m.d (run_ext (bit m.d) (bit m.a) 0 0 (D + 3) (λ q h. head (0 + q) (omega arith)) ∙ m.begins.head) in
      right_same (λ q h. m.cleared.same q (omega (arith, bounds r))) (record { bit_0 = i; bit_1 = j; depth = w; sums = m.second.sums })
    where
      head : (q : ℕ) → q < D + 3 → bit m.d q ≡ bit m.a q
      head q h = m.second.same q (inl h) ∙ m.closed.only.same q (inl (omega (arith, before_leaves r))) ∙ m.first.same q (inl h)

  -- the leaf bits change where cuts are closed, and there alone
  leaf_before : (p : ℕ) → 0 < p → leaf_bit D m.b p ≡ leaf_bit D s p
  unfolding leaf_bit
  leaf_before p h = summed_leaf m.first p ∙ m.begins.same (3 * 2 ^ D + p) (omega arith)

  leaf_after : (p : ℕ) → p < 2 ^ D → leaf_bit D t p ≡ leaf_bit D m.c p
  unfolding leaf_bit
  leaf_after p h = m.cleared.same (3 * 2 ^ D + p) (omega arith) ∙ summed_leaf m.second p

  start : leaf_bit D t 0 ≡ 1
  unfolding leaf_bit
  start = leaf_after 0 (pow_pos D) ∙ m.closed.only.same (3 * 2 ^ D + 0) (inl (omega arith)) ∙ summed_leaf m.first 0 ∙ m.begins.first

  cuts : Smallest (λ n. Cut D (leaf_bit D s) n ⊎ (n ≡ 1)) (Cut D (leaf_bit D t))
  cuts =
      smallest_iff (cut_same D (leaf_bit D m.c) (leaf_bit D t) (λ p _ h. sym (leaf_after p h)))
      (smallest_beside (cut_same D (leaf_bit D m.b) (leaf_bit D s) (λ p l _. leaf_before p l)) m.closed.cuts)

  -- the pins stay until they are cleared
  pin_before : (p : ℕ) → pin_bit D m.d p ≡ pin_bit D s p
  unfolding pin_bit
  pin_before p =
      summed_pin m.second p ∙ m.closed.only.same (4 * 2 ^ D + p) (inr (omega arith)) ∙ summed_pin m.first p
      ∙ m.begins.same (4 * 2 ^ D + p) (omega (arith, pow_pos D))

  pins : (p : ℕ) → p < 2 ^ D → (pin_bit D t p ≡ 1) ↔ ((pin_bit D s p ≡ 1) × (leaf_bit D t p ≡ 1))
  pins p h =
      let l : leaf_bit D t p ≡ leaf_bit D m.d p = leaf_after p h ∙ sym (summed_leaf m.second p) in
      let (to, from) = m.cleared.pins p h in
      (λ z. (sym (pin_before p) ∙ (to z).0, l ∙ (to z).1), λ z. from (pin_before p ∙ z.0, sym l ∙ z.1))

  on_leaves : PinsOnLeaves D t
  on_leaves p h = go (ℕ_discrete (pin_bit D t p) 1)
    where
      go : Dec (pin_bit D t p ≡ 1) → pin_bit D t p ≤ leaf_bit D t p
      go (yes z) = omega (arith, ((pins p h).0 z).1)
      go (no z) = omega (arith, pin_lt D t p)

  -- the first sums count the bits that were set, and bit 0
  old_count : old ≡ rank (leaf_bit D s) (2 ^ D) - leaf_bit D s 0 + 1
  old_count =
      let f = leaf_bit D m.b in
      omega (
        arith,
        m.before,
        word_all D m.b m.first.sums,
        rank_rest f (leaf_bit D s) (2 ^ D) (pow_pos D) (λ p l h. leaf_before p l),
        first_counts f (2 ^ D) (pow_pos D),
        summed_leaf m.first 0,
        m.begins.first,
      )

-- ---- the panel

-- no cut that was named is lost, so nothing is lost in the count's subtractions
pub named_few : {s t : List ℕ} → MendAt s t → named_cuts s + 1 ≤ leaf_count t
named_few {s} {t} M = omega (
  arith,
  count,
  start,
  rank_first (leaf_bit (deep_of s) s) (leaf_bit (deep_of s) t) (2 ^ deep_of s) (pow_pos (deep_of s)) more,
  first_counts (leaf_bit (deep_of s) s) (2 ^ deep_of s) (pow_pos (deep_of s)),
)
  where
    deep : deep_of t ≡ deep_of s
    deep = deep_same s t M.long

    count : leaf_count t ≡ rank (leaf_bit (deep_of s) t) (2 ^ deep_of s)
    count = subst (λ D. leaf_count t ≡ rank (leaf_bit D t) (2 ^ D)) deep (word_all (deep_of t) t M.good.right.sums)

    start : leaf_bit (deep_of s) t 0 ≡ 1
    start = subst (λ D. leaf_bit D t 0 ≡ 1) deep M.good.first

    more : (p : ℕ) → 0 < p → p < 2 ^ deep_of s → leaf_bit (deep_of s) s p ≤ leaf_bit (deep_of s) t p
    more =
        bits_more (deep_of s) (omega (arith, deep, fits_small M.good.fits)) (leaf_bit (deep_of s) s) (leaf_bit (deep_of s) t) (leaf_bits (deep_of s) s)
        (λ n h q. (cut_of s t M.long n).0 (M.cuts.holds n (inl q)))

module _ {s t : List ℕ} {old new : ℕ} (F : RightLength s) (m : Steps (deep_of s) s t old new) where
  room : Room (deep_of s) s
  room = fits_room s (deep_of s) F

  mended : MendAt s t
  mended = record {
    good = record {
      fits = right_as_long (long room m) F;
      right = subst (λ D. Right D t) (sym deep) (right room m);
      first = subst (λ D. leaf_bit D t 0 ≡ 1) (sym deep) (start room m);
      cuts = closed.good;
      pins = subst (λ D. PinsOnLeaves D t) (sym deep) (on_leaves room m);
    };
    long = long room m;
    cuts = closed;
    pins = pins room m;
  }
    where
      deep : deep_of t ≡ deep_of s
      deep = deep_same s t (long room m)

      closed : Smallest (λ n. CutOf s n ⊎ (n ≡ 1)) (CutOf t)
      closed = smallest_iff (λ n. Iff.symm (cut_of s t (long room m) n)) (cuts room m)

  counted : (old ≤ new) × MendedBy s (record { panel = t; added = new - old })
  counted =
      let n : new ≡ leaf_count t = m.after ∙ ap (λ D. word D t 1) (sym (deep_same s t (long room m))) in
      let o = old_count room m in
      (omega (arith, named_few mended), record { mended = mended; count = omega (arith, named_few mended) })

-- as the code asks: D is the panel's depth
pub mended_by : {D : ℕ} {s t : List ℕ} {old new : ℕ} → Fits s D → Steps D s t old new → (old ≤ new) × MendedBy s (record { panel = t; added = new - old })
mended_by {D} {s} {t} {old} {new} F m = counted (fits_right s D F) (subst (λ d. Steps d s t old new) (sym (fits_deep s D F)) m)
