-- Zero bytes with the depth word, leaf bits 0 and 2 ^ (D - 1), and right sums: the good panel whose only cut is node 1, with no pin.
use mathlib.Core.Path.{◌≡◌, refl, sym, ap, ◌∙◌, subst}
use mathlib.Core.Logic.{◌≢◌, ◌↔◌, inl, inr, ⊎_elim}
use mathlib.Core.List.{List}
use Prim.Native.Nat.{ℕ, zero, suc, ◌+◌, ◌-◌, ◌*◌, ◌/◌, ◌%◌, ◌^◌, ◌≤◌, ◌<◌}
use native.Mathlib.Nat.{zero-div}
use native.Mathlib.Decide.{ℕ_discrete}
use native.Mathlib.Omega.{arith}
use lib.ListN.{length, replicate, get_or, get_or-eq_default}
use Rattle.std.proofs.lemmas.List.{get_or-replicate, length-replicate}
use Rattle.bits.proofs.Laws.{le_or_lt}
use lib.Pow.{pow_pos}
use Rattle.bits.specs.Bits.{digit, bit}
use Rattle.nodes.proofs.Depths.{pow_next, at_root, depth_zero}
use Rattle.words.specs.Words.{word, leaf_bit}
use Rattle.words.specs.inner.Working.{put_word, put_leaf_bit, Room}
use Rattle.sums.specs.Sums.{Right}
use Rattle.sums.specs.inner.Summed.{Summed}
use Rattle.words.proofs.Rooms.{room_same}
use Rattle.words.proofs.Slots.{wide, packed, from_zero, from_one, word_put_same, length-put_word, bit_put_word}
use Rattle.words.proofs.Leaves.{length_put_leaf, leaf_put_same, leaf_put_other, bit_put_leaf, word_put_leaf}
use Rattle.sums.proofs.Unique.{summed_leaf, summed_right}
use Rattle.cuts.specs.Cuts.{named, Cut, GoodCuts}
use Rattle.pins.specs.Pins.{pin_bit, PinsOnLeaves}
use Rattle.pins.proofs.PinBits.{pin_put_leaf, summed_pin}
use Rattle.panel.specs.Panels.{Fits, deep_of}
use Rattle.panel.specs.Calls.{Fresh}
use Rattle.cuts.specs.inner.Steps.{CutPlace}
use Rattle.cuts.proofs.Places.{cut_place, cut_place_lem, cut_set}
use Rattle.panel.proofs.Lengths.{fits_small, fits_deep, fits_right, fits_room}

-- ---- the only cut

-- leaf bit 2 ^ (D - 1) names node 1
pub root_place : (D : ℕ) → 1 ≤ D → D ≤ 17 → CutPlace D 1 (2 ^ (D - 1))
root_place D l h =
    let e : cut_place D (D - 1) 1 ≡ 2 ^ (D - 1) = omega (arith, pow_next (D - 1), ap (λ x. 2 ^ x) (let g : D - 1 + 1 ≡ D = omega arith in g)) in
    subst (CutPlace D 1) e (cut_place_lem D 0 (D - 1) 1 (omega arith) at_root (omega arith))

-- where no other place but 0 is set, no other node is cut
module _ (D : ℕ) (f : ℕ → ℕ) (l : 1 ≤ D) (h : D ≤ 17) (one : f (2 ^ (D - 1)) ≡ 1)
    (none : (p : ℕ) → p ≢ 0 → p ≢ 2 ^ (D - 1) → f p ≡ 0) where
  pub only_root : (n : ℕ) → Cut D f n ↔ (n ≡ 1)
  only_root n = (
    λ c. go c (ℕ_discrete c.place (2 ^ (D - 1))),
    λ e. subst (Cut D f) (sym e) ((cut_set D f (omega arith) (root_place D l h)).1 one),
  )
    where
      go : (c : Cut D f n) → Dec (c.place ≡ 2 ^ (D - 1)) → n ≡ 1
      go c (yes e) = sym c.names ∙ ap (λ p. named D p) e ∙ (root_place D l h).names
      go c (no e) = absurd (omega (arith, c.low, c.set, none c.place (omega (arith, c.low)) e))

  pub root_good : GoodCuts (Cut D f)
  root_good = record {
    root = (only_root 1).1 refl;
    up = λ n g c. absurd (omega (arith, (only_root n).0 c));
    over = λ n g c. absurd (omega (arith, (only_root n).0 c));
  }

-- ---- the bytes

-- t is as long as s, and every byte of it is zero
pub record Cleared (s t : List ℕ) : Type 0 where
  pub long : length t ≡ length s
  pub zero : (i : ℕ) → get_or t i 0 ≡ 0

-- what `fill` says of zeros. Past the end every byte reads as zero
pub filled : {s t : List ℕ} → (((y : ℕ) → y ≡ 0 → y ≡ 0) → t ≡ replicate (length s) 0) → Cleared s t
filled {s} {t} h =
    let e = h (λ y p. p) in
    record {
      long = ap length e ∙ length-replicate (length s) 0;
      zero = λ k. ap (λ (x : List ℕ). get_or x k 0) e ∙ ⊎_elim (λ q. get_or-eq_default (replicate (length s) 0) 0 (omega (arith, q, length-replicate {A = ℕ} (length s) 0))) (λ q. get_or-replicate (length s) k 0 0 q) (le_or_lt (length s) k);
    }

small : (D : ℕ) → D < 2 ^ (D + 1)
small zero = omega arith
small (suc D) = omega (arith, small D, pow_next (suc D), pow_next D)

-- the depth word holds D
pub depth_fits : (D : ℕ) → D < 2 ^ wide D 0
depth_fits D = subst (λ w. D < 2 ^ w) (let e : D + 1 ≡ wide D 0 = omega (arith, depth_zero) in e) (small D)

pub half : {D : ℕ} {s : List ℕ} → Fits s D → 2 ^ D ≡ 2 * 2 ^ (D - 1)
half {D} F = ap (λ x. 2 ^ x) (let g : D ≡ D - 1 + 1 = omega (arith, F.low) in g) ∙ pow_next (D - 1)

module _ {D : ℕ} {s z : List ℕ} (F : Fits s D) (C : Cleared s z) where
  room : Room D z
  room = room_same C.long (fits_room s D F)

  abbrev headed : List ℕ
  headed = put_word D z 0 D

  abbrev started : List ℕ
  started = put_leaf_bit D headed 0 1

  abbrev halved : List ℕ
  halved = put_leaf_bit D started (2 ^ (D - 1)) 1

  bit_zero : (p : ℕ) → bit z p ≡ 0
  bit_zero p = ap (λ x. digit x (p % 8)) (C.zero (p / 8)) ∙ ap (λ x. x % 2) (zero-div (2 ^ (p % 8)))

  -- word 0 ends at bit D + 3
  head_end : 2 + wide D 0 ≡ D + 3
  head_end = omega (arith, packed D 0 (pow_pos (D + 1)), from_zero D, from_one D)

  leaf_zero : (p : ℕ) → leaf_bit D headed p ≡ 0
  unfolding leaf_bit
  leaf_zero p =
      bit_put_word D z 0 D (3 * 2 ^ D + p) (inr (omega (arith, head_end, from_zero D, small D, pow_next D, pow_pos D)))
      ∙ bit_zero (3 * 2 ^ D + p)

  length_headed : length headed ≡ length z
  length_headed = length-put_word D z 0 D

  length_started : length started ≡ length z
  length_started = length_put_leaf D headed 0 1 ∙ length_headed

  pub length_halved : length halved ≡ length s
  length_halved = length_put_leaf D started (2 ^ (D - 1)) 1 ∙ length_started ∙ C.long

  leaf_half : leaf_bit D halved (2 ^ (D - 1)) ≡ 1
  leaf_half = leaf_put_same D started (2 ^ (D - 1)) 1 (omega arith) (room_same length_started room) (omega (arith, half F, pow_pos (D - 1)))

  leaf_start : leaf_bit D halved 0 ≡ 1
  leaf_start =
      leaf_put_other D started (2 ^ (D - 1)) 1 (omega arith) 0 (λ e. omega (arith, pow_pos (D - 1)))
      ∙ leaf_put_same D headed 0 1 (omega arith) (room_same length_headed room) (pow_pos D)

  leaf_other : (p : ℕ) → p ≢ 0 → p ≢ 2 ^ (D - 1) → leaf_bit D halved p ≡ 0
  leaf_other p a b =
      leaf_put_other D started (2 ^ (D - 1)) 1 (omega arith) p b ∙ leaf_put_other D headed 0 1 (omega arith) p a ∙ leaf_zero p

  spare : (p : ℕ) → p < 2 → bit halved p ≡ 0
  spare p h =
      bit_put_leaf D started (2 ^ (D - 1)) 1 (omega arith) p (omega (arith, half F, pow_pos (D - 1))) (inl (omega (arith, pow_pos D)))
      ∙ bit_put_leaf D headed 0 1 (omega arith) p (pow_pos D) (inl (omega (arith, pow_pos D)))
      ∙ bit_put_word D z 0 D p (inl (omega (arith, from_zero D))) ∙ bit_zero p

  depth_word : word D halved 0 ≡ D
  depth_word =
      word_put_leaf D started (2 ^ (D - 1)) 1 (omega arith) 0 (omega (arith, half F, pow_pos (D - 1))) (pow_pos D)
      ∙ word_put_leaf D headed 0 1 (omega arith) 0 (pow_pos D) (pow_pos D)
      ∙ word_put_same D z 0 D (pow_pos (D + 1)) (depth_fits D) room.long

  pin_zero : (p : ℕ) → pin_bit D halved p ≡ 0
  unfolding pin_bit
  pin_zero p =
      pin_put_leaf D started (2 ^ (D - 1)) 1 (omega arith) (omega (arith, half F, pow_pos (D - 1))) p
      ∙ pin_put_leaf D headed 0 1 (omega arith) (pow_pos D) p
      ∙ bit_put_word D z 0 D (4 * 2 ^ D + p) (inr (omega (arith, head_end, from_zero D, small D, pow_next D, pow_pos D)))
      ∙ bit_zero (4 * 2 ^ D + p)

  pub fresh : {t : List ℕ} → Summed D halved t → Fresh D t
  fresh {t} S = record {
    good = record {
      fits = fits_right t D fits_t;
      right = subst (λ d. Right d t) (sym deep) (summed_right S (spare 0 (omega arith)) (spare 1 (omega arith)) depth_word);
      first = subst (λ d. leaf_bit d t 0 ≡ 1) (sym deep) (summed_leaf S 0 ∙ leaf_start);
      cuts = subst (λ d. GoodCuts (Cut d (leaf_bit d t))) (sym deep) (root_good D (leaf_bit D t) (omega (arith, F.low)) (fits_small F) one none);
      pins = subst (λ d. PinsOnLeaves d t) (sym deep) (λ p h. omega (arith, unpinned p));
    };
    deep = deep;
    cuts = subst (λ d. (n : ℕ) → Cut d (leaf_bit d t) n ↔ (n ≡ 1)) (sym deep) (only_root D (leaf_bit D t) (omega (arith, F.low)) (fits_small F) one none);
    pins = λ p h. unpinned p;
  }
    where
      fits_t : Fits t D
      fits_t = record { low = F.low; high = F.high; long = S.long ∙ length_halved ∙ F.long }

      deep : deep_of t ≡ D
      deep = fits_deep t D fits_t

      one : leaf_bit D t (2 ^ (D - 1)) ≡ 1
      one = summed_leaf S (2 ^ (D - 1)) ∙ leaf_half

      none : (p : ℕ) → p ≢ 0 → p ≢ 2 ^ (D - 1) → leaf_bit D t p ≡ 0
      none p a b = summed_leaf S p ∙ leaf_other p a b

      unpinned : (p : ℕ) → pin_bit D t p ≡ 0
      unpinned p = summed_pin S p ∙ pin_zero p
