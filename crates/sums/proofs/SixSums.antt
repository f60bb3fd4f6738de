-- Six rows of sums over 64 bits, each made in words of twice the width of those below, and packed.
use mathlib.Core.Path.{◌≡◌, refl, sym, ap, ◌∙◌, subst}
use Prim.Native.Nat.{ℕ, ◌+◌, ◌*◌, ◌/◌, ◌^◌, ◌<◌}
use native.Mathlib.Nat.{mod-lt}
use native.Mathlib.Omega.{arith}
use lib.Pow.{pow-add}
use Rattle.bits.specs.inner.Abreast.{part, Narrow, Joined, Packed}
use Rattle.bits.proofs.Abreast.{abreast_lt, part-abreast, one_word}
use Rattle.sums.specs.inner.Rows.{PairSums, SixOver}

-- ---- a row from the row below

-- the n words of v bits in x are those of w bits in y
pub record SameWords (n v w x y : ℕ) : Type 0 where
  pub at : (i : ℕ) → i < n → part v x i ≡ part w y i

-- the sums of words of w bits have w + 1
pub narrow_next : {n v w x y : ℕ} → Narrow (2 * n) v w x → Joined n v 0 x y → Narrow n (2 * v) (w + 1) y
narrow_next {n} {v} {w} h j = record { lt = λ i l. omega (arith, j.two i l, h.lt (2 * i) (omega arith), h.lt (2 * i + 1) (omega arith), pow-add 2 w 1) }

pub packed_same : {n v w x r : ℕ} → Narrow n v w x → Packed n v w x r → SameWords n w v r x
packed_same {n} {v} {w} {x} h p = record { at = λ i l. ap (λ (y : ℕ). part w y i) p.is ∙ part-abreast n w (part v x) h.lt i l }

pub packed_small : {n v w x r : ℕ} → Narrow n v w x → Packed n v w x r → r < 2 ^ (n * w)
packed_small {n} {v} {w} {x} h p = subst (λ (y : ℕ). y < 2 ^ (n * w)) (sym p.is) (abreast_lt n w (part v x) h.lt)

-- where x and y are rows packed
pub row_pairs : {n v w x y x' y' : ℕ} → SameWords (2 * n) w v x x' → SameWords n (w + 1) (2 * v) y y' → Joined n v 0 x' y' → PairSums n w x y
row_pairs a b j i l = b.at i l ∙ omega (arith, j.two i l, a.at (2 * i) (omega arith), a.at (2 * i + 1) (omega arith))

-- six rows: a to f hold the sums over x in words of twice the width each, b' to f' are b to f packed
module _ {x a b c d e : ℕ} (ha : Joined 32 1 0 x a) (hb : Joined 16 2 0 a b) (hc : Joined 8 4 0 b c) (hd : Joined 4 8 0 c d) (he : Joined 2 16 0 d e) where
  pub fours_narrow : Narrow 16 4 3 b
  fours_narrow = narrow_next {w = 2} (record { lt = λ i l. mod-lt (a / 2 ^ (i * 2)) {m = 4} (omega arith) }) hb

  pub eights_narrow : Narrow 8 8 4 c
  eights_narrow = narrow_next fours_narrow hc

  pub sixteens_narrow : Narrow 4 16 5 d
  sixteens_narrow = narrow_next eights_narrow hd

  pub halves_narrow : Narrow 2 32 6 e
  halves_narrow = narrow_next sixteens_narrow he

  module _ {f b' c' d' e' : ℕ} (hf : Joined 1 32 0 e f) (pb : Packed 16 4 3 b b') (pc : Packed 8 8 4 c c') (pd : Packed 4 16 5 d d') (pe : Packed 2 32 6 e e') (la : a < 2 ^ 64) (lf : f < 2 ^ 64) where
    all_narrow : Narrow 1 64 7 f
    all_narrow = narrow_next halves_narrow hf

    pf : Packed 1 64 7 f f
    pf = record { is = sym (one_word 7 64 f lf) }

    sb : SameWords 16 3 4 b' b
    sb = packed_same fours_narrow pb

    sc : SameWords 8 4 8 c' c
    sc = packed_same eights_narrow pc

    sd : SameWords 4 5 16 d' d
    sd = packed_same sixteens_narrow pd

    se : SameWords 2 6 32 e' e
    se = packed_same halves_narrow pe

    pub six_over : SixOver x a b' c' d' e' f
    six_over = record {
      small = (la, packed_small fours_narrow pb, packed_small eights_narrow pc, packed_small sixteens_narrow pd, packed_small halves_narrow pe, packed_small all_narrow pf);
      six = record {
        twos = λ i l. omega (arith, ha.two i l);
        fours = row_pairs {x' = a} (record { at = λ i l. refl }) sb hb;
        eights = row_pairs sb sc hc;
        sixteens = row_pairs sc sd hd;
        halves = row_pairs sd se he;
        all = row_pairs se (packed_same all_narrow pf) hf;
      };
    }
