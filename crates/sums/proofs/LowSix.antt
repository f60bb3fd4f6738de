-- The six lowest rows: below word j of row D - 6 stand 64 leaf bits, and 32, 16, .. words of the rows between, each side by side.
use mathlib.Core.Path.{◌≡◌, refl, sym, ap, ◌∙◌, subst}
use mathlib.Core.Logic.{⊎_elim}
use mathlib.Core.List.{List, [], ◌∷◌}
use Prim.Native.Nat.{ℕ, ◌+◌, ◌-◌, ◌*◌, ◌/◌, ◌^◌, ◌≤◌, ◌<◌}
use native.Mathlib.Nat.{mul-add, add-mul, mul_assoc, mul_comm, mul-le-mul_right}
use native.Mathlib.Omega.{arith}
use lib.ListN.{length}
use lib.Pow.{pow-add, pow_mono}
use Rattle.bits.specs.Bits.{field}
use Rattle.bits.proofs.Laws.{field_lt}
use Rattle.bits.proofs.Puts.{Put, puts, length_puts, field_aside, puts_hold}
use Rattle.nodes.proofs.Depths.{pow_next}
use Rattle.sums.specs.inner.Rows.{SumsBetween, Made, PairSums, Six, SixOver, SixAt, ApartSix, SixMade}
use Rattle.words.proofs.Slots.{from, from_leaf}
use Rattle.words.proofs.Rooms.{whole_words}
use Rattle.sums.proofs.Rows.{from_row, sums_join}
use Rattle.sums.proofs.Pairs.{pairs_sums, sums_pairs, pairs_one}
use Rattle.sums.proofs.Steps.{Blockwise, blocks_next, blocks_all}

-- ---- the words that stand there are the sums

pub record SameSix (m : ℕ) (bs : List ℕ) (j a b c d e f : ℕ) : Type 0 where
  pub twos : a ≡ field bs (8 * (16 * m + 8 * j)) 64
  pub fours : b ≡ field bs (8 * (10 * m + 6 * j)) 48
  pub eights : c ≡ field bs (8 * (6 * m + 4 * j)) 32
  pub sixteens : d ≡ field bs (28 * m + 20 * j) 20
  pub halves : e ≡ field bs (16 * m + 12 * j) 12
  pub all : f ≡ field bs (9 * m + 7 * j) 7

module _ {x a b c d e f : ℕ} (o : SixOver x a b c d e f) (m : ℕ) (bs : List ℕ) (j : ℕ) (ex : x ≡ field bs (8 * (24 * m + 8 * j)) 64) where
  pub six_same : SixAt m bs j → SameSix m bs j a b c d e f
  six_same t =
      let (la, lb, lc, ld, le, lf) = o.small in
      let s = o.six in
      let lt : (p w : ℕ) → field bs p w < 2 ^ w = field_lt bs in
      let twos = pairs_one 32 1 x la (lt (8 * (16 * m + 8 * j)) 64) s.twos (subst (λ (v : ℕ). PairSums 32 1 v (field bs (8 * (16 * m + 8 * j)) 64)) (sym ex) t.twos) in
      let fours = pairs_one 16 2 a lb (lt (8 * (10 * m + 6 * j)) 48) s.fours (subst (λ (v : ℕ). PairSums 16 2 v (field bs (8 * (10 * m + 6 * j)) 48)) (sym twos) t.fours) in
      let eights = pairs_one 8 3 b lc (lt (8 * (6 * m + 4 * j)) 32) s.eights (subst (λ (v : ℕ). PairSums 8 3 v (field bs (8 * (6 * m + 4 * j)) 32)) (sym fours) t.eights) in
      let sixteens = pairs_one 4 4 c ld (lt (28 * m + 20 * j) 20) s.sixteens (subst (λ (v : ℕ). PairSums 4 4 v (field bs (28 * m + 20 * j) 20)) (sym eights) t.sixteens) in
      let halves = pairs_one 2 5 d le (lt (16 * m + 12 * j) 12) s.halves (subst (λ (v : ℕ). PairSums 2 5 v (field bs (16 * m + 12 * j) 12)) (sym sixteens) t.halves) in
      let all = pairs_one 1 6 e lf (lt (9 * m + 7 * j) 7) s.all (subst (λ (v : ℕ). PairSums 1 6 v (field bs (9 * m + 7 * j) 7)) (sym halves) t.all) in
      record { twos = twos; fours = fours; eights = eights; sixteens = sixteens; halves = halves; all = all }

-- a row's pairs where both numbers are those that stand there
moved : (n w : ℕ) {p q p' q' : ℕ} → p ≡ p' → q ≡ q' → PairSums n w p q → PairSums n w p' q'
moved n w {p} {q} {p'} {q'} g h s = subst (λ (v : ℕ). PairSums n w p' v) h (subst (λ (v : ℕ). PairSums n w v q) g s)

pub same_six : {x a b c d e f : ℕ} → Six x a b c d e f → (m : ℕ) (bs : List ℕ) (j : ℕ) → x ≡ field bs (8 * (24 * m + 8 * j)) 64 → SameSix m bs j a b c d e f → SixAt m bs j
same_six s m bs j ex t = record {
  twos = moved 32 1 ex t.twos s.twos;
  fours = moved 16 2 t.twos t.fours s.fours;
  eights = moved 8 3 t.fours t.eights s.eights;
  sixteens = moved 4 4 t.eights t.sixteens s.sixteens;
  halves = moved 2 5 t.sixteens t.halves s.halves;
  all = moved 1 6 t.halves t.all s.all;
}

-- ---- where they stand

module _ (D e : ℕ) (h : e + 6 ≡ D) where
  abbrev m : ℕ
  m = 2 ^ e

  module _ (bs : List ℕ) (j : ℕ) (l : j < m) where
    -- the n words of w bits, g rows down
    module _ (g n w : ℕ) (hw : g + w ≡ 7) (hp : 1 ≤ w) (hn : 2 ^ g ≡ n) where
      row : 2 ^ (e + g) ≡ m * n
      row = pow-add 2 e g ∙ ap (λ (x : ℕ). m * x) hn

      first : n * (m + j) ≡ 2 ^ (e + g) + n * j
      first = mul-add n m j ∙ omega (arith, mul_comm n m, row)

      room : n * j + n ≤ m * n
      room = omega (arith, mul-le-mul_right {m = j + 1} {n = m} n (omega arith), add-mul j 1 n, mul_comm n j)

      pub place : from D (n * (m + j)) ≡ 2 * (m * n) + m * n * w + n * j * w
      place =
          from_row D (e + g) w (omega arith) (omega arith) (n * j) (n * (m + j)) first (omega (arith, room, row))
          ∙ omega (arith, pow_next (e + g), row, ap (λ (x : ℕ). x * w) row)

    -- the sums of a row over the 64 bits: the row's n words of w + 1 bits stand at s, the words below it at t
    module _ (g n w : ℕ) (hw : g + w ≡ 6) (hp : 1 ≤ w) (hn : 2 ^ g ≡ n) {s t : ℕ} (es : from D (n * (m + j)) ≡ s) (et : from D (2 * n * (m + j)) ≡ t) where
      abbrev k : ℕ
      k = n * (m + j)

      twice : from D (2 * k) ≡ t
      twice = ap (from D) (sym (mul_assoc 2 n (m + j))) ∙ et

      low : 2 ^ (e + g) ≤ k
      low = omega (arith, first g n (w + 1) (omega arith) (omega arith) hn)

      high : k + n ≤ 2 ^ (e + g + 1)
      high = omega (arith, first g n (w + 1) (omega arith) (omega arith) hn, room g n (w + 1) (omega arith) (omega arith) hn, row g n (w + 1) (omega arith) (omega arith) hn, pow_next (e + g))

      pub right_here : PairSums n w (field bs t (2 * n * w)) (field bs s (n * (w + 1))) → SumsBetween D bs k (k + n)
      right_here p =
          pairs_sums D (e + g) w (omega arith) hp bs k n low high
          (subst (λ (x : ℕ). PairSums n w (field bs x (2 * n * w)) (field bs (from D k) (n * (w + 1)))) (sym twice)
          (subst (λ (x : ℕ). PairSums n w (field bs t (2 * n * w)) (field bs x (n * (w + 1)))) (sym es) p))

      pub here_right : SumsBetween D bs m (2 ^ D) → PairSums n w (field bs t (2 * n * w)) (field bs s (n * (w + 1)))
      here_right f =
          subst (λ (x : ℕ). PairSums n w (field bs t (2 * n * w)) (field bs x (n * (w + 1)))) es
          (subst (λ (x : ℕ). PairSums n w (field bs x (2 * n * w)) (field bs (from D k) (n * (w + 1)))) twice
          (sums_pairs D (e + g) w (omega arith) hp bs k n low high
          (λ i a b. f i (omega (arith, pow_mono {i = e} {j = e + g} (omega arith), low)) (omega (arith, high, pow_mono {i = e + g + 1} {j = D} (omega arith))))))

    p0 : from D (1 * (m + j)) ≡ 9 * m + 7 * j
    p0 = place 0 1 7 refl (omega arith) refl ∙ omega arith

    p1 : from D (2 * (m + j)) ≡ 16 * m + 12 * j
    p1 = place 1 2 6 refl (omega arith) refl ∙ omega arith

    p2 : from D (4 * (m + j)) ≡ 28 * m + 20 * j
    p2 = place 2 4 5 refl (omega arith) refl ∙ omega arith

    p3 : from D (8 * (m + j)) ≡ 8 * (6 * m + 4 * j)
    p3 = place 3 8 4 refl (omega arith) refl ∙ omega arith

    p4 : from D (16 * (m + j)) ≡ 8 * (10 * m + 6 * j)
    p4 = place 4 16 3 refl (omega arith) refl ∙ omega arith

    p5 : from D (32 * (m + j)) ≡ 8 * (16 * m + 8 * j)
    p5 = place 5 32 2 refl (omega arith) refl ∙ omega arith

    p6 : from D (64 * (m + j)) ≡ 8 * (24 * m + 8 * j)
    p6 = place 6 64 1 refl (omega arith) refl ∙ omega arith

    pub sums_six : SumsBetween D bs m (2 ^ D) → SixAt m bs j
    sums_six f = record {
      twos = here_right 5 32 1 refl (omega arith) refl p5 p6 f;
      fours = here_right 4 16 2 refl (omega arith) refl p4 p5 f;
      eights = here_right 3 8 3 refl (omega arith) refl p3 p4 f;
      sixteens = here_right 2 4 4 refl (omega arith) refl p2 p3 f;
      halves = here_right 1 2 5 refl (omega arith) refl p1 p2 f;
      all = here_right 0 1 6 refl (omega arith) refl p0 p1 f;
    }

  -- the six rows are right where they are over each 64 leaf bits
  pub six_sums : (bs : List ℕ) → ((j : ℕ) → j < m → SixAt m bs j) → SumsBetween D bs m (2 ^ D)
  six_sums bs s = subst (SumsBetween D bs m) (sym (whole_words D e h))
      (sums_join D bs m (2 * m) (64 * m) (λ k lo hi. let j = k - m in let l : j < m = omega arith in right_here bs j l 0 1 6 refl (omega arith) refl (p0 bs j l) (p1 bs j l) (s j l).all k (omega arith) (omega arith))
      (sums_join D bs (2 * m) (4 * m) (64 * m) (λ k lo hi. let j = k / 2 - m in let l : j < m = omega arith in right_here bs j l 1 2 5 refl (omega arith) refl (p1 bs j l) (p2 bs j l) (s j l).halves k (omega arith) (omega arith))
      (sums_join D bs (4 * m) (8 * m) (64 * m) (λ k lo hi. let j = k / 4 - m in let l : j < m = omega arith in right_here bs j l 2 4 4 refl (omega arith) refl (p2 bs j l) (p3 bs j l) (s j l).sixteens k (omega arith) (omega arith))
      (sums_join D bs (8 * m) (16 * m) (64 * m) (λ k lo hi. let j = k / 8 - m in let l : j < m = omega arith in right_here bs j l 3 8 3 refl (omega arith) refl (p3 bs j l) (p4 bs j l) (s j l).eights k (omega arith) (omega arith))
      (sums_join D bs (16 * m) (32 * m) (64 * m) (λ k lo hi. let j = k / 16 - m in let l : j < m = omega arith in right_here bs j l 4 16 2 refl (omega arith) refl (p4 bs j l) (p5 bs j l) (s j l).fours k (omega arith) (omega arith))
      (λ k lo hi. let j = k / 32 - m in let l : j < m = omega arith in right_here bs j l 5 32 1 refl (omega arith) refl (p5 bs j l) (p6 bs j l) (s j l).twos k (omega arith) (omega arith)))))))

-- ---- made from the leaf bits, 64 of them at a time

-- the six rows over block j
abbrev pub six_puts : ℕ → ℕ → ℕ → ℕ → ℕ → ℕ → ℕ → ℕ → List Put
six_puts m j a b c d e f =
    record { start = 8 * (16 * m + 8 * j); width = 64; value = a }
    ∷ record { start = 8 * (10 * m + 6 * j); width = 48; value = b }
    ∷ record { start = 8 * (6 * m + 4 * j); width = 32; value = c }
    ∷ record { start = 28 * m + 20 * j; width = 20; value = d }
    ∷ record { start = 16 * m + 12 * j; width = 12; value = e }
    ∷ record { start = 9 * m + 7 * j; width = 7; value = f }
    ∷ []

module _ {x a b c d e f : ℕ} (o : SixOver x a b c d e f) (m j : ℕ) (xs : List ℕ) (room : 32 * m ≤ length xs) (l : j < m) (ex : x ≡ field xs (8 * (24 * m + 8 * j)) 64) where
  abbrev six : List Put
  six = six_puts m j a b c d e f

  other : (s w : ℕ) → ApartSix m j s w → field (puts xs six) s w ≡ field xs s w
  other s w h = field_aside xs six s w (h.twos, (h.fours, (h.eights, (h.sixteens, (h.halves, (h.all, tt))))))

  pub six_made : SixMade m j xs (puts xs six)
  six_made =
      let (ra, (rb, (rc, (rd, (re, (rf, z)))))) = puts_hold xs six (256 * m) (omega arith) (omega (arith, o.small)) in
      record {
        long = length_puts xs six;
        same = other;
        sums = same_six o.six m (puts xs six) j (ex ∙ sym (other (8 * (24 * m + 8 * j)) 64 (omega arith))) (record { twos = ra; fours = rb; eights = rc; sixteens = rd; halves = re; all = rf });
      }

-- one block more
module _ {m i : ℕ} (h : i < m) where
  -- the sums over the blocks before it are kept
  kept : (ys zs : List ℕ) (k : ℕ) → k < i → ((s w : ℕ) → ApartSix m i s w → field zs s w ≡ field ys s w) → SixAt m ys k → SixAt m zs k
  kept ys zs k l same s = same_six s m zs k (sym (same (8 * (24 * m + 8 * k)) 64 (omega arith))) (record {
    twos = sym (same (8 * (16 * m + 8 * k)) 64 (omega arith));
    fours = sym (same (8 * (10 * m + 6 * k)) 48 (omega arith));
    eights = sym (same (8 * (6 * m + 4 * k)) 32 (omega arith));
    sixteens = sym (same (28 * m + 20 * k) 20 (omega arith));
    halves = sym (same (16 * m + 12 * k) 12 (omega arith));
    all = sym (same (9 * m + 7 * k) 7 (omega arith));
  })

  pub six_next : {xs ys zs : List ℕ} → Blockwise (SixAt m) (9 * m) (192 * m) i xs ys → SixMade m i ys zs → Blockwise (SixAt m) (9 * m) (192 * m) (i + 1) xs zs
  six_next {xs} {ys} {zs} = blocks_next (kept ys zs) (λ p o. ⊎_elim (λ l. omega arith) (λ l. omega arith) o)

-- all of them
pub six_all : (D e : ℕ) → e + 6 ≡ D → {i : ℕ} {xs ys : List ℕ} → 2 ^ e ≤ i → Blockwise (SixAt (2 ^ e)) (9 * 2 ^ e) (192 * 2 ^ e) i xs ys → Made D (2 ^ e) (2 ^ D) xs ys
six_all D e h {i} {xs} {ys} l s =
    blocks_all (omega (arith, from_row D e 7 (omega arith) (omega arith) 0 (2 ^ e) (omega arith) (omega arith), pow_next e)) (omega (arith, from_leaf D, whole_words D e h))
    (six_sums D e h ys (λ j x. s.sums j (omega arith))) s
