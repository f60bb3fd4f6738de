-- The three lowest rows: below node j of row D - 3 stand eight leaf bits, four words, two words, each side by side.
use mathlib.Core.Path.{◌≡◌, refl, sym, ap, ◌∙◌, subst}
use mathlib.Core.Logic.{⊎_elim}
use mathlib.Core.List.{List, [], ◌∷◌}
use Prim.Native.Nat.{ℕ, ◌+◌, ◌-◌, ◌*◌, ◌/◌, ◌%◌, ◌^◌, ◌≤◌, ◌<◌}
use native.Mathlib.Omega.{arith}
use lib.ListN.{length}
use Rattle.bits.specs.Bits.{field}
use Rattle.bits.proofs.Laws.{le_or_lt}
use Rattle.bits.proofs.Puts.{Put, puts, length_puts, field_aside, puts_hold}
use Rattle.nodes.proofs.Depths.{pow_next}
use Rattle.sums.specs.inner.Rows.{SumsBetween, Made, PairSums, Seven, Sevens, SevenAt, ApartSeven, SevenMade}
use Rattle.words.proofs.Slots.{from, from_leaf}
use Rattle.sums.proofs.Rows.{from_row}
use Rattle.sums.proofs.Pairs.{pairs_sums, sums_pairs, pairs_one}
use Rattle.sums.proofs.Steps.{Blockwise, blocks_next, blocks_all}

-- ---- seven sums

pub same_seven : {x x' y y' z z' u u' : ℕ} → x ≡ x' → y ≡ y' → z ≡ z' → u ≡ u' → Seven x y z u → Seven x' y' z' u'
same_seven {x} {x'} {y} {y'} {z} {z'} {u} {u'} p q r s t =
    subst (λ (n : ℕ). Seven x' y' z' n) s (subst (λ (n : ℕ). Seven x' y' n u) r (subst (λ (n : ℕ). Seven x' n z u) q (subst (λ (n : ℕ). Seven n y z u) p t)))

-- the seven sums over x in one number are those of no other words
module _ {x n y z u : ℕ} (s : Sevens x n) (hy : y < 256) (hz : z < 64) (hu : u < 16) where
  pub sevens_are : n ≡ y + 256 * z + 16384 * u → Seven x y z u
  sevens_are e = same_seven refl (omega arith) (omega arith) (omega arith) s.right

  pub are_sevens : Seven x y z u → n ≡ y + 256 * z + 16384 * u
  are_sevens t =
      let a : n % 256 ≡ y = pairs_one 4 1 x (omega arith) hy s.right.four t.four in
      let b : n / 256 % 64 ≡ z = pairs_one 2 2 y (omega arith) hz (subst (λ (v : ℕ). PairSums 2 2 v (n / 256 % 64)) a s.right.two) t.two in
      let c : n / 16384 ≡ u = pairs_one 1 3 z (omega (arith, s.small)) hu (subst (λ (v : ℕ). PairSums 1 3 v (n / 16384)) b s.right.one) t.one in
      omega arith

-- ---- where they stand

module _ (D e : ℕ) (h : e + 3 ≡ D) where
  abbrev m : ℕ
  m = 2 ^ e

  p1 : 2 ^ (e + 1) ≡ 2 * m
  p1 = pow_next e

  p2 : 2 ^ (e + 1 + 1) ≡ 4 * m
  p2 = omega (arith, p1, pow_next (e + 1))

  p3 : 2 ^ (e + 1 + 1 + 1) ≡ 8 * m
  p3 = omega (arith, p2, pow_next (e + 1 + 1))

  pub pow_deep : 2 ^ D ≡ 8 * m
  pow_deep = ap (λ (x : ℕ). 2 ^ x) {x = D} {y = e + 1 + 1 + 1} (omega arith) ∙ p3

  module _ (bs : List ℕ) (j : ℕ) (l : j < m) where
    abbrev k : ℕ
    k = m + j

    top : field bs (from D k) 4 ≡ field bs (6 * m + 4 * j) 4
    top = ap (λ (s : ℕ). field bs s 4) (omega (arith, p1, from_row D e 4 (omega arith) (omega arith) j k (omega arith) (omega arith)))

    middle : field bs (from D (2 * k)) 6 ≡ field bs (10 * m + 6 * j) 6
    middle = ap (λ (s : ℕ). field bs s 6) (omega (arith, p1, p2, from_row D (e + 1) 3 (omega arith) (omega arith) (2 * j) (2 * k) (omega (arith, p1)) (omega (arith, p1))))

    bottom : field bs (from D (2 * (2 * k))) 8 ≡ field bs (8 * (2 * m + j)) 8
    bottom = ap (λ (s : ℕ). field bs s 8) (omega (arith, p2, p3, from_row D (e + 1 + 1) 2 (omega arith) (omega arith) (4 * j) (2 * (2 * k)) (omega (arith, p2)) (omega (arith, p2))))

    leaves : field bs (from D (2 * (2 * (2 * k)))) 8 ≡ field bs (8 * (3 * m + j)) 8
    leaves = ap (λ (s : ℕ). field bs s 8) (omega (arith, p3, pow_next (e + 1 + 1 + 1), from_row D (e + 1 + 1 + 1) 1 (omega arith) (omega arith) (8 * j) (2 * (2 * (2 * k))) (omega (arith, p3)) (omega (arith, p3))))

    -- the seven are sums of words
    seven_sums : SevenAt m bs j → SumsBetween D bs k (k + 1) × SumsBetween D bs (2 * k) (2 * k + 2) × SumsBetween D bs (2 * (2 * k)) (2 * (2 * k) + 4)
    seven_sums t =
        let s = same_seven (sym leaves) (sym bottom) (sym middle) (sym top) t in (
          pairs_sums D e 3 (omega arith) (omega arith) bs k 1 (omega arith) (omega (arith, p1)) s.one,
          pairs_sums D (e + 1) 2 (omega arith) (omega arith) bs (2 * k) 2 (omega (arith, p1)) (omega (arith, p2)) s.two,
          pairs_sums D (e + 1 + 1) 1 (omega arith) (omega arith) bs (2 * (2 * k)) 4 (omega (arith, p2)) (omega (arith, p3)) s.four,
        )

    -- and back
    pub sums_seven : SumsBetween D bs m (2 ^ D) → SevenAt m bs j
    sums_seven s =
        let part : (a b : ℕ) → m ≤ a → b ≤ 8 * m → SumsBetween D bs a b = λ a b x y i lo hi. s i (omega arith) (omega (arith, pow_deep)) in
        same_seven leaves bottom middle top (record {
          one = sums_pairs D e 3 (omega arith) (omega arith) bs k 1 (omega arith) (omega (arith, p1)) (part k (k + 1) (omega arith) (omega arith));
          two = sums_pairs D (e + 1) 2 (omega arith) (omega arith) bs (2 * k) 2 (omega (arith, p1)) (omega (arith, p2)) (part (2 * k) (2 * k + 2) (omega arith) (omega arith));
          four = sums_pairs D (e + 1 + 1) 1 (omega arith) (omega arith) bs (2 * (2 * k)) 4 (omega (arith, p2)) (omega (arith, p3)) (part (2 * (2 * k)) (2 * (2 * k) + 4) (omega arith) (omega arith));
        })

  -- the three rows are right where all sevens are
  pub sevens_sums : (bs : List ℕ) → ((j : ℕ) → j < m → SevenAt m bs j) → SumsBetween D bs m (2 ^ D)
  sevens_sums bs s k lo hi =
      let under : (j : ℕ) → j < m → SumsBetween D bs (m + j) (m + j + 1) × SumsBetween D bs (2 * (m + j)) (2 * (m + j) + 2) × SumsBetween D bs (2 * (2 * (m + j))) (2 * (2 * (m + j)) + 4) = λ j l. seven_sums bs j l (s j l) in
      ⊎_elim (λ x. (under (k / 4 - m) (omega (arith, pow_deep))).2 k (omega arith) (omega arith))
      (λ x. ⊎_elim (λ y. (under (k / 2 - m) (omega arith)).1 k (omega arith) (omega arith)) (λ y. (under (k - m) (omega arith)).0 k (omega arith) (omega arith)) (le_or_lt (2 * m) k))
      (le_or_lt (4 * m) k)

-- ---- made from the leaf bits, a byte of them at a time

-- the three rows over leaf byte j, in one number
abbrev pub seven_puts : ℕ → ℕ → ℕ → List Put
seven_puts m j n =
    record { start = 8 * (2 * m + j); width = 8; value = n % 256 }
    ∷ record { start = 10 * m + 6 * j; width = 6; value = n / 256 % 64 }
    ∷ record { start = 6 * m + 4 * j; width = 4; value = n / 16384 }
    ∷ []

module _ {x n : ℕ} (o : Sevens x n) (m j : ℕ) (xs : List ℕ) (room : 4 * m ≤ length xs) (l : j < m) (ex : x ≡ field xs (8 * (3 * m + j)) 8) where
  other : (s w : ℕ) → ApartSeven m j s w → field (puts xs (seven_puts m j n)) s w ≡ field xs s w
  other s w h = field_aside xs (seven_puts m j n) s w (h.four, (h.two, (h.one, tt)))

  pub seven_made : SevenMade m j xs (puts xs (seven_puts m j n))
  seven_made =
      let (y, (z, (u, end))) = puts_hold xs (seven_puts m j n) (32 * m) (omega arith) (omega (arith, o.small)) in
      record {
        long = length_puts xs (seven_puts m j n);
        same = other;
        sums = same_seven (ex ∙ sym (other (8 * (3 * m + j)) 8 (omega arith))) y z u o.right;
      }

-- one leaf byte more
module _ {m i : ℕ} (h : i < m) where
  -- the sums over the bytes before it are kept
  kept : (ys zs : List ℕ) (k : ℕ) → k < i → ((s w : ℕ) → ApartSeven m i s w → field zs s w ≡ field ys s w) → SevenAt m ys k → SevenAt m zs k
  kept ys zs k l same =
      same_seven (sym (same (8 * (3 * m + k)) 8 (omega arith))) (sym (same (8 * (2 * m + k)) 8 (omega arith))) (sym (same (10 * m + 6 * k) 6 (omega arith))) (sym (same (6 * m + 4 * k) 4 (omega arith)))

  pub seven_next : {xs ys zs : List ℕ} → Blockwise (SevenAt m) (6 * m) (24 * m) i xs ys → SevenMade m i ys zs → Blockwise (SevenAt m) (6 * m) (24 * m) (i + 1) xs zs
  seven_next {xs} {ys} {zs} = blocks_next (kept ys zs) (λ p o. ⊎_elim (λ l. omega arith) (λ l. omega arith) o)

-- all of them
pub seven_all : (D e : ℕ) → e + 3 ≡ D → {i : ℕ} {xs ys : List ℕ} → 2 ^ e ≤ i → Blockwise (SevenAt (2 ^ e)) (6 * 2 ^ e) (24 * 2 ^ e) i xs ys → Made D (2 ^ e) (2 ^ D) xs ys
seven_all D e h {i} {xs} {ys} l s =
    blocks_all (omega (arith, from_row D e 4 (omega arith) (omega arith) 0 (2 ^ e) (omega arith) (omega arith), pow_next e)) (omega (arith, from_leaf D, pow_deep D e h))
    (sevens_sums D e h ys (λ j x. s.sums j (omega arith))) s
