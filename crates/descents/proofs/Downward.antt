-- One step down: the node's place says where its children's words start, and the numbers selected are those of one child.
use mathlib.Core.Path.{◌≡◌, refl, sym, ap, ap₂, ◌∙◌, subst, subst⁻¹}
use mathlib.Core.Bool.{Bool, true, false, cond}
use mathlib.Core.List.{List}
use mathlib.Core.Logic.{◌↔◌}
use Prim.Native.Nat.{ℕ, suc, ◌+◌, ◌-◌, ◌*◌, ◌/◌, ◌%◌, ◌^◌, ◌≤◌, ◌<◌}
use native.Mathlib.Nat.{mul-add, mul-one, mul_assoc, one-mul, mod-lt}
use native.Mathlib.Decide.{dec_lt}
use native.Mathlib.Omega.{arith}
use lib.Bits.{bit_and, and_zero_r, and_block, and_mask}
use lib.ListN.{length}
use lib.Pow.{pow_mono, pow_pos, split}
use Rattle.bits.specs.Bits.{bit, field}
use Rattle.bits.proofs.Laws.{bit_lt, field_lt}
use Rattle.nodes.specs.Depth.{depth_of}
use Rattle.nodes.proofs.Depths.{At, pow_next, at_root, at_from, at_ancestor, depth_is, depth_left, depth_right, below_depth}
use Rattle.words.specs.Words.{width, word, leaf_bit}
use Rattle.words.specs.inner.Working.{Room}
use Rattle.words.proofs.Slots.{from, wide, packed, in_panel}
use Rattle.panel.specs.Panels.{deep_of, CutOf, Good, LeafOf, number_in, leaf_count}
use Rattle.descents.specs.inner.Descents.{OnWay, Passed, NamedAt, Spot}
use Rattle.words.proofs.Rooms.{room_bytes}
use Rattle.panel.proofs.Lengths.{fits_small, good_room}
use Rattle.cuts.proofs.Places.{cut_depth, cut_set}
use Rattle.cuts.proofs.Naming.{Placed, placed}
use Rattle.cuts.proofs.Covering.{ancestor_is, up_all}
use Rattle.cuts.proofs.Descent.{reached_left, reached_right}
use Rattle.panel.proofs.GoodPanels.{good_bits, cut_word, reached_word, leaf_word_one, number_root, number_left, number_right}

-- where the words of a node's children stand
pub record Children (s : List ℕ) (left p k w : ℕ) : Type 0 where
  pub levels : 1 ≤ left
  pub most : left ≤ 17
  pub back : k ≤ p
  pub four : 4 ≤ length s
  pub room : 2 * (p - k) + left ≤ 8 * length s
  pub few : 2 * (p - k) + left ≤ 2 ^ 19
  pub low : k < 2 ^ 17
  pub counts : number_in s k + w < 2 ^ 18
  pub holds : field s (2 * (p - k)) left ≡ word (deep_of s) s (2 * k)
  pub sums : w ≡ word (deep_of s) s (2 * k) + word (deep_of s) s (2 * k + 1)
  pub to_left : Spot s (left - 1) (2 * (p - k)) (2 * k) (word (deep_of s) s (2 * k))
  pub to_right : Spot s (left - 1) (2 * (p - k) + left) (2 * k + 1) (word (deep_of s) s (2 * k + 1))
  pub number_left : number_in s (2 * k) ≡ number_in s k
  pub number_right : number_in s (2 * k + 1) ≡ number_in s k + word (deep_of s) s (2 * k)

module _ (s : List ℕ) (G : Good s) where
  count_lt : leaf_count s < 2 ^ 18
  unfolding word
  count_lt =
      let d : depth_of 1 ≡ 0 = depth_is at_root in
      omega (arith, field_lt s (from (deep_of s) 1) (wide (deep_of s) 1), pow_mono {i = wide (deep_of s) 1} {j = 18} (omega (arith, fits_small G.fits)))

  module _ (left p k w : ℕ) (S : Spot s left p k w) where
    under : k < 2 ^ (deep_of s + 1)
    under = below_depth k (deep_of s) S.low (omega (arith, S.levels))

    -- a node that is reached and whose word is below 2 is a leaf
    pub stop : w < 2 → LeafOf s k
    stop h =
        (leaf_word_one s G k S.low under S.reached).1
        (omega (arith, S.holds, reached_word s G k S.low under S.reached))

    module _ (h : 2 ≤ w) where
      cut : CutOf s k
      cut = (cut_word s G k S.low under).1 (omega (arith, S.holds))

      above : depth_of k < deep_of s
      above = cut_depth (deep_of s) (leaf_bit (deep_of s) s) (good_bits s G).deep k cut

      low : k < 2 ^ deep_of s
      low = omega (arith, below_depth k (deep_of s - 1) S.low (omega (arith, above)), ap (λ x. 2 ^ x) (let e : deep_of s - 1 + 1 ≡ deep_of s = omega (arith, above) in e))

      kids : 2 * k + 1 < 2 ^ (deep_of s + 1)
      kids = omega (arith, low, pow_next (deep_of s))

      wide_left : wide (deep_of s) (2 * k) ≡ left
      wide_left = omega (arith, depth_left k S.low, S.levels)

      own : k * width (deep_of s) (depth_of k) ≡ k * left + k
      own = ap (λ x. k * x) (let e : width (deep_of s) (depth_of k) ≡ left + 1 = omega (arith, S.levels) in e) ∙ mul-add k left 1 ∙ omega (arith, mul-one k)

      at_left : 2 * (p - k) ≡ from (deep_of s) (2 * k)
      at_left =
          let d : ℕ = depth_of k in
          let far : 2 ^ (depth_of (2 * k) + 1) ≡ 2 * 2 ^ (d + 1) = ap (λ x. 2 ^ x) (let e : depth_of (2 * k) + 1 ≡ d + 1 + 1 = omega (arith, depth_left k S.low) in e) ∙ pow_next (d + 1) in
          let kid : 2 * k * wide (deep_of s) (2 * k) ≡ 2 * (k * left) = ap (λ x. 2 * k * x) wide_left ∙ mul_assoc 2 k left in
          omega (arith, S.place, own, far, kid)

      at_right : 2 * (p - k) + left ≡ from (deep_of s) (2 * k + 1)
      at_right = omega (arith, at_left, wide_left, packed (deep_of s) (2 * k) (omega (arith, kids)))

      total : w ≡ word (deep_of s) s (2 * k) + word (deep_of s) s (2 * k + 1)
      total = S.holds ∙ G.right.sums k S.low low

      as_left : number_in s (2 * k) ≡ number_in s k
      as_left = number_left s G k S.low above

      as_right : number_in s (2 * k + 1) ≡ number_in s k + word (deep_of s) s (2 * k)
      as_right = number_right s G k S.low above

      pub children : Children s left p k w
      unfolding word
      children =
          let r = good_room s G refl in
          let end : 2 * (p - k) + left ≤ 2 ^ (deep_of s + 2) = omega (arith, at_left, wide_left, in_panel (deep_of s) (2 * k) (omega (arith, kids))) in record {
            levels = omega (arith, above, S.levels);
            most = omega (arith, S.levels, fits_small G.fits);
            back = omega (arith, own, S.place);
            four = room_bytes r;
            room = omega (arith, r.long);
            few = omega (arith, pow_mono {i = deep_of s + 2} {j = 19} (omega (arith, r.high)));
            low = omega (arith, low, pow_mono {i = deep_of s} {j = 17} (fits_small G.fits));
            counts = omega (arith, S.within, count_lt);
            holds = ap₂ (field s) at_left (sym wide_left);
            sums = total;
            to_left = record {
              low = omega (arith, S.low);
              levels = omega (arith, depth_left k S.low, above, S.levels);
              place = at_left;
              holds = refl;
              within = omega (arith, as_left, total, S.within);
              reached = reached_left (deep_of s) (leaf_bit (deep_of s) s) k cut;
            };
            to_right = record {
              low = omega arith;
              levels = omega (arith, depth_right k S.low, above, S.levels);
              place = at_right;
              holds = refl;
              within = omega (arith, as_right, total, S.within);
              reached = reached_right (deep_of s) (leaf_bit (deep_of s) s) k cut;
            };
            number_left = as_left;
            number_right = as_right;
          }

-- on the way to n it is that leaf
pub stop_over : {s : List ℕ} {left p n w b : ℕ} → Good s → Spot s left p (n / 2 ^ left) w → b ≡ number_in s (n / 2 ^ left) → w < 2 → OnWay s n (n / 2 ^ left) b
stop_over {s} {left} {p} {n} {w} G S e h = record {
  leaf = stop s G left p (n / 2 ^ left) w S h;
  number = e;
  over = ap (λ x. n / 2 ^ x) (let f : deep_of s - depth_of (n / 2 ^ left) ≡ left = omega (arith, S.levels) in f);
}

-- ---- the numbers of one child, as they are selected

-- the child m, whose word v starts at bit q, and e leaves stand left of it below its parent
pub record Chosen (s : List ℕ) (left k q m v e : ℕ) : Type 0 where
  pub spot : Spot s (left - 1) q m v
  pub number : number_in s m ≡ number_in s k + e

-- a spot, told by equal numbers
moved : {s : List ℕ} {left p k w q m v : ℕ} → q ≡ p → m ≡ k → v ≡ w → Spot s left p k w → Spot s left q m v
moved {s} {left} {p} {k} {w} {q} {m} {v} a b e S = subst⁻¹ (λ x. Spot s left x m v) a (subst⁻¹ (λ x. Spot s left p x v) b (subst⁻¹ (λ x. Spot s left p k x) e S))

pub chosen : {s : List ℕ} {left p k w l q m v e : ℕ} (c : Bool) → Children s left p k w → l ≡ word (deep_of s) s (2 * k) →
    q ≡ cond c (2 * (p - k)) (2 * (p - k) + left) → m ≡ cond c (2 * k) (2 * k + 1) → v ≡ cond c l (w - l) → e ≡ cond c 0 l →
    Chosen s left k q m v e
chosen {s} true C h at node rest past = record {
  spot = moved at node (rest ∙ h) C.to_left;
  number = ap (number_in s) node ∙ omega (arith, C.number_left, past);
}
chosen {s} false C h at node rest past = record {
  spot = moved at node (omega (arith, rest, C.sums)) C.to_right;
  number = ap (number_in s) node ∙ omega (arith, C.number_right, past);
}

-- of i leaves, those that are left to pass below the child
pub fewer : (c : Bool) {w l i v e : ℕ} → (c ≡ true → i < l) → (c ≡ false → l ≤ i) → i < w → v ≡ cond c l (w - l) → e ≡ cond c 0 l → (e ≤ i) × (i - e < v)
fewer true t f h rest past = (omega (arith, past), omega (arith, t refl, rest, past))
fewer false t f h rest past = (omega (arith, f refl, past), omega (arith, f refl, rest, past))

-- the node above that on the way to n
half_of : (n left : ℕ) → 1 ≤ left → n / 2 ^ left ≡ n / 2 ^ (left - 1) / 2
half_of n left o = ap (λ x. n / 2 ^ x) (let e : left ≡ suc (left - 1) = omega arith in e) ∙ sym (ancestor_is (suc (left - 1)) n) ∙ ap (λ x. x / 2) (ancestor_is (left - 1) n)

-- the node on the way to n, one level down
pub next : (n left : ℕ) (c : Bool) → 1 ≤ left → (c ≡ true → n / 2 ^ (left - 1) % 2 ≡ 0) → (c ≡ false → n / 2 ^ (left - 1) % 2 ≡ 0 → ⊥) →
    n / 2 ^ (left - 1) ≡ cond c (2 * (n / 2 ^ left)) (2 * (n / 2 ^ left) + 1)
next n left true o t f = omega (arith, half_of n left o, t refl)
next n left false o t f = omega (arith, half_of n left o, f refl)

-- ---- by cuts alone

-- a digit of n, where it stands
digit : (n j : ℕ) → bit_and n (2 ^ j) ≡ n / 2 ^ j % 2 * 2 ^ j
digit n j =
    ap₂ bit_and (sym (split n j)) (let e : 2 ^ j ≡ 1 * 2 ^ j + 0 = omega arith in e)
    ∙ and_block j (n / 2 ^ j) 1 (n % 2 ^ j) 0 (mod-lt n (pow_pos j)) (pow_pos j)
    ∙ ap₂ (λ (x y : ℕ). x * 2 ^ j + y) (and_mask (n / 2 ^ j) 1) (and_zero_r (n % 2 ^ j))
    ∙ omega arith

module _ {s : List ℕ} (G : Good s) {left n c : ℕ} (P : Passed s left n c) where
  -- the node j levels above n
  on : (j : ℕ) → j ≤ deep_of s → At (deep_of s - j) (n / 2 ^ j)
  on j h =
      subst (At (deep_of s - j)) (ancestor_is j n)
      (at_ancestor j (deep_of s - j) (subst (λ (x : ℕ). At x n) (let e : deep_of s ≡ deep_of s - j + j = omega arith in e) (at_from P.low P.high)))

  -- ---- one step

  module _ (o : 1 ≤ left) where
    -- a node that is not cut: as many as before
    pub passed_uncut : (CutOf s (n / 2 ^ left) → ⊥) → Passed s (left - 1) n c
    passed_uncut z = record { low = P.low; high = P.high; most = omega (arith, P.most); cut = P.cut; uncut = λ h. go (dec_lt (c + left) (deep_of s)) }
      where
        go : Dec (c + left < deep_of s) → CutOf s (n / 2 ^ (deep_of s - c)) → ⊥
        go (yes h) q = P.uncut h q
        go (no h) q = z (subst (λ (x : ℕ). CutOf s (n / 2 ^ x)) (let e : deep_of s - c ≡ left = omega (arith, P.most) in e) q)

    -- one that is: no leaf lies above it, so all before it are
    pub passed_cut : CutOf s (n / 2 ^ left) → Passed s (left - 1) n (c + 1)
    passed_cut q = go (dec_lt (c + left) (deep_of s))
      where
        go : Dec (c + left < deep_of s) → Passed s (left - 1) n (c + 1)
        go (yes h) =
            let j : ℕ = deep_of s - c in
            absurd (P.uncut h (subst (CutOf s) (ancestor_is j n)
            (up_all G.cuts.up n left j (omega (arith, P.most)) (omega (arith, ancestor_is j n, (on j (omega arith)).low, pow_pos (deep_of s - j))) (subst⁻¹ (CutOf s) (ancestor_is left n) q))))
        go (no h) = record {
          low = P.low;
          high = P.high;
          most = omega (arith, P.most);
          cut = λ _. subst (λ (x : ℕ). CutOf s (n / 2 ^ x)) (let e : left ≡ deep_of s + 1 - (c + 1) = omega (arith, P.most) in e) q;
          uncut = λ l. absurd (omega arith);
        }

    -- ---- the bit that names the node

    module _ {p half : ℕ} (N : NamedAt s left p half (n / 2 ^ left)) where
      names : Placed (deep_of s) (n / 2 ^ left) (left - 1)
      names =
          let a = on left (omega (arith, P.most)) in
          placed (deep_of s) (n / 2 ^ left) (left - 1) (fits_small G.fits) (omega (arith, a.low, pow_pos (deep_of s - left))) (omega (arith, depth_is a, P.most))

      place : ℕ
      place = (2 * (n / 2 ^ left) + 1) * 2 ^ (left - 1) - 2 ^ deep_of s

      at_place : p ≡ 3 * 2 ^ deep_of s + place
      unfolding place
      at_place = omega (arith, N.place, ap (λ (x : ℕ). (2 * (n / 2 ^ left) + 1) * x) N.below, names.first)

      pub inside : p < 4 * 2 ^ deep_of s
      unfolding place
      inside = omega (arith, at_place, names.found.high)

      pub back : half ≤ p
      back = omega (arith, N.place)

      -- it says whether the node is cut
      says : CutOf s (n / 2 ^ left) ↔ (bit s p ≡ 1)
      unfolding leaf_bit place
      says = subst⁻¹ (λ (x : ℕ). CutOf s (n / 2 ^ left) ↔ (bit s x ≡ 1)) at_place (cut_set (deep_of s) (leaf_bit (deep_of s) s) (good_bits s G).deep names.found)

      pub passed_bit : Passed s (left - 1) n (c + bit s p)
      passed_bit = go (dec_lt (bit s p) 1)
        where
          go : Dec (bit s p < 1) → Passed s (left - 1) n (c + bit s p)
          go (yes h) = subst (Passed s (left - 1) n) (let e : c ≡ c + bit s p = omega arith in e) (passed_uncut (λ q. omega (arith, says.0 q)))
          go (no h) =
              let b : bit s p ≡ 1 = omega (arith, bit_lt s p) in
              subst (λ (x : ℕ). Passed s (left - 1) n (c + x)) (sym b) (passed_cut (says.1 b))

      -- and where the child's is
      pub named_next : 2 ≤ left → NamedAt s (left - 1) (p + bit_and n half - half / 2) (half / 2) (n / 2 ^ (left - 1))
      named_next l = record {
        place =
            let q : ℕ = half / 2 in
            let b : ℕ = n / 2 ^ (left - 1) % 2 in
            let k : ℕ = n / 2 ^ left in
            let e : half ≡ 2 * q = omega (arith, twice) in
            let f : bit_and n half ≡ b * half = ap (bit_and n) N.below ∙ digit n (left - 1) ∙ ap (λ (x : ℕ). b * x) (sym N.below) in
            let g : n / 2 ^ (left - 1) ≡ 2 * k + b = omega (arith, half_of n left o) in
            omega (arith, N.place, f, ap (λ (x : ℕ). (2 * k + 1) * x) e, ap (λ (x : ℕ). b * x) e, ap (λ (x : ℕ). (2 * x + 1) * q) g);
        below = omega (arith, twice);
      }
        where
          twice : half ≡ 2 * 2 ^ (left - 1 - 1)
          twice = N.below ∙ ap (λ (x : ℕ). 2 ^ x) {x = left - 1} {y = left - 1 - 1 + 1} (omega arith) ∙ pow_next (left - 1 - 1)

-- ---- node 1, in a panel of depth D

module _ (s : List ℕ) (G : Good s) {D : ℕ} (deep : D ≡ deep_of s) where
  -- word 1 can be read
  pub root_room : Room D s × (1 < 2 ^ (D + 1))
  root_room = (good_room s G deep, omega (arith, pow_next D, pow_pos D))

  pub root_spot : {n : ℕ} → n ≡ leaf_count s → Spot s D (D + 3) 1 n
  root_spot e =
      let d : depth_of 1 ≡ 0 = depth_is at_root in record {
        low = omega arith;
        levels = omega arith;
        place = omega (arith, ap (λ x. 2 ^ (x + 1)) d, one-mul (width (deep_of s) (depth_of 1)));
        holds = e;
        within = omega (arith, number_root s G);
        reached = λ h. absurd (omega arith);
      }
