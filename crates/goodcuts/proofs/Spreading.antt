-- A panel of depth D up to 6 has the cuts of a word of 64 leaf bits, in which leaf bit p stands at 2 ^ (6 - D) p and the bits between are 0.
use mathlib.Core.Path.{◌≡◌, refl, sym, ap, ap₂, ◌∙◌, subst}
use mathlib.Core.Logic.{◌↔◌, ⊎_elim}
use mathlib.Core.List.{List}
use Prim.Native.Nat.{ℕ, zero, suc, ◌+◌, ◌-◌, ◌*◌, ◌/◌, ◌%◌, ◌^◌, ◌≤◌, ◌<◌}
use native.Mathlib.Nat.{mod-lt, mod-eq_of_lt, mul-one, one-mul, mul_comm, mul_assoc, mul_left_comm, mul-add, add-mul, mul-pos, mul-lt-mul_of_pos_left, pow-succ', div-one, le_dest}
use native.Mathlib.Decide.{dec_le}
use native.Mathlib.Omega.{arith}
use lib.Pow.{pow_pos, pow-lt, pow-add, pow_mono, split, shr_lt, shl-shr}
use lib.Bits.{bit_and}
use lib.ListN.{length}
use Rattle.bits.specs.Bits.{digit, bit, field}
use Rattle.bits.proofs.Laws.{one_shl, run-digit, bit_lt, digit_lt, digit_shift, order}
use Rattle.nodes.proofs.Depths.{At, at_from, at_root, depth_is, pow_next}
use Rattle.words.specs.Words.{leaf_bit}
use Rattle.words.specs.inner.Working.{Room}
use Rattle.bits.specs.inner.Abreast.{part, abreast}
use Rattle.bits.proofs.Abreast.{same_words, abreast_lt, word-digit, times, one_word, halved, ones_halved}
use Rattle.sums.proofs.Pairs.{field_high}
use Rattle.words.proofs.Rooms.{bounds}
use Rattle.cuts.specs.Cuts.{named, Cut}
use Rattle.cuts.specs.inner.Steps.{CutPlace, Follows, AllFollow}
use Rattle.leafwords.specs.inner.LeafWord.{CutWord}
use Rattle.cuts.proofs.Following.{first_follows}
use Rattle.cuts.proofs.Places.{names_named, cut_place, cut_depth, cut_place_lem, cut_set}

-- ---- the leaf bits, in the eight bytes that end with them

pub record Last (D len : ℕ) : Type 0 where
  pub is : 1 * 2 ^ D % 2 ^ 64 ≡ 2 ^ D
  pub half : 1 * 2 ^ (D - 1) % 2 ^ 64 ≡ 2 ^ (D - 1)
  pub twice : 2 ^ D ≡ 2 * 2 ^ (D - 1)
  pub low : 16 ≤ 2 ^ D
  pub high : 2 ^ D ≤ 64
  pub inside : 2 ^ (D - 1) ≤ len

pub last : {D : ℕ} {bs : List ℕ} → Room D bs → D ≤ 6 → 4 ≤ D → Last D (length bs)
last {D} r h l =
    let t : 2 ^ D ≡ 2 * 2 ^ (D - 1) = ap (λ x. 2 ^ x) (let e : D ≡ D - 1 + 1 = omega arith in e) ∙ pow_next (D - 1) in record {
      is = one_shl D 64 (omega arith);
      half = one_shl (D - 1) 64 (omega arith);
      twice = t;
      low = pow_mono {i = 4} {j = D} l;
      high = pow_mono {i = D} {j = 6} h;
      inside = omega (arith, bounds r);
    }

pub last_leaves : {D len : ℕ} (bs : List ℕ) → Last D len
    → field bs (8 * (1 * 2 ^ (D - 1) % 2 ^ 64 - 8)) 64 / 2 ^ (64 - 1 * 2 ^ D % 2 ^ 64) ≡ field bs (3 * 2 ^ D) (2 ^ D)
last_leaves {D} bs r =
    let s : ℕ = 8 * (2 ^ (D - 1) - 8) in
    let a : ℕ = 64 - 2 ^ D in
    ap₂ (λ x y. field bs (8 * (x - 8)) 64 / 2 ^ (64 - y)) r.half r.is
    ∙ ap (λ m. field bs s m / 2 ^ a) (let e : 64 ≡ 2 ^ D + a = omega arith in e)
    ∙ field_high bs s a (2 ^ D) ∙ ap (λ x. field bs x (2 ^ D)) (let e : s + a ≡ 3 * 2 ^ D = omega arith in e)

-- ---- spread

-- after some turns: the words of w bits of x, each the first in v bits
pub record Spreading (D x w v ones y : ℕ) : Type 0 where
  pub turns : ℕ
  pub left : ℕ
  pub all : turns + left ≡ D
  pub wide : w ≡ 2 ^ left
  pub lane : v ≡ 2 ^ (left + (6 - D))
  pub firsts : ones ≡ abreast (2 ^ turns) v (λ i. 1)
  pub words : y ≡ abreast (2 ^ turns) v (part w x)

pub spread_first : {D x : ℕ} → D ≤ 6 → x < 2 ^ 2 ^ D → Spreading D x (1 * 2 ^ D % 2 ^ 64) 64 1 x
unfolding abreast
spread_first {D} {x} h l =
    let e : 1 * 2 ^ D % 2 ^ 64 ≡ 2 ^ D = one_shl D 64 (omega arith) in record {
      turns = 0;
      left = D;
      all = omega arith;
      wide = e;
      lane = ap (λ k. 2 ^ k) (let f : 6 ≡ D + (6 - D) = omega arith in f);
      firsts = refl;
      words = sym (one_word 64 (1 * 2 ^ D % 2 ^ 64) x (subst (λ k. x < 2 ^ k) (sym e) l));
    }

-- in the end they are words of one bit
pub spread_last : {D x w v ones y : ℕ} → (1 < w → ⊥) → Spreading D x w v ones y → y ≡ abreast (2 ^ D) (2 ^ (6 - D)) (digit x)
spread_last {D} {x} {w} {y = y} h s = go s.left refl
  where
    go : (k : ℕ) → s.left ≡ k → y ≡ abreast (2 ^ D) (2 ^ (6 - D)) (digit x)
    go zero e =
        let one : w ≡ 1 = s.wide ∙ ap (λ k. 2 ^ k) e in
        s.words
        ∙ ap₂ (λ n v. abreast (2 ^ n) v (part w x)) (let f : s.turns ≡ D = omega (arith, s.all) in f)
        (s.lane ∙ ap (λ k. 2 ^ k) (let f : s.left + (6 - D) ≡ 6 - D = omega arith in f))
        ∙ same_words (2 ^ D) (2 ^ (6 - D)) (part w x) (digit x)
        (λ i b. ap (λ u. x / 2 ^ (i * u) % 2 ^ u) one ∙ ap (λ k. x / 2 ^ k % 2) (mul-one i))
    go (suc k) e = absurd (h (omega (arith, s.wide, ap (λ k. 2 ^ k) e, pow-succ' 2 k, pow_pos k)))

-- a turn, as the code computes it
abbrev pub mask_of : ℕ → ℕ → ℕ
mask_of ones w = ones * (1 * 2 ^ w % 2 ^ 64 - 1)

abbrev pub ones_of : ℕ → ℕ → ℕ
ones_of ones v = ones + ones * 2 ^ v % 2 ^ 64

abbrev pub words_of : ℕ → ℕ → ℕ → ℕ → ℕ
words_of w v m y = bit_and y m + bit_and (y / 2 ^ w) m * 2 ^ v % 2 ^ 64

pub record Turn (D x w v ones y : ℕ) : Type 0 where
  pub narrow : w ≤ v
  pub short : v ≤ 32
  pub some : 1 ≤ 1 * 2 ^ w % 2 ^ 64
  pub mask_fits : mask_of ones w < 2 ^ 64
  pub words_fit : words_of w v (mask_of ones w) y < 2 ^ 64
  pub ones_fit : ones_of ones v < 2 ^ 64
  pub next : Spreading D x w v (ones_of ones v) (words_of w v (mask_of ones w) y)

-- n lanes of 2 v bits fill the number, and w bits of v are used
record Lanes (n w v : ℕ) : Type 0 where
  some : 1 ≤ w
  narrow : w ≤ v
  short : v ≤ 32
  full : n * (2 * v) ≡ 64

filled : (n v : ℕ) {z : ℕ} (f : ℕ → ℕ) → n * v ≡ 64 → ((i : ℕ) → i < n → f i < 2 ^ v) → z ≡ abreast n v f → z < 2 ^ 64
filled n v {z} f g h e = subst (λ k. z < 2 ^ k) g (subst (λ k. k < 2 ^ (n * v)) (sym e) (abreast_lt n v f h))

module _ {n w v : ℕ} (g : Lanes n w v) (x : ℕ) {ones y : ℕ} (o : ones ≡ abreast n (2 * v) (λ i. 1)) (e : y ≡ abreast n (2 * v) (part (2 * w) x)) where
  power : 1 * 2 ^ w % 2 ^ 64 ≡ 2 ^ w
  power = one_shl w 64 (omega (arith, g))

  full_next : 2 * n * v ≡ 64
  full_next = mul_assoc 2 n v ∙ sym (mul_left_comm n 2 v) ∙ g.full

  mask_is : mask_of ones w ≡ abreast n (2 * v) (λ i. 2 ^ w - 1)
  mask_is =
      ap₂ (λ a b. a * (b - 1)) o power ∙ times n (2 * v) (2 ^ w - 1) (λ i. 1)
      ∙ same_words n (2 * v) (λ i. 1 * (2 ^ w - 1)) (λ i. 2 ^ w - 1) (λ i b. one-mul (2 ^ w - 1))

  mask_lt : mask_of ones w < 2 ^ 64
  mask_lt = filled n (2 * v) (λ i. 2 ^ w - 1) g.full (λ i b. omega (arith, pow_pos w, pow_mono (let l : w ≤ 2 * v = omega (arith, g) in l))) mask_is

  abbrev upper : ℕ
  upper = bit_and (y / 2 ^ w) (mask_of ones w) * 2 ^ v

  words_are : bit_and y (mask_of ones w) + upper ≡ abreast (2 * n) v (part w x)
  words_are = ap₂ (λ a b. bit_and a b + bit_and (a / 2 ^ w) b * 2 ^ v) e mask_is ∙ halved n v w x g.narrow

  words_lt : bit_and y (mask_of ones w) + upper < 2 ^ 64
  words_lt = filled (2 * n) v (part w x) full_next (λ i b. omega (arith, mod-lt (x / 2 ^ (i * w)) (pow_pos w), pow_mono g.narrow)) words_are

  words_is : words_of w v (mask_of ones w) y ≡ bit_and y (mask_of ones w) + upper
  words_is = ap (λ z. bit_and y (mask_of ones w) + z) (mod-eq_of_lt (let l : upper < 2 ^ 64 = omega (arith, words_lt) in l))

  ones_are : ones + ones * 2 ^ v ≡ abreast (2 * n) v (λ i. 1)
  ones_are = ap (λ a. a + a * 2 ^ v) o ∙ ones_halved n v

  ones_lt : ones + ones * 2 ^ v < 2 ^ 64
  ones_lt = filled (2 * n) v (λ i. 1) full_next (λ i b. pow_mono {i = 1} {j = v} (omega (arith, g))) ones_are

  ones_is : ones_of ones v ≡ ones + ones * 2 ^ v
  ones_is = ap (λ z. ones + z) (mod-eq_of_lt (let l : ones * 2 ^ v < 2 ^ 64 = omega (arith, ones_lt) in l))

  turn_in : {D : ℕ} → Spreading D x w v (ones_of ones v) (words_of w v (mask_of ones w) y) → Turn D x w v ones y
  turn_in s = record {
    narrow = g.narrow;
    short = g.short;
    some = omega (arith, power, pow_pos w);
    mask_fits = mask_lt;
    words_fit = omega (arith, words_is, words_lt);
    ones_fit = omega (arith, ones_is, ones_lt);
    next = s;
  }

-- with k + 1 turns left
module _ {D x w v ones y : ℕ} (h : D ≤ 6) (s : Spreading D x w v ones y) (k : ℕ) (e : s.left ≡ suc k) where
  abbrev n : ℕ
  n = 2 ^ s.turns

  wide_is : w ≡ 2 * 2 ^ k
  wide_is = s.wide ∙ ap (λ j. 2 ^ j) e ∙ pow-succ' 2 k

  lane_is : v ≡ 2 * 2 ^ (k + (6 - D))
  lane_is = s.lane ∙ ap (λ j. 2 ^ j) (let f : s.left + (6 - D) ≡ suc (k + (6 - D)) = omega arith in f) ∙ pow-succ' 2 (k + (6 - D))

  even_wide : w ≡ 2 * (w / 2)
  even_wide = omega (arith, wide_is)

  even_lane : v ≡ 2 * (v / 2)
  even_lane = omega (arith, lane_is)

  lanes : Lanes n (w / 2) (v / 2)
  lanes = record {
    some = omega (arith, wide_is, pow_pos k);
    narrow = omega (arith, wide_is, lane_is, pow_mono (let f : k ≤ k + (6 - D) = omega arith in f));
    short = omega (arith, lane_is, pow_mono (let f : k + (6 - D) ≤ 5 = omega (arith, s.all) in f));
    full =
        ap (λ j. n * j) (sym even_lane ∙ s.lane) ∙ sym (pow-add 2 s.turns (s.left + (6 - D)))
        ∙ ap (λ j. 2 ^ j) (let f : s.turns + (s.left + (6 - D)) ≡ 6 = omega (arith, s.all) in f);
  }

  before_ones : ones ≡ abreast n (2 * (v / 2)) (λ i. 1)
  before_ones = s.firsts ∙ ap (λ j. abreast n j (λ i. 1)) even_lane

  before_words : y ≡ abreast n (2 * (v / 2)) (part (2 * (w / 2)) x)
  before_words = s.words ∙ ap₂ (λ i j. abreast n i (part j x)) even_lane even_wide

  twice : 2 * n ≡ 2 ^ suc s.turns
  twice = sym (pow-succ' 2 s.turns)

  turn_on : Turn D x (w / 2) (v / 2) ones y
  turn_on = turn_in lanes x before_ones before_words (record {
    turns = suc s.turns;
    left = k;
    all = omega (arith, s.all);
    wide = omega (arith, wide_is);
    lane = omega (arith, lane_is);
    firsts = ones_is lanes x before_ones before_words ∙ ones_are lanes x before_ones before_words ∙ ap (λ j. abreast j (v / 2) (λ i. 1)) twice;
    words = words_is lanes x before_ones before_words ∙ words_are lanes x before_ones before_words ∙ ap (λ j. abreast j (v / 2) (part (w / 2) x)) twice;
  })

pub turn : {D x w v ones y : ℕ} → D ≤ 6 → 1 < w → Spreading D x w v ones y → Turn D x (w / 2) (v / 2) ones y
turn {D} {x} {w} {v} {ones} {y} h l s = go s.left refl
  where
    go : (k : ℕ) → s.left ≡ k → Turn D x (w / 2) (v / 2) ones y
    go zero e = absurd (omega (arith, s.wide, ap (λ j. 2 ^ j) e))
    go (suc k) e = turn_on h s k e

-- ---- the nodes that the bits name

module _ (D : ℕ) (h : D ≤ 6) (bs : List ℕ) where
  abbrev gap : ℕ
  gap = 6 - D

  abbrev leaves : ℕ
  leaves = field bs (3 * 2 ^ D) (2 ^ D)

  abbrev word : ℕ
  word = abreast (2 ^ D) (2 ^ gap) (digit leaves)

  word-bit : (i k : ℕ) → i < 2 ^ D → k < 2 ^ gap → digit word (i * 2 ^ gap + k) ≡ digit (digit leaves i) k
  word-bit = word-digit (2 ^ D) (2 ^ gap) (digit leaves) (λ i l. omega (arith, digit_lt leaves i, pow_mono {i = 1} {j = 2 ^ gap} (pow_pos gap)))

  module _ (t c : ℕ) (l : t ≤ 5) (r : c < 2 ^ (5 - t)) where
    abbrev node : ℕ
    node = 2 ^ (5 - t) * 1 + c

    at : At (5 - t) node
    at = at_from (omega arith) (omega (arith, pow_next (5 - t)))

    -- above depth D its bit is at p, and 2 ^ gap times as far in the word
    module _ (g : gap ≤ t) where
      abbrev j : ℕ
      j = t - gap

      abbrev p : ℕ
      p = (2 * c + 1) * 2 ^ j

      names : CutPlace D node (cut_place D j node)
      names = cut_place_lem D (5 - t) j node (omega arith) at (omega arith)

      deep : 2 ^ D ≡ 2 * 2 ^ (5 - t) * 2 ^ j
      deep = ap (λ x. 2 ^ x) (let e : D ≡ 5 - t + 1 + j = omega arith in e) ∙ pow-add 2 (5 - t + 1) j ∙ ap (λ x. x * 2 ^ j) (pow_next (5 - t))

      place : cut_place D j node ≡ p
      place =
          let e : 2 * node + 1 ≡ 2 * 2 ^ (5 - t) + (2 * c + 1) = omega arith in
          omega (arith, deep, ap (λ x. x * 2 ^ j) e, add-mul (2 * 2 ^ (5 - t)) (2 * c + 1) (2 ^ j))

      high : p < 2 ^ D
      high = omega (arith, names.high, place)

      far : 2 ^ t * (2 * c + 1) ≡ p * 2 ^ gap + 0
      far =
          let e : 2 ^ t ≡ 2 ^ j * 2 ^ gap = ap (λ x. 2 ^ x) (let f : t ≡ j + gap = omega arith in f) ∙ pow-add 2 j gap in
          omega (arith, mul_comm (2 ^ t) (2 * c + 1), ap (λ x. (2 * c + 1) * x) e, mul_assoc (2 * c + 1) (2 ^ j) (2 ^ gap))

      same : digit word (2 ^ t * (2 * c + 1)) ≡ leaf_bit D bs (cut_place D j node)
      unfolding leaf_bit
      same =
          ap (digit word) far ∙ word-bit p 0 high (pow_pos gap) ∙ omega (arith, div-one (digit leaves p), digit_lt leaves p)
          ∙ run-digit (bit bs) (bit_lt bs) (3 * 2 ^ D) (2 ^ D) p high ∙ ap (λ x. bit bs (3 * 2 ^ D + x)) (sym place)

      names_above : Cut D (leaf_bit D bs) node ↔ (digit word (2 ^ t * (2 * c + 1)) ≡ 1)
      names_above = let s = cut_set D (leaf_bit D bs) (omega arith) names in (λ q. same ∙ s.0 q, λ q. s.1 (sym same ∙ q))

    -- from depth D on no node is cut, and its bit in the word is between those of two leaves: it is bit k of lane u
    module _ (g : t < gap) where
      abbrev m : ℕ
      m = suc (gap - suc t)

      abbrev u : ℕ
      u = (2 * c + 1) / 2 ^ m

      abbrev k : ℕ
      k = 2 ^ t * ((2 * c + 1) % 2 ^ m)

      lane : 2 ^ gap ≡ 2 ^ t * 2 ^ m
      lane = ap (λ x. 2 ^ x) (let e : gap ≡ t + m = omega arith in e) ∙ pow-add 2 t m

      between : 2 ^ t * (2 * c + 1) ≡ u * 2 ^ gap + k
      between =
          ap (λ x. 2 ^ t * x) (sym (split (2 * c + 1) m)) ∙ mul-add (2 ^ t) (u * 2 ^ m) ((2 * c + 1) % 2 ^ m)
          ∙ ap (λ x. x + k) (mul_left_comm (2 ^ t) u (2 ^ m) ∙ ap (λ x. u * x) (sym lane))

      u_lt : u < 2 ^ D
      u_lt = shr_lt D m (omega (arith, pow_next (5 - t), ap (λ x. 2 ^ x) (let e : 5 - t + 1 ≡ D + m = omega arith in e)))

      k_lt : k < 2 ^ gap
      k_lt = omega (arith, lane, mul-lt-mul_of_pos_left {k = 2 ^ t} (mod-lt (2 * c + 1) (pow_pos m)) (pow_pos t))

      -- an odd number has an odd rest
      k_low : 0 < k
      k_low = mul-pos (pow_pos t) (omega (arith, split (2 * c + 1) m, ap (λ x. u * x) (pow-succ' 2 (gap - suc t)), mul_left_comm u 2 (2 ^ (gap - suc t))))

      unset : digit word (2 ^ t * (2 * c + 1)) ≡ 0
      unset =
          let e : digit leaves u < 2 ^ (0 + k) = omega (arith, digit_lt leaves u, pow_mono {i = 1} {j = 0 + k} (omega (arith, k_low))) in
          ap (digit word) between ∙ word-bit u k u_lt k_lt ∙ omega (arith, shr_lt 0 k e)

      names_below : Cut D (leaf_bit D bs) node ↔ (digit word (2 ^ t * (2 * c + 1)) ≡ 1)
      names_below = (λ q. absurd (omega (arith, cut_depth D (leaf_bit D bs) (omega arith) node q, depth_is at)), λ q. absurd (omega (arith, unset)))

  pub root_names : CutWord (Cut D (leaf_bit D bs)) 1 word
  root_names = record { names = λ t c l r. go t c l r (dec_le gap t) }
    where
      go : (t c : ℕ) → t ≤ 5 → c < 2 ^ (5 - t) → Dec (gap ≤ t) → Cut D (leaf_bit D bs) (2 ^ (5 - t) * 1 + c) ↔ (digit word (2 ^ t * (2 * c + 1)) ≡ 1)
      go t c l r (yes g) = names_above t c l r g
      go t c l r (no g) = names_below t c l r (omega arith)

-- ---- node 1 alone is cut

-- the place of its bit less one, as the code computes it
pub record Alone (D : ℕ) : Type 0 where
  pub some : 1 ≤ 1 * 2 ^ (D - 1) % 2 ^ 64
  pub small : 1 * 2 ^ (D - 1) % 2 ^ 64 - 1 < 64
  pub is : 1 * 2 ^ (1 * 2 ^ (D - 1) % 2 ^ 64 - 1) % 2 ^ 64 ≡ 2 ^ (2 ^ (D - 1) - 1)

pub alone : {D : ℕ} → D ≤ 6 → Alone D
alone {D} h =
    let e = one_shl (D - 1) 64 (omega arith) in
    let l = pow_mono {i = D - 1} {j = 5} (omega arith) in record {
      some = omega (arith, pow_pos (D - 1));
      small = omega arith;
      is = ap (λ x. 1 * 2 ^ (x - 1) % 2 ^ 64) e ∙ one_shl (2 ^ (D - 1) - 1) 64 (omega arith);
    }

-- the one digit of a power
pow-digit : (a b : ℕ) → digit (2 ^ a) b ≡ 1 → b ≡ a
pow-digit a b h = ⊎_elim (λ l. let d = le_dest l in absurd (omega (arith, low d.0 d.1))) (⊎_elim (λ e. e) (λ l. absurd (omega (arith, shr_lt 0 b (pow-lt {i = a} {j = 0 + b} (omega arith)))))) (order b a)
  where
    low : (d : ℕ) → suc b + d ≡ a → 2 ^ a / 2 ^ b ≡ 2 * 2 ^ d
    low d e = ap (λ x. 2 ^ x / 2 ^ b) (let f : a ≡ suc d + b = omega arith in f) ∙ ap (λ x. x / 2 ^ b) (pow-add 2 (suc d) b) ∙ shl-shr (2 ^ suc d) b ∙ pow-succ' 2 d

module _ (D : ℕ) (low : 3 ≤ D) (h : D ≤ 6) (bs : List ℕ) (e : leaves D h bs / 2 ≡ 2 ^ (2 ^ (D - 1) - 1)) where
  abbrev top : ℕ
  top = 2 ^ (D - 1)

  root : named D top ≡ 1
  root = names_named D top (D - 1) 1 (omega arith) (record { depth = 0; levels = omega arith; at = at_root; place = omega (arith, ap (λ x. 2 ^ x) (let f : D ≡ D - 1 + 1 = omega arith in f), pow_next (D - 1)) })

  is_top : (p : ℕ) → 0 < p → p < 2 ^ D → leaf_bit D bs p ≡ 1 → p ≡ top
  unfolding leaf_bit
  is_top p l r s =
      let d : digit (leaves D h bs) (1 + (p - 1)) ≡ 1 = ap (digit (leaves D h bs)) (let f : 1 + (p - 1) ≡ p = omega arith in f) ∙ run-digit (bit bs) (bit_lt bs) (3 * 2 ^ D) (2 ^ D) p r ∙ s in
      omega (arith, pow-digit (top - 1) (p - 1) (sym (ap (λ x. digit x (p - 1)) e) ∙ digit_shift (leaves D h bs) 1 (p - 1) ∙ d), pow_pos (D - 1))

  pub alone_follows : AllFollow D (leaf_bit D bs)
  alone_follows p r l s = subst (Follows (Cut D (leaf_bit D bs))) (sym (ap (named D) (is_top p l r s) ∙ root)) (first_follows (omega arith))
