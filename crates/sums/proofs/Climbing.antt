-- One leaf bit changed: all sums stay right but the one above it. Each word that takes over the change hands it on to the word above.
use mathlib.Core.Path.{◌≡◌, refl, sym, ap, ap₂, ◌∙◌, subst⁻¹}
use mathlib.Core.Logic.{◌≢◌, ◌⊎◌, inl, inr, ⊎_elim}
use mathlib.Core.List.{List}
use Prim.Native.Nat.{ℕ, zero, suc, ◌+◌, ◌-◌, ◌*◌, ◌/◌, ◌%◌, ◌^◌, ◌≤◌, ◌<◌}
use native.Mathlib.Decide.{ℕ_discrete}
use native.Mathlib.Omega.{arith}
use lib.ListN.{length}
use lib.Pow.{pow-add, pow_mono, pow_pos}
use Rattle.bits.specs.Bits.{bit, field}
use Rattle.bits.specs.inner.Puts.{put_field}
use Rattle.bits.proofs.Laws.{le_or_lt, bit_put_other}
use Rattle.nodes.proofs.Depths.{At, pow_next, at_below, at_parent, depth_is}
use Rattle.words.specs.Words.{start, word, leaf_bit}
use Rattle.words.specs.inner.Working.{put_word, put_leaf_bit, Room}
use Rattle.sums.specs.Sums.{SumsRight}
use Rattle.sums.specs.inner.Summed.{NoSum, Summed}
use Rattle.words.proofs.Slots.{from, wide, in_panel, apart, from_mono, from_one, from_leaf, leaf_word, length-put_word, bit_put_word, word_put_same, word_put_other}
use Rattle.words.proofs.Rooms.{bounds, room_bytes}
use Rattle.sums.proofs.Steps.{sum_of, sum_fits}
use Rattle.words.proofs.Leaves.{length_put_leaf, leaf_put_same, leaf_put_other, word_put_leaf}

-- all sums are right but that of node k: a word below it has gained v and lost u. Where k is 0 all are right
pub record AllBut (D u v k : ℕ) (bs : List ℕ) : Type 0 where
  pub others : (j : ℕ) → 1 ≤ j → j < 2 ^ D → j ≢ k → word D bs j ≡ sum_of D bs j
  pub here : 1 ≤ k → word D bs k + v ≡ sum_of D bs k + u

-- a node is a left or a right child
even_odd : (n : ℕ) → (n ≡ 2 * (n / 2)) ⊎ (n ≡ 2 * (n / 2) + 1)
even_odd n = ⊎_elim (λ a. inl (omega arith)) (λ a. inr (omega arith)) (le_or_lt (n % 2) 0)

-- of all words that of node n alone gains v and loses u
pub record OneWord (D n u v : ℕ) (xs ys : List ℕ) : Type 0 where
  pub high : n < 2 ^ (D + 1)
  pub own : word D ys n + u ≡ word D xs n + v
  pub rest : (j : ℕ) → j < 2 ^ (D + 1) → j ≢ n → word D ys j ≡ word D xs j

-- then the sum above it alone is wrong, if no other was, and its own is right now
module _ {D n u v : ℕ} {xs ys : List ℕ} (o : OneWord D n u v xs ys) where
  sum_other : (j : ℕ) → j < 2 ^ D → j ≢ n / 2 → sum_of D ys j ≡ sum_of D xs j
  sum_other j h z =
      ap₂ (λ (x y : ℕ). x + y) (o.rest (2 * j) (omega (arith, pow_next D)) (λ e. z (omega arith)))
      (o.rest (2 * j + 1) (omega (arith, pow_next D)) (λ e. z (omega arith)))

  sum_above : sum_of D ys (n / 2) + u ≡ sum_of D xs (n / 2) + v
  sum_above =
      ⊎_elim (λ e. omega (arith, o.own, ap (word D ys) e, ap (word D xs) e, o.rest (2 * (n / 2) + 1) (omega (arith, o.high, pow_next D)) (λ z. omega arith)))
      (λ e. omega (arith, o.own, ap (word D ys) e, ap (word D xs) e, o.rest (2 * (n / 2)) (omega (arith, o.high)) (λ z. omega arith)))
      (even_odd n)

  above : ((j : ℕ) → 1 ≤ j → j < 2 ^ D → j ≢ n → word D xs j ≡ sum_of D xs j) → (n < 2 ^ D → word D xs n + v ≡ sum_of D xs n + u) → AllBut D u v (n / 2) ys
  above others own = record {
    others = λ j l h z. go j l h z (ℕ_discrete j n);
    here = λ l. let m : ℕ = n / 2 in
        omega (arith, o.rest m (omega (arith, o.high)) (λ e. omega arith), others m l (omega (arith, o.high, pow_next D)) (λ e. omega arith), sum_above);
  }
    where
      go : (j : ℕ) → 1 ≤ j → j < 2 ^ D → j ≢ n / 2 → Dec (j ≡ n) → word D ys j ≡ sum_of D ys j
      go j l h z (yes e) = omega (arith, ap (word D ys) e, ap (sum_of D xs) e, o.own, own (omega arith), sum_other j h z)
      go j l h z (no e) = o.rest j (omega (arith, pow_next D)) e ∙ others j l h e ∙ sym (sum_other j h z)

-- ---- the bit

module _ {D : ℕ} {xs : List ℕ} {p v : ℕ} (room : Room D xs) (right : SumsRight D xs) (hp : p < 2 ^ D) (hv : v < 2) where
  abbrev put : List ℕ
  put = put_leaf_bit D xs p v

  -- where it is v already all is as it should be
  pub climb_none : leaf_bit D xs p ≡ v → Summed D put xs
  unfolding leaf_bit put_leaf_bit
  climb_none e = record {
    long = sym (length_put_leaf D xs p v);
    same = λ q o. go q (ℕ_discrete q (3 * 2 ^ D + p));
    sums = right;
  }
    where
      go : (q : ℕ) → Dec (q ≡ 3 * 2 ^ D + p) → bit xs q ≡ bit put q
      go q (yes z) = ap (bit xs) z ∙ e ∙ sym (leaf_put_same D xs p v hv room hp) ∙ ap (bit put) (sym z)
      go q (no z) = sym (bit_put_other xs (3 * 2 ^ D + p) q v hv z)

  one_leaf : OneWord D (2 ^ D + p) (leaf_bit D xs p) v xs put
  one_leaf = record {
    high = omega (arith, pow_next D);
    own = omega (arith, leaf_word D p put hp, leaf_word D p xs hp, leaf_put_same D xs p v hv room hp);
    rest = λ j h z. ⊎_elim (λ l.
        let e : 2 ^ D + (j - 2 ^ D) ≡ j = omega arith in
        let q : j - 2 ^ D < 2 ^ D = omega (arith, pow_next D) in
        ap (word D put) (sym e) ∙ leaf_word D (j - 2 ^ D) put q ∙ leaf_put_other D xs p v hv (j - 2 ^ D) (λ y. z (omega arith)) ∙ sym (leaf_word D (j - 2 ^ D) xs q) ∙ ap (word D xs) e)
        (λ l. word_put_leaf D xs p v hv j hp l) (le_or_lt (2 ^ D) j);
  }

  first : AllBut D (leaf_bit D xs p) v ((2 ^ D + p) / 2) put
  first = above one_leaf (λ j l h z. right j l h) (λ h. absurd (omega arith))

-- ---- the way up

-- ys is xs with sums changed, and all are right but that of node k
pub record Climbed (D u v k : ℕ) (xs ys : List ℕ) : Type 0 where
  pub long : length ys ≡ length xs
  pub same : (q : ℕ) → NoSum D q → bit ys q ≡ bit xs q
  pub sums : AllBut D u v k ys

-- as the code begins, under the bit's parent m
pub climb_first : {D u v p m : ℕ} {xs ys : List ℕ} → Room D xs → SumsRight D xs → p < 2 ^ D → v < 2 → u ≡ leaf_bit D xs p → m ≡ (2 ^ D + p) / 2 → ys ≡ put_leaf_bit D xs p v
    → Climbed D u v m ys ys
climb_first {D} {u} {v} {p} {m} {xs} {ys} room right hp hv a b c = record {
  long = refl;
  same = λ q o. refl;
  sums = rw c (subst⁻¹ (λ (x : ℕ). AllBut D x v m (put_leaf_bit D xs p v)) a
      (subst⁻¹ (λ (x : ℕ). AllBut D (leaf_bit D xs p) v x (put_leaf_bit D xs p v)) b (first room right hp hv)));
}

pub climb_done : {D u v k : ℕ} {xs ys : List ℕ} → Climbed D u v k xs ys → k ≡ 0 → Summed D xs ys
climb_done c e = record { long = c.long; same = c.same; sums = λ j l h. c.sums.others j l h (λ z. omega arith) }

-- one word
module _ {D u v m : ℕ} {xs ys : List ℕ} (c : Climbed D u v m xs ys) (low : 1 ≤ m) (high : m < 2 ^ D) where
  pub climb_takes : u ≤ word D ys m + v
  climb_takes = omega (arith, c.sums.here low)

  pub climb_fits : word D ys m + v - u < 2 ^ wide D m
  climb_fits = omega (arith, c.sums.here low, sum_fits D ys m low high)

  module _ {zs : List ℕ} (room : 2 ^ (D + 2) ≤ 8 * length ys) (put : zs ≡ put_word D ys m (word D ys m + v - u)) where
    here : m < 2 ^ (D + 1)
    here = omega (arith, pow_next D)

    one_above : OneWord D m u v ys zs
    one_above = rw put (record {
      high = here;
      own = omega (arith, word_put_same D ys m (word D ys m + v - u) here climb_fits room, climb_takes);
      rest = λ j h n. word_put_other D ys m (word D ys m + v - u) here j h n;
    })

    pub climb_step : Climbed D u v (m / 2) xs zs
    climb_step = record {
      long = ap length put ∙ length-put_word D ys m (word D ys m + v - u) ∙ c.long;
      same = λ q o. ap (λ (x : List ℕ). bit x q) put
          ∙ bit_put_word D ys m (word D ys m + v - u) q (⊎_elim (λ l. inl (omega (arith, from_one D, from_mono D 1 m low (omega (arith, here)))))
          (λ l. inr (omega (arith, from_leaf D, apart D m (2 ^ D) high (omega (arith, pow_next D))))) o)
          ∙ c.same q o;
      sums = above one_above c.sums.others (λ h. c.sums.here low);
    }

-- ---- where it stands

-- the word of node k has w bits from bit top + k * w on
pub record OnPath (D k top w : ℕ) : Type 0 where
  pub depth : ℕ
  pub at : At depth k
  pub wide : depth + w ≡ D + 1
  pub first : top ≡ 2 * 2 ^ depth

pub path_first : {D k top w : ℕ} → At D k → top ≡ 2 * 2 ^ D → w ≡ 1 → OnPath D k top w
path_first {D} a e f = record { depth = D; at = a; wide = omega arith; first = e }

-- one level up
pub path_up : {D k top w : ℕ} → OnPath D k top w → 1 < k → OnPath D (k / 2) (top / 2) (w + 1)
path_up {D} {k} {top} {w} o h = go o.depth o.at o.wide o.first
  where
    go : (d : ℕ) → At d k → d + w ≡ D + 1 → top ≡ 2 * 2 ^ d → OnPath D (k / 2) (top / 2) (w + 1)
    go zero a e f = absurd (omega (arith, a.high))
    go (suc d) a e f = record { depth = d; at = at_parent a; wide = omega arith; first = omega (arith, pow_next d) }

-- the word is a sum, inside the bytes, and what the code reads and writes there is that word
pub record OfSum (D k top w : ℕ) (bs : List ℕ) : Type 0 where
  pub low : 1 ≤ k
  pub high : k < 2 ^ D
  pub narrow : w ≤ 18
  pub small : top + k * w ≤ 524288
  pub inside : top + k * w + w ≤ 8 * length bs
  pub bytes : 4 ≤ length bs
  pub roomy : 5 ≤ D → (top + k * w) / 8 + 4 ≤ length bs
  pub most : 2 ^ wide D k ≡ 2 ^ w
  pub get : field bs (top + k * w) w ≡ word D bs k
  pub moved : (u v : ℕ) (zs : List ℕ) → zs ≡ put_field bs (top + k * w) w (field bs (top + k * w) w + v - u) → zs ≡ put_word D bs k (word D bs k + v - u)

pub of_sum : {D k top w : ℕ} {bs : List ℕ} → Room D bs → OnPath D k top w → 2 ≤ w → OfSum D k top w bs
unfolding word put_word
of_sum {D} {k} {top} {w} {bs} room o some =
    let d : ℕ = o.depth in
    let b = at_below o.at in
    let h : k < 2 ^ D = omega (arith, pow_mono {i = d + 1} {j = D} (omega (arith, o.wide))) in
    let x : wide D k ≡ w = omega (arith, depth_is o.at, o.wide) in
    let i : from D k ≡ top + k * w =
    ap (λ (y : ℕ). start D y k) (depth_is o.at) ∙ omega (arith, o.first, pow_next d, ap (λ (y : ℕ). k * y) {x = D + 1 - d} {y = w} (omega (arith, o.wide))) in
    let q = in_panel D k (omega (arith, pow_next D)) in
    record {
      low = omega (arith, o.at.low, pow_pos d);
      high = h;
      narrow = omega (arith, o.wide, room.high);
      small = omega (arith, bounds room);
      inside = omega (arith, room.long);
      bytes = room_bytes room;
      roomy = λ l. omega (arith, i, room.long, pow-add 2 D 2, pow_mono {i = 5} {j = D} l, apart D k (2 ^ D) h (omega (arith, pow_next D)), from_leaf D);
      most = ap (λ (y : ℕ). 2 ^ y) x;
      get = ap₂ (field bs) (sym i) (sym x);
      moved = λ u v zs e. e ∙ ap₂ (λ (y z : ℕ). put_field bs y z (field bs y z + v - u)) (sym i) (sym x);
    }
