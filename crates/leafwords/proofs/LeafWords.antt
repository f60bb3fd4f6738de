-- The leaf word below a node: which nodes its bits name, and what a good set of cuts asks of them.
use mathlib.Core.Path.{◌≡◌, refl, sym, ap, ap₂, ◌∙◌, subst}
use mathlib.Core.Logic.{◌≢◌, ◌↔◌}
use mathlib.Core.List.{List}
use Prim.Native.Nat.{ℕ, zero, suc, ◌+◌, ◌-◌, ◌*◌, ◌/◌, ◌%◌, ◌^◌, ◌≤◌, ◌<◌}
use native.Mathlib.Nat.{mod-lt, mul_comm, mul-add, add-mul, mul_assoc, mul-le-mul_right, div-one}
use native.Mathlib.Decide.{ℕ_discrete, dec_le}
use native.Mathlib.Omega.{arith}
use lib.Pow.{pow_pos, pow-add, pow_mono, shr_lt, shr_le, shr-shr, shl-shr, split, high}
use lib.ListN.{length}
use Rattle.bits.specs.Bits.{digit, bit, field}
use Rattle.bits.proofs.Laws.{one_shl, run-digit, bit_lt, digit_lt, digit_shift}
use Rattle.nodes.specs.Depth.{depth_of}
use Rattle.nodes.specs.Neighbours.{edge}
use Rattle.nodes.proofs.Depths.{At, at_from, at_depth, at_below, pow_next}
use Rattle.nodes.proofs.Edges.{edge_low, edge_mutual, edge_first}
use Rattle.words.specs.Words.{leaf_bit}
use Rattle.words.specs.inner.Working.{Room}
use Rattle.words.proofs.Rooms.{bounds, whole_words}
use Rattle.cuts.specs.Cuts.{named, Cut, GoodCuts}
use Rattle.cuts.specs.inner.Steps.{Follows, AcrossCut, PlaceFollows, AllFollow}
use Rattle.leafwords.specs.inner.LeafWord.{CutWord, Same, Beside, ParentsBeside, InnerSame, TopSame, Mirrored, OuterAcross, RootFollows, BelowFollow, BlockFollows}
use Rattle.cuts.proofs.Following.{good_follows, place_cut}
use Rattle.cuts.proofs.Places.{place_name, names_named, cut_place_lem, cut_set}
use Rattle.leafwords.proofs.Crossing.{two, first_none, first_some, second_across, third_across, fourth_across, across_4, across_7, across_8, across_11, Both, Over, Across, Pairs, across, root_across, levels}

-- ---- nodes below q, k levels down

-- node i of the 2 ^ k that stand there
pub down : (q k : ℕ) {i : ℕ} → i < 2 ^ k → (2 ^ k * q + i) / 2 ^ k ≡ q
down q k {i} l = ap (λ x. (x + i) / 2 ^ k) (mul_comm (2 ^ k) q) ∙ high q k l

pub down_at : (q k m : ℕ) → m / 2 ^ k ≡ q → m ≡ 2 ^ k * q + m % 2 ^ k
down_at q k m e = omega (arith, split m k, ap (λ x. x * 2 ^ k) e, mul_comm q (2 ^ k))

-- j levels further down
pub deeper : {q : ℕ} (j k n m : ℕ) → n / 2 ^ j ≡ m → m / 2 ^ k ≡ q → n / 2 ^ (j + k) ≡ q
deeper j k n m h e = sym (shr-shr n j k) ∙ ap (λ x. x / 2 ^ k) h ∙ e

-- ---- what a good set of cuts asks of them

-- each is cut only where its parent is
abbrev pub Ups : (ℕ → Type 0) → ℕ → Type 0
Ups P q = (k m : ℕ) → k ≤ 4 → m / 2 ^ k ≡ q → (P (2 * m) → P m) × (P (2 * m + 1) → P m)

-- pairs of them, m at least one level down
pub record InnerBoth (P : ℕ → Type 0) (q : ℕ) : Type 0 where
  pub middle : (k : ℕ) → 1 ≤ k → k ≤ 3 → (m : ℕ) → m / 2 ^ k ≡ q → Both P (4 * m + 1) (4 * m + 2)
  pub outer : (m : ℕ) → m / 2 ^ 1 ≡ q → Both P (16 * m + 4) (16 * m + 11)
  pub inner : (m : ℕ) → m / 2 ^ 1 ≡ q → Both P (16 * m + 7) (16 * m + 8)

module _ (P : ℕ → Type 0) (q : ℕ) where
  -- the parts of the test make the whole ..
  pub below_follow : Ups P q → (2 ≤ q → P q → P (q / 2)) → ((k n : ℕ) → k ≤ 5 → n / 2 ^ k ≡ q → Over P n) → BelowFollow P q
  below_follow u t o zero n l e p =
      let h : q ≡ n = omega arith in
      record { up = subst (λ x. 2 ≤ x → P (x / 2)) h (λ g. t g (subst P (sym h) p)); over = λ _. o 0 n l e p }
  below_follow u t o (suc k) n l e p =
      let m : ℕ = n / 2 in
      let f = u k m (omega arith) (shr-shr n 1 k ∙ ap (λ x. n / 2 ^ x) (let h : 1 + k ≡ suc k = omega arith in h) ∙ e) in
      record { up = λ _. two (λ x. P x → P m) m f.0 f.1 n refl p; over = λ _. o (suc k) n l e p }

  -- a child of q, with the pairs that stand below it
  half_pairs : InnerBoth P q → (m : ℕ) → m / 2 ≡ q → Pairs P m
  half_pairs b m e = record { middle = b.middle 1 (omega arith) (omega arith) m e; outer = b.outer m e; inner = b.inner m e }

  pub half_across : 1 ≤ q → InnerBoth P q → (m : ℕ) → m / 2 ≡ q → OuterAcross P m → Across P m
  half_across low b m e o = across P m (omega arith) o (half_pairs b m e) (λ r h. b.middle 3 (omega arith) (omega arith) r (omega arith))

  -- .. and follow from it
  module _ (low : 1 ≤ q) (f : BelowFollow P q) where
    pub ups : Ups P q
    ups k m l e = (up (2 * m) (omega arith), up (2 * m + 1) (omega arith))
      where
        up : (n : ℕ) → n / 2 ≡ m → P n → P m
        up n h p = subst P h ((f (1 + k) n (omega arith) (deeper 1 k n m h e) p).up (omega (arith, shr_le m k)))

    -- node n, j levels below m, which stands k levels below q
    over_at : (j k n m : ℕ) → j + k ≤ 5 → n / 2 ^ j ≡ m → m / 2 ^ k ≡ q → 2 ≤ n → Over P n
    over_at j k n m l h e g p = (f (j + k) n l (deeper j k n m h e) p).over g

    pub outer_at : (k m : ℕ) → k ≤ 1 → m / 2 ^ k ≡ q → 2 ≤ m → OuterAcross P m
    outer_at k m l h g = record {
      own = over_at 0 k m m (omega arith) (omega arith) h g;
      first = over_at 2 k (4 * m) m (omega arith) (omega arith) h (omega arith);
      last = over_at 2 k (4 * m + 3) m (omega arith) (omega arith) h (omega arith);
      first_first = over_at 4 k (16 * m) m (omega arith) (omega arith) h (omega arith);
      first_last = over_at 4 k (16 * m + 3) m (omega arith) (omega arith) h (omega arith);
      last_first = over_at 4 k (16 * m + 12) m (omega arith) (omega arith) h (omega arith);
      last_last = over_at 4 k (16 * m + 15) m (omega arith) (omega arith) h (omega arith);
    }

    pair : (j k m n o : ℕ) → j + k ≤ 5 → n / 2 ^ j ≡ m → o / 2 ^ j ≡ m → m / 2 ^ k ≡ q → (2 ≤ n) × (2 ≤ o) → edge n ≡ o → edge o ≡ n → Both P n o
    pair j k m n o l hn ho e g a b =
        (λ p. subst P a (over_at j k n m l hn e g.0 p (omega arith)), λ p. subst P b (over_at j k o m l ho e g.1 p (omega arith)))

    middle_both : (k m : ℕ) → k ≤ 3 → m / 2 ^ k ≡ q → 2 ≤ m → Both P (4 * m + 1) (4 * m + 2)
    middle_both k m l e g = pair 2 k m (4 * m + 1) (4 * m + 2) (omega arith) (omega arith) (omega arith) e (omega arith, omega arith) (second_across m g) (third_across m g)

    outer_both : (k m : ℕ) → k ≤ 1 → m / 2 ^ k ≡ q → 2 ≤ m → Both P (16 * m + 4) (16 * m + 11)
    outer_both k m l e g = pair 4 k m (16 * m + 4) (16 * m + 11) (omega arith) (omega arith) (omega arith) e (omega arith, omega arith) (across_4 m g) (across_11 m g)

    inner_both : (k m : ℕ) → k ≤ 1 → m / 2 ^ k ≡ q → 2 ≤ m → Both P (16 * m + 7) (16 * m + 8)
    inner_both k m l e g = pair 4 k m (16 * m + 7) (16 * m + 8) (omega arith) (omega arith) (omega arith) e (omega arith, omega arith) (across_7 m g) (across_8 m g)

    pub all_both : InnerBoth P q
    all_both = record {
      middle = λ k a l m e. middle_both k m l e (omega (arith, shr_le (m / 2) (k - 1), shr-shr m 1 (k - 1), ap (λ x. m / 2 ^ x) (let h : 1 + (k - 1) ≡ k = omega arith in h)));
      outer = λ m e. outer_both 1 m (omega arith) e (omega arith);
      inner = λ m e. inner_both 1 m (omega arith) e (omega arith);
    }

    pub top_both : 2 ≤ q → Pairs P q
    top_both g = record { middle = middle_both 0 q (omega arith) (omega arith) g; outer = outer_both 0 q (omega arith) (omega arith) g; inner = inner_both 0 q (omega arith) (omega arith) g }

-- ---- the leaf word says it

-- the seven nodes along the long side of m, and their bits in w
pub record Outer (P : ℕ → Type 0) (s m w : ℕ) : Type 0 where
  pub own : P m ↔ (digit w (16 * s) ≡ 1)
  pub first : P (4 * m) ↔ (digit w (4 * s) ≡ 1)
  pub last : P (4 * m + 3) ↔ (digit w (28 * s) ≡ 1)
  pub first_first : P (16 * m) ↔ (digit w s ≡ 1)
  pub first_last : P (16 * m + 3) ↔ (digit w (7 * s) ≡ 1)
  pub last_first : P (16 * m + 12) ↔ (digit w (25 * s) ≡ 1)
  pub last_last : P (16 * m + 15) ↔ (digit w (31 * s) ≡ 1)

-- a bit is at most another where that is set beside it
beside : (x y : ℕ) → x < 2 → (x ≡ 1 → y ≡ 1) → x ≤ y
beside x y l h = go (ℕ_discrete x 1)
  where
    go : Dec (x ≡ 1) → x ≤ y
    go (yes e) = omega (arith, h e)
    go (no e) = omega arith

module _ {P : ℕ → Type 0} {q b : ℕ} (c : CutWord P q b) where
  -- node n stands j levels below node i of those k levels below q: its bit is bit p of word i, of words of v bits
  lane : (t k j : ℕ) → t + k + j ≡ 5 → (n a i p v : ℕ) → n ≡ 2 ^ j * (2 ^ k * q + i) + a → a < 2 ^ j → i < 2 ^ k → p ≡ (2 * a + 1) * 2 ^ t → v ≡ 2 * 2 ^ j * 2 ^ t
      → P n ↔ (digit b (p + i * v) ≡ 1)
  lane t k j h n a i p v en la li ep ev =
      let s : ℕ = 2 ^ t in
      let w : ℕ = 2 ^ j in
      let x : ℕ = a + i * w in
      let all : 2 ^ (5 - t) ≡ w * 2 ^ k = ap (λ y. 2 ^ y) (let g : 5 - t ≡ j + k = omega arith in g) ∙ pow-add 2 j k in
      let node : 2 ^ (5 - t) * q + x ≡ n = omega (arith, ap (λ y. y * q) all, mul_assoc w (2 ^ k) q, mul-add w (2 ^ k * q) i, mul_comm w i) in
      let room : x < 2 ^ (5 - t) = omega (arith, mul-le-mul_right {m = i + 1} {n = 2 ^ k} w (omega arith), add-mul i 1 w, mul_comm (2 ^ k) w) in
      let odd : 2 * x + 1 ≡ 2 * a + 1 + i * (2 * w) = omega (arith, mul_comm i (2 * w), mul_assoc 2 w i, mul_comm w i) in
      let place : s * (2 * x + 1) ≡ p + i * v = mul_comm s (2 * x + 1) ∙ ap (λ y. y * s) odd ∙ add-mul (2 * a + 1) (i * (2 * w)) s ∙ ap₂ (λ y z. y + z) (sym ep) (mul_assoc i (2 * w) s ∙ ap (λ y. i * y) (sym ev)) in
      subst (λ y. P y ↔ (digit b (p + i * v) ≡ 1)) node (subst (λ y. P (2 ^ (5 - t) * q + x) ↔ (digit b y ≡ 1)) place (c.names t x (omega arith) room))

  -- a word without bits 1 to 63 names none of them
  pub none_follow : b < 2 → BelowFollow P q
  none_follow h k n l e p =
      let s : ℕ = 2 ^ (5 - k) in
      let i : ℕ = s + n % 2 ^ k * (2 * s) in
      let zero' : b / 2 ^ i < 1 = shr_lt 0 i (omega (arith, pow_mono {i = 1} {j = 0 + i} (omega (arith, pow_pos (5 - k))))) in
      absurd (omega (arith, (lane (5 - k) k 0 (omega arith) n 0 (n % 2 ^ k) s (2 * s) (omega (arith, down_at q k n e)) (omega arith) (mod-lt n (pow_pos k)) (omega arith) (omega arith)).0 p))

  -- a node and its parent
  climb : (l p : ℕ) {n m : ℕ} → P n ↔ (digit b l ≡ 1) → P m ↔ (digit b p ≡ 1) → digit b l ≤ digit b p → P n → P m
  climb l p f g h x = g.1 (omega (arith, f.0 x, digit_lt b p))

  fall : (l p : ℕ) {n m : ℕ} → P n ↔ (digit b l ≡ 1) → P m ↔ (digit b p ≡ 1) → (P n → P m) → digit b l ≤ digit b p
  fall l p f g u = beside _ _ (digit_lt b l) (λ x. g.0 (u (f.1 x)))

  -- m is node i of those k levels below q, its children's bits are odd multiples of 2 ^ t
  module _ (t k : ℕ) (h : t + k ≡ 4) (m i : ℕ) (e : m ≡ 2 ^ k * q + i) (l : i < 2 ^ k) where
    parent : P m ↔ (digit b (2 * 2 ^ t + i * (4 * 2 ^ t)) ≡ 1)
    parent = lane (t + 1) k 0 (omega arith) m 0 i (2 * 2 ^ t) (4 * 2 ^ t) (omega arith) (omega arith) l (omega (arith, pow_next t)) (omega (arith, pow_next t))

    left : P (2 * m) ↔ (digit b (2 ^ t + i * (4 * 2 ^ t)) ≡ 1)
    left = lane t k 1 (omega arith) (2 * m) 0 i (2 ^ t) (4 * 2 ^ t) (omega arith) (omega arith) l (omega arith) (omega arith)

    right : P (2 * m + 1) ↔ (digit b (3 * 2 ^ t + i * (4 * 2 ^ t)) ≡ 1)
    right = lane t k 1 (omega arith) (2 * m + 1) 1 i (3 * 2 ^ t) (4 * 2 ^ t) (omega arith) (omega arith) l (omega arith) (omega arith)

  pub parents_up : ParentsBeside b → Ups P q
  parents_up u k m l e =
      let t : ℕ = 4 - k in
      let s : Beside (2 ^ k) (2 ^ t) b = subst (λ x. Beside (2 ^ x) (2 ^ t) b) (let g : 4 - t ≡ k = omega arith in g) (u t (omega arith)) in
      let i : ℕ = m % 2 ^ k in
      let r = mod-lt m (pow_pos k) in
      let d = down_at q k m e in
      let a = parent t k (omega arith) m i d r in (
        climb (2 ^ t + i * (4 * 2 ^ t)) (2 * 2 ^ t + i * (4 * 2 ^ t)) (left t k (omega arith) m i d r) a (s.left.at i r),
        climb (3 * 2 ^ t + i * (4 * 2 ^ t)) (2 * 2 ^ t + i * (4 * 2 ^ t)) (right t k (omega arith) m i d r) a (s.right.at i r),
      )

  pub up_parents : Ups P q → ParentsBeside b
  up_parents u t l = record {
    left = record { at = λ i r. fall (2 ^ t + i * (4 * 2 ^ t)) (2 * 2 ^ t + i * (4 * 2 ^ t)) (left t k (omega arith) (m i) i refl r) (parent t k (omega arith) (m i) i refl r) (u k (m i) (omega arith) (down q k r)).0 };
    right = record { at = λ i r. fall (3 * 2 ^ t + i * (4 * 2 ^ t)) (2 * 2 ^ t + i * (4 * 2 ^ t)) (right t k (omega arith) (m i) i refl r) (parent t k (omega arith) (m i) i refl r) (u k (m i) (omega arith) (down q k r)).1 };
  }
    where
      k : ℕ
      k = 4 - t

      m : ℕ → ℕ
      m i = 2 ^ k * q + i

  -- nodes across from each other: a and o of the nodes j levels below m, which stands k levels below q
  module _ (t k j a o : ℕ) (h : t + k + j ≡ 5) (la : a < 2 ^ j) (lo : o < 2 ^ j) where
    at : (m i : ℕ) → m ≡ 2 ^ k * q + i → i < 2 ^ k → (a : ℕ) → a < 2 ^ j → P (2 ^ j * m + a) ↔ (digit b ((2 * a + 1) * 2 ^ t + i * (2 * 2 ^ j * 2 ^ t)) ≡ 1)
    at m i e l a la = lane t k j h (2 ^ j * m + a) a i ((2 * a + 1) * 2 ^ t) (2 * 2 ^ j * 2 ^ t) (ap (λ x. 2 ^ j * x + a) e) la l refl refl

    pair_up : Same (2 ^ k) (2 * 2 ^ j * 2 ^ t) ((2 * a + 1) * 2 ^ t) ((2 * o + 1) * 2 ^ t) b → (m : ℕ) → m / 2 ^ k ≡ q → Both P (2 ^ j * m + a) (2 ^ j * m + o)
    pair_up s m e =
        let l = mod-lt m (pow_pos k) in
        let f = at m (m % 2 ^ k) (down_at q k m e) l in
        let d = s.at (m % 2 ^ k) l in
        (λ x. (f o lo).1 (sym d ∙ (f a la).0 x), λ x. (f a la).1 (d ∙ (f o lo).0 x))

    pair_down : ((m : ℕ) → m / 2 ^ k ≡ q → Both P (2 ^ j * m + a) (2 ^ j * m + o)) → Same (2 ^ k) (2 * 2 ^ j * 2 ^ t) ((2 * a + 1) * 2 ^ t) ((2 * o + 1) * 2 ^ t) b
    pair_down u = record {
      at = λ i l.
          let m : ℕ = 2 ^ k * q + i in
          let f = at m i refl l in
          let d = u m (down q k l) in
          let p : ℕ → ℕ = λ a. (2 * a + 1) * 2 ^ t + i * (2 * 2 ^ j * 2 ^ t) in
          let there = fall (p a) (p o) (f a la) (f o lo) d.0 in
          let back = fall (p o) (p a) (f o lo) (f a la) d.1 in
          omega (arith, there, back);
    }

  pub inner_up : InnerSame b → InnerBoth P q
  inner_up s = record {
    middle = λ k x y.
        let t : ℕ = 3 - k in
        pair_up t k 2 1 2 (omega arith) (omega arith) (omega arith) (subst (λ j. Same (2 ^ j) (8 * 2 ^ t) (3 * 2 ^ t) (5 * 2 ^ t) b) (let g : 3 - t ≡ k = omega arith in g) (s.middle t (omega arith)));
    outer = pair_up 0 1 4 4 11 refl (omega arith) (omega arith) s.outer;
    inner = pair_up 0 1 4 7 8 refl (omega arith) (omega arith) s.inner;
  }

  pub up_inner : InnerBoth P q → InnerSame b
  up_inner u = record {
    middle = λ t l. pair_down t (3 - t) 2 1 2 (omega arith) (omega arith) (omega arith) (u.middle (3 - t) (omega arith) (omega arith));
    outer = pair_down 0 1 4 4 11 refl (omega arith) (omega arith) u.outer;
    inner = pair_down 0 1 4 7 8 refl (omega arith) (omega arith) u.inner;
  }

  pub top_up : TopSame b → Pairs P q
  top_up s = record {
    middle = pair_up 3 0 2 1 2 refl (omega arith) (omega arith) s.middle q (omega arith);
    outer = pair_up 1 0 4 4 11 refl (omega arith) (omega arith) s.outer q (omega arith);
    inner = pair_up 1 0 4 7 8 refl (omega arith) (omega arith) s.inner q (omega arith);
  }

  pub up_top : Pairs P q → TopSame b
  up_top u = record {
    middle = pair_down 3 0 2 1 2 refl (omega arith) (omega arith) (λ m e. subst (λ x. Both P (4 * x + 1) (4 * x + 2)) (own m e) u.middle);
    outer = pair_down 1 0 4 4 11 refl (omega arith) (omega arith) (λ m e. subst (λ x. Both P (16 * x + 4) (16 * x + 11)) (own m e) u.outer);
    inner = pair_down 1 0 4 7 8 refl (omega arith) (omega arith) (λ m e. subst (λ x. Both P (16 * x + 7) (16 * x + 8)) (own m e) u.inner);
  }
    where
      own : (m : ℕ) → m / 2 ^ 0 ≡ q → q ≡ m
      own m e = omega arith

  -- the nodes along the long side of q, and of a child of q
  pub outer_whole : Outer P 2 q b
  outer_whole = record {
    own = lane 5 0 0 refl q 0 0 32 64 (omega arith) (omega arith) (omega arith) refl refl;
    first = lane 3 0 2 refl (4 * q) 0 0 8 64 (omega arith) (omega arith) (omega arith) refl refl;
    last = lane 3 0 2 refl (4 * q + 3) 3 0 56 64 (omega arith) (omega arith) (omega arith) refl refl;
    first_first = lane 1 0 4 refl (16 * q) 0 0 2 64 (omega arith) (omega arith) (omega arith) refl refl;
    first_last = lane 1 0 4 refl (16 * q + 3) 3 0 14 64 (omega arith) (omega arith) (omega arith) refl refl;
    last_first = lane 1 0 4 refl (16 * q + 12) 12 0 50 64 (omega arith) (omega arith) (omega arith) refl refl;
    last_last = lane 1 0 4 refl (16 * q + 15) 15 0 62 64 (omega arith) (omega arith) (omega arith) refl refl;
  }

  pub outer_half : (n : ℕ) → n / 2 ≡ q → Outer P 1 n (b / 2 ^ (32 * (n % 2)))
  outer_half n h = record {
    own = up n 16 (lane 4 1 0 refl n 0 (n % 2) 16 32 (omega arith) (omega arith) (omega arith) refl refl);
    first = up (4 * n) 4 (lane 2 1 2 refl (4 * n) 0 (n % 2) 4 32 (omega arith) (omega arith) (omega arith) refl refl);
    last = up (4 * n + 3) 28 (lane 2 1 2 refl (4 * n + 3) 3 (n % 2) 28 32 (omega arith) (omega arith) (omega arith) refl refl);
    first_first = up (16 * n) 1 (lane 0 1 4 refl (16 * n) 0 (n % 2) 1 32 (omega arith) (omega arith) (omega arith) refl refl);
    first_last = up (16 * n + 3) 7 (lane 0 1 4 refl (16 * n + 3) 3 (n % 2) 7 32 (omega arith) (omega arith) (omega arith) refl refl);
    last_first = up (16 * n + 12) 25 (lane 0 1 4 refl (16 * n + 12) 12 (n % 2) 25 32 (omega arith) (omega arith) (omega arith) refl refl);
    last_last = up (16 * n + 15) 31 (lane 0 1 4 refl (16 * n + 15) 15 (n % 2) 31 32 (omega arith) (omega arith) (omega arith) refl refl);
  }
    where
      up : (m p : ℕ) → P m ↔ (digit b (p + n % 2 * 32) ≡ 1) → P m ↔ (digit (b / 2 ^ (32 * (n % 2))) p ≡ 1)
      up m p f =
          let e : digit (b / 2 ^ (32 * (n % 2))) p ≡ digit b (p + n % 2 * 32) = digit_shift b (32 * (n % 2)) p ∙ ap (digit b) (omega arith) in
          (λ x. e ∙ f.0 x, λ x. f.1 (sym e ∙ x))

-- ---- across the long side of m

pub edge_two : (n : ℕ) → 2 ≤ n → edge n ≢ 0 → 2 ≤ edge n
edge_two n l z = edge_low (edge n) (omega (arith, edge_mutual n z))

module _ {P : ℕ → Type 0} {s m w : ℕ} (low : 2 ≤ m) (o : Outer P s m w) where
  -- at the border nothing stands there
  pub border_across : edge m ≡ 0 → OuterAcross P m
  border_across z = record {
    own = λ _ y. absurd (y z);
    first = λ _ y. absurd (y e0);
    last = λ _ y. absurd (y e3);
    first_first = λ _ y. absurd (y (from (16 * m) (4 * (4 * m)) (omega arith) (first_none (4 * m) (omega arith) e0)));
    first_last = λ _ y. absurd (y (from (16 * m + 3) (4 * (4 * m) + 3) (omega arith) (fourth_across (4 * m) (omega arith) ∙ omega (arith, e0))));
    last_first = λ _ y. absurd (y (from (16 * m + 12) (4 * (4 * m + 3)) (omega arith) (first_none (4 * m + 3) (omega arith) e3)));
    last_last = λ _ y. absurd (y (from (16 * m + 15) (4 * (4 * m + 3) + 3) (omega arith) (fourth_across (4 * m + 3) (omega arith) ∙ omega (arith, e3))));
  }
    where
      e0 : edge (4 * m) ≡ 0
      e0 = first_none m low z

      e3 : edge (4 * m + 3) ≡ 0
      e3 = omega (arith, fourth_across m low)

      from : (n k : ℕ) → n ≡ k → edge k ≡ 0 → edge n ≡ 0
      from n k e f = ap edge e ∙ f

  module _ (z : edge m ≢ 0) where
    abbrev e : ℕ
    e = edge m

    first_edge : edge (4 * m) ≡ 4 * e + 3
    first_edge = first_some m low z

    last_edge : edge (4 * m + 3) ≡ 4 * e
    last_edge = fourth_across m low

    first_first_edge : edge (16 * m) ≡ 16 * e + 15
    first_first_edge = ap edge (let h : 16 * m ≡ 4 * (4 * m) = omega arith in h) ∙ first_some (4 * m) (omega arith) (omega (arith, first_edge)) ∙ omega (arith, first_edge)

    first_last_edge : edge (16 * m + 3) ≡ 16 * e + 12
    first_last_edge = ap edge (let h : 16 * m + 3 ≡ 4 * (4 * m) + 3 = omega arith in h) ∙ fourth_across (4 * m) (omega arith) ∙ omega (arith, first_edge)

    last_first_edge : edge (16 * m + 12) ≡ 16 * e + 3
    last_first_edge = ap edge (let h : 16 * m + 12 ≡ 4 * (4 * m + 3) = omega arith in h) ∙ first_some (4 * m + 3) (omega arith) (omega (arith, last_edge)) ∙ omega (arith, last_edge)

    last_last_edge : edge (16 * m + 15) ≡ 16 * e
    last_last_edge = ap edge (let h : 16 * m + 15 ≡ 4 * (4 * m + 3) + 3 = omega arith in h) ∙ fourth_across (4 * m + 3) (omega arith) ∙ omega (arith, last_edge)

    module _ {x : ℕ} (y : Outer P s e x) where
      there : (n k a c : ℕ) → edge n ≡ k → P n ↔ (digit w a ≡ 1) → P k ↔ (digit x c ≡ 1) → digit w a ≤ digit x c → P n → AcrossCut P n
      there n k a c h f g l p _ = subst P (sym h) (g.1 (omega (arith, f.0 p, digit_lt x c)))

      back : (n k a c : ℕ) → edge n ≡ k → edge n ≢ 0 → P n ↔ (digit w a ≡ 1) → P k ↔ (digit x c ≡ 1) → (P n → AcrossCut P n) → digit w a ≤ digit x c
      back n k a c h v f g u = beside _ _ (digit_lt w a) (λ i. g.0 (subst P h (u (f.1 i) v)))

      pub mirrored_across : Mirrored s w x → OuterAcross P m
      mirrored_across r = record {
        own = there m e (16 * s) (16 * s) refl o.own y.own r.own.there;
        first = there (4 * m) (4 * e + 3) (4 * s) (28 * s) first_edge o.first y.last r.outer.there;
        last = there (4 * m + 3) (4 * e) (28 * s) (4 * s) last_edge o.last y.first r.outer.back;
        first_first = there (16 * m) (16 * e + 15) s (31 * s) first_first_edge o.first_first y.last_last r.outermost.there;
        first_last = there (16 * m + 3) (16 * e + 12) (7 * s) (25 * s) first_last_edge o.first_last y.last_first r.next.there;
        last_first = there (16 * m + 12) (16 * e + 3) (25 * s) (7 * s) last_first_edge o.last_first y.first_last r.next.back;
        last_last = there (16 * m + 15) (16 * e) (31 * s) s last_last_edge o.last_last y.first_first r.outermost.back;
      }

      pub across_mirrored : OuterAcross P m → Mirrored s w x
      across_mirrored r =
          let own = back m e (16 * s) (16 * s) refl z o.own y.own r.own in
          record {
            own = record { there = own; back = own };
            outer = record {
              there = back (4 * m) (4 * e + 3) (4 * s) (28 * s) first_edge (omega (arith, first_edge)) o.first y.last r.first;
              back = back (4 * m + 3) (4 * e) (28 * s) (4 * s) last_edge (omega (arith, last_edge)) o.last y.first r.last;
            };
            outermost = record {
              there = back (16 * m) (16 * e + 15) s (31 * s) first_first_edge (omega (arith, first_first_edge)) o.first_first y.last_last r.first_first;
              back = back (16 * m + 15) (16 * e) (31 * s) s last_last_edge (omega (arith, last_last_edge)) o.last_last y.first_first r.last_last;
            };
            next = record {
              there = back (16 * m + 3) (16 * e + 12) (7 * s) (25 * s) first_last_edge (omega (arith, first_last_edge)) o.first_last y.last_first r.first_last;
              back = back (16 * m + 12) (16 * e + 3) (25 * s) (7 * s) last_first_edge (omega (arith, last_first_edge)) o.last_first y.first_last r.last_first;
            };
          }

-- ---- the word

module _ (D e : ℕ) (h : e + 6 ≡ D) (l : D ≤ 17) (bs : List ℕ) (q : ℕ) (a : At e q) where
  abbrev word : ℕ
  word = field bs (8 * (16 * 2 ^ e + 8 * q)) 64

  -- bit i names n, where it is that of n's right child
  names_bit : (d j n i : ℕ) → At d n → d + suc j ≡ D → i < 64 → (2 * n + 1) * 2 ^ j ≡ 64 * q + i → Cut D (leaf_bit D bs) n ↔ (digit word i ≡ 1)
  unfolding leaf_bit
  names_bit d j n i at g k r =
      let s = cut_set D (leaf_bit D bs) (omega arith) (cut_place_lem D d j n (omega arith) at g) in
      let same : digit word i ≡ bit bs (3 * 2 ^ D + ((2 * n + 1) * 2 ^ j - 2 ^ D)) = run-digit (bit bs) (bit_lt bs) (8 * (16 * 2 ^ e + 8 * q)) 64 i k ∙ ap (bit bs) (omega (arith, whole_words D e h, a.low)) in
      (λ p. same ∙ s.0 p, λ p. s.1 (sym same ∙ p))

  pub cut_word : CutWord (Cut D (leaf_bit D bs)) q word
  cut_word = record {
    names = λ t c i g.
        let s : ℕ = 2 ^ t in
        let w : ℕ = 2 ^ (5 - t) in
        let n : ℕ = w * q + c in
        let all : w * s ≡ 32 = sym (pow-add 2 (5 - t) t) ∙ ap (λ x. 2 ^ x) {x = 5 - t + t} {y = 5} (omega arith) in
        let below : At (e + (5 - t)) n = at_from (omega (arith, pow-add 2 e (5 - t), mul_comm w q, mul-le-mul_right {m = 2 ^ e} {n = q} w a.low)) (omega (arith, pow_next (e + (5 - t)), pow-add 2 e (5 - t), mul_comm w q, mul-le-mul_right {m = q + 1} {n = 2 * 2 ^ e} w (omega (arith, at_below a, pow_next e)), add-mul q 1 w, mul_assoc 2 (2 ^ e) w)) in
        let odd : (2 * c + 1) * s ≡ s * (2 * c + 1) = mul_comm (2 * c + 1) s in
        let small : s * (2 * c + 1) < 64 = omega (arith, odd, add-mul (2 * c) 1 s, mul_assoc 2 c s, mul-le-mul_right {m = c + 1} {n = w} s (omega arith), add-mul c 1 s, pow_pos t) in
        let place : (2 * n + 1) * s ≡ 64 * q + s * (2 * c + 1) = ap (λ x. x * s) (let r : 2 * n + 1 ≡ 2 * (w * q) + (2 * c + 1) = omega arith in r) ∙ add-mul (2 * (w * q)) (2 * c + 1) s ∙ omega (arith, odd, mul_assoc 2 (w * q) s, mul_comm w q, ap (λ x. x * s) (mul_comm w q), mul_assoc q w s, ap (λ x. q * x) all) in
        names_bit (e + (5 - t)) t n (s * (2 * c + 1)) below (omega arith) small place;
  }

-- its place, as the code computes it
pub record Below (D q len : ℕ) : Type 0 where
  pub at : At (D - 6) q
  pub is : 1 * 2 ^ (D - 2) % 2 ^ 64 ≡ 16 * 2 ^ (D - 6)
  pub small : 2 ^ (D - 6) ≤ 2048
  pub inside : 16 * 2 ^ (D - 6) + 8 * q + 8 ≤ len

pub below : {D q : ℕ} {bs : List ℕ} → Room D bs → 1 ≤ q → depth_of q + 6 ≡ D → Below D q (length bs)
below {D} {q} r l h =
    let a : At (D - 6) q = subst (λ d. At d q) (let e : depth_of q ≡ D - 6 = omega arith in e) (at_depth l) in
    let b = bounds r in
    let f = whole_words D (D - 6) (omega arith) in
    record {
      at = a;
      is = one_shl (D - 2) 64 (omega arith) ∙ ap (λ x. 2 ^ x) (let e : D - 2 ≡ D - 6 + 4 = omega arith in e) ∙ pow-add 2 (D - 6) 4 ∙ omega arith;
      small = omega arith;
      inside = omega (arith, at_below a, pow_next (D - 6));
    }

-- ---- all words

pub good_all : {D : ℕ} {f : ℕ → ℕ} → GoodCuts (Cut D f) → AllFollow D f
good_all {D} {f} G p h l s = good_follows G (place_cut D f l h s)

-- a cut node follows where all places do
pub cut_follows : {D : ℕ} {f : ℕ → ℕ} → AllFollow D f → (n : ℕ) → Cut D f n → Follows (Cut D f) n
cut_follows {D} {f} all n c = subst (Follows (Cut D f)) c.names (all c.place c.high c.low c.set)

-- a place is the first of its word, or names one of the nodes below its word's node
module _ (D : ℕ) (f : ℕ → ℕ) (low : 7 ≤ D) (high : D ≤ 17) where
  deep : 2 ^ D ≡ 64 * 2 ^ (D - 6)
  deep = whole_words D (D - 6) (omega arith)

  pub blocks_all : ((j : ℕ) → j < 2 ^ (D - 6) → BlockFollows D f j) → AllFollow D f
  blocks_all all p h l s = go (ℕ_discrete (p % 64) 0)
    where
      at : BlockFollows D f (p / 64)
      at = all (p / 64) (omega (arith, deep))

      inside : p % 64 ≢ 0 → (j n : ℕ) → 2 ^ D + p ≡ (2 * n + 1) * 2 ^ j → Cut D f n → Follows (Cut D f) n
      inside z j n e c = next (dec_le j 5)
        where
          next : Dec (j ≤ 5) → Follows (Cut D f) n
          next (yes r) =
              let up : n / 2 ^ (5 - j) ≡ (2 ^ D + p) / 64 = ap (λ x. x / 2 ^ (5 - j)) (let g : n ≡ (2 * n + 1) / 2 ^ 1 = omega arith in g) ∙ ap (λ x. x / 2 ^ 1 / 2 ^ (5 - j)) (sym (shl-shr (2 * n + 1) j)) ∙ ap (λ x. x / 2 ^ (5 - j)) (shr-shr ((2 * n + 1) * 2 ^ j) j 1) ∙ shr-shr ((2 * n + 1) * 2 ^ j) (j + 1) (5 - j) ∙ ap₂ (λ x y. x / 2 ^ y) (sym e) (let g : j + 1 + (5 - j) ≡ 6 = omega arith in g) in
              at.below (5 - j) n (omega arith) (up ∙ omega (arith, deep)) c
          next (no r) =
              let k : ℕ = (2 * n + 1) * 2 ^ (j - 6) in
              let six : (2 * n + 1) * 2 ^ j ≡ k * 64 = ap (λ x. (2 * n + 1) * x) (ap (λ x. 2 ^ x) (let g : j ≡ j - 6 + 6 = omega arith in g) ∙ pow-add 2 (j - 6) 6) ∙ sym (mul_assoc (2 * n + 1) (2 ^ (j - 6)) 64) in
              absurd (z (omega (arith, deep, six)))

      go : Dec (p % 64 ≡ 0) → Follows (Cut D f) (named D p)
      go (yes z) = let e : 64 * (p / 64) ≡ p = omega arith in subst (PlaceFollows D f) e at.place l s
      go (no z) =
          let (j, n, x) = place_name D p l h in
          let e = names_named D p j n (omega arith) x in
          subst (Follows (Cut D f)) (sym e) (inside z j n x.place (subst (Cut D f) e (place_cut D f l h s)))

  -- and back: each node that is cut is named by its place
  pub all_blocks : AllFollow D f → (j : ℕ) → j < 2 ^ (D - 6) → BlockFollows D f j
  all_blocks all j h = record { place = all (64 * j) (omega (arith, deep)); below = λ k n l e c. cut_follows all n c }

-- ---- the one word of a panel of depth up to 6

module _ (D : ℕ) (f : ℕ → ℕ) (high : D ≤ 6) {b : ℕ} (c : CutWord (Cut D f) 1 b) where
  abbrev P : ℕ → Type 0
  P = Cut D f

  -- node 1's children stand across from each other, below each half of the word
  left_half : Outer P 1 2 b
  left_half = subst (Outer P 1 2) (div-one b) (outer_half c 2 refl)

  right_half : Outer P 1 3 (b / 2 ^ 32)
  right_half = outer_half c 3 refl

  left_edge : edge 2 ≡ 3
  left_edge = edge_first 2 (omega arith) (omega arith)

  right_edge : edge 3 ≡ 2
  right_edge = edge_first 3 (omega arith) (omega arith)

  pub root_all : RootFollows b → AllFollow D f
  root_all r p h l s =
      let (j, n, x) = place_name D p l h in
      let e = names_named D p j n (omega arith) x in
      let d : ℕ = x.depth in
      let i : ℕ = n - 2 ^ d in
      let top : n / 2 ^ d ≡ 1 = ap (λ m. m / 2 ^ d) (let g : n ≡ 2 ^ d * 1 + i = omega (arith, x.at.low) in g) ∙ down 1 d (omega (arith, at_below x.at, pow_next d)) in
      subst (Follows P) (sym e) (below d n (omega (arith, x.levels)) top (subst P e (place_cut D f l h s)))
    where
      in' : InnerBoth P 1
      in' = inner_up c r.inner

      left : OuterAcross P 2
      left = mirrored_across (omega arith) left_half (omega (arith, left_edge)) (subst (λ m. Outer P 1 m (b / 2 ^ 32)) (sym left_edge) right_half) r.there

      right : OuterAcross P 3
      right = mirrored_across (omega arith) right_half (omega (arith, right_edge)) (subst (λ m. Outer P 1 m b) (sym right_edge) left_half) r.back

      below : BelowFollow P 1
      below = below_follow P 1 (parents_up c r.parents) (λ g. absurd (omega arith))
          (levels P 1 (root_across P (λ m e. in'.middle 2 (omega arith) (omega arith) m e)) (half_across P 1 (omega arith) in' 2 (omega arith) left) (half_across P 1 (omega arith) in' 3 (omega arith) right))

  pub all_root : AllFollow D f → RootFollows b
  all_root all = record {
    parents = up_parents c (ups P 1 (omega arith) below);
    inner = up_inner c (all_both P 1 (omega arith) below);
    there = across_mirrored (omega arith) left_half (omega (arith, left_edge)) (subst (λ m. Outer P 1 m (b / 2 ^ 32)) (sym left_edge) right_half) (outer_at P 1 (omega arith) below 1 2 (omega arith) (omega arith) (omega arith));
    back = across_mirrored (omega arith) right_half (omega (arith, right_edge)) (subst (λ m. Outer P 1 m b) (sym right_edge) left_half) (outer_at P 1 (omega arith) below 1 3 (omega arith) (omega arith) (omega arith));
  }
    where
      below : BelowFollow P 1
      below k n l e x = cut_follows all n x
