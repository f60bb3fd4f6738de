-- Right sums count: a node's word is the number of set leaf bits below it, so ranks are found by words on the way down from node 1.
use mathlib.Core.Path.{◌≡◌, sym, ap, ap₂, ◌∙◌, subst}
use mathlib.Core.List.{List}
use Prim.Native.Nat.{ℕ, zero, suc, ◌+◌, ◌-◌, ◌*◌, ◌^◌}
use native.Mathlib.Nat.{add-zero, one-mul, mul-one, pow-suc}
use native.Mathlib.Omega.{arith}
use lib.Pow.{pow_pos, pow_mono}
use Rattle.bits.proofs.Laws.{bit_lt}
use Rattle.nodes.proofs.Depths.{At, at_root, at_left, at_right}
use Rattle.words.specs.Words.{word, leaf_bit}
use Rattle.sums.specs.Sums.{SumsRight}
use Rattle.sums.specs.Rank.{rank}
use Rattle.words.proofs.Slots.{leaf_word}
use Rattle.sums.proofs.Ranks.{Bits, rank-none, rank_next, rank-add, rank_ext}

-- a leaf bit by its node of depth D
abbrev pub by_node : ℕ → (ℕ → ℕ) → ℕ → ℕ
by_node D f N = f (N - 2 ^ D)

-- the sum over the bits below n, which stands j levels above them
unfoldable pub sum : (ℕ → ℕ) → ℕ → ℕ → ℕ
sum f zero n = f n
sum f (suc j) n = sum f j (2 * n) + sum f j (2 * n + 1)

-- the leftmost leaf place below n, which stands j levels above depth D
abbrev pub place : ℕ → ℕ → ℕ → ℕ
place D j n = n * 2 ^ j - 2 ^ D

-- ---- the leaves below a node

-- its left child's are the first half ..
pub first_left : (j n : ℕ) → 2 * n * 2 ^ j ≡ n * 2 ^ suc j
first_left j n = rw pow-suc (omega arith)

-- .. and its right child's the second
pub first_right : (j n : ℕ) → (2 * n + 1) * 2 ^ j ≡ n * 2 ^ suc j + 2 ^ j
first_right j n = omega (arith, first_left j n)

-- the sum counts what is set from the first on
pub sum-rank : (f : ℕ → ℕ) (j n : ℕ) → rank f (n * 2 ^ j + 2 ^ j) ≡ rank f (n * 2 ^ j) + sum f j n
unfolding sum
sum-rank f zero n =
    ap (λ (x : ℕ). rank f (x + 1)) (mul-one n) ∙ rank_next f n ∙ ap (λ (x : ℕ). rank f x + f n) (sym (mul-one n))
sum-rank f (suc j) n =
    omega (
      arith,
      sum-rank f j (2 * n),
      sum-rank f j (2 * n + 1),
      ap (rank f) (first_left j n),
      ap (rank f) (first_right j n),
      ap (λ (x : ℕ). rank f (x + 2 ^ j)) (first_left j n),
      ap (λ (x : ℕ). rank f (x + 2 ^ j)) (first_right j n),
      ap (rank f) {x = n * 2 ^ suc j + 2 ^ j + 2 ^ j} {y = n * 2 ^ suc j + 2 ^ suc j} (omega arith),
    )

-- all leaves below a node of depth d are of depth D
pub at_first : (D d j n : ℕ) → At d n → d + j ≡ D → At D (n * 2 ^ j)
at_first D d zero n a e = subst (λ x. At x (n * 1)) (sym (add-zero d) ∙ e) (omega arith)
at_first D d (suc j) n a e = subst (At D) (first_left j n) (at_first D (suc d) j (2 * n) (at_left a) (omega arith))

-- ---- going down, over any bits f by place

module _ (D : ℕ) (f : ℕ → ℕ) where
  -- a rank by place is a rank by node, less what stands before the first
  by_node_lem : (p : ℕ) → rank (by_node D f) (2 ^ D + p) ≡ rank (by_node D f) (2 ^ D) + rank f p
  by_node_lem p =
      rank-add (by_node D f) (2 ^ D) p
      ∙ ap (λ (x : ℕ). rank (by_node D f) (2 ^ D) + x) (rank_ext (λ i. by_node D f (2 ^ D + i)) f p (λ i l. ap f (omega arith)))

  -- nothing stands left of node 1
  pub rank_root : rank f (place D D 1) ≡ 0
  rank_root = ap (rank f) {x = place D D 1} {y = 0} (omega (arith, one-mul (2 ^ D))) ∙ rank-none f

  -- the 2 ^ j places below n
  pub rank_below : (d j n : ℕ) → At d n → d + j ≡ D → rank f (place D j n + 2 ^ j) ≡ rank f (place D j n) + sum (by_node D f) j n
  rank_below d j n a e =
      let l = (at_first D d j n a e).low in
      omega (
        arith,
        by_node_lem (place D j n),
        by_node_lem (place D j n + 2 ^ j),
        sum-rank (by_node D f) j n,
        ap (rank (by_node D f)) {x = 2 ^ D + place D j n} {y = n * 2 ^ j} (omega arith),
        ap (rank (by_node D f)) {x = 2 ^ D + (place D j n + 2 ^ j)} {y = n * 2 ^ j + 2 ^ j} (omega arith),
      )

  -- all of them are below node 1
  pub rank_all : rank f (2 ^ D) ≡ sum (by_node D f) D 1
  rank_all =
      let e : place D D 1 ≡ 0 = omega (arith, one-mul (2 ^ D)) in
      omega (arith, rank_below 0 D 1 at_root (omega arith), rank_root, ap (λ (x : ℕ). rank f (x + 2 ^ D)) e, ap (rank f) {x = 0 + 2 ^ D} {y = 2 ^ D} (omega arith))

  -- from n, k levels above depth D, to its children, j levels above
  module _ (j k : ℕ) (s : k ≡ j + 1) (n : ℕ) where
    levels : n * 2 ^ suc j ≡ n * 2 ^ k
    levels = ap (λ (x : ℕ). n * 2 ^ x) {x = suc j} {y = k} (omega arith)

    -- the left child begins where its parent begins
    pub place_left : place D j (2 * n) ≡ place D k n
    place_left = omega (arith, first_left j n, levels)

    pub rank_left : rank f (place D j (2 * n)) ≡ rank f (place D k n)
    rank_left = ap (rank f) place_left

    -- the right child begins where the left one ends
    pub place_right : (d : ℕ) → At d n → d + k ≡ D → place D j (2 * n + 1) ≡ place D k n + 2 ^ j
    place_right d a e = omega (arith, first_right j n, levels, (at_first D d k n a e).low)

    pub rank_right : (d : ℕ) → At d n → d + k ≡ D → rank f (place D j (2 * n + 1)) ≡ rank f (place D k n) + sum (by_node D f) j (2 * n)
    rank_right d a e =
        omega (
          arith,
          ap (rank f) (place_right d a e),
          rank_below (suc d) j (2 * n) (at_left a) (omega arith),
          ap (λ (x : ℕ). rank f (x + 2 ^ j)) place_left,
          rank_left,
        )

-- ---- the words

module _ (D : ℕ) (bs : List ℕ) where
  pub leaf_bits : Bits (leaf_bit D bs)
  unfolding leaf_bit
  leaf_bits p = omega (arith, bit_lt bs (3 * 2 ^ D + p))

  -- a word of depth D is its leaf bit
  pub word_leaf : (N : ℕ) → At D N → word D bs N ≡ by_node D (leaf_bit D bs) N
  word_leaf N a =
      let e : N ≡ 2 ^ D + (N - 2 ^ D) = omega arith in
      ap (word D bs) e ∙ leaf_word D (N - 2 ^ D) bs (omega arith)

  module _ (right : SumsRight D bs) where
    pub word_children : (d j n : ℕ) → At d n → d + suc j ≡ D → word D bs n ≡ word D bs (2 * n) + word D bs (2 * n + 1)
    word_children d j n a e = right n (omega (arith, pow_pos d)) (omega (arith, pow_mono {i = suc d} {j = D} (omega arith)))

    pub word_sum : (d j n : ℕ) → At d n → d + j ≡ D → word D bs n ≡ sum (by_node D (leaf_bit D bs)) j n
    unfolding sum
    word_sum d zero n a e = word_leaf n (subst (λ (x : ℕ). At x n) (sym (add-zero d) ∙ e) a)
    word_sum d (suc j) n a e =
        word_children d j n a e
        ∙ ap₂ (λ (x y : ℕ). x + y) (word_sum (suc d) j (2 * n) (at_left a) (omega arith)) (word_sum (suc d) j (2 * n + 1) (at_right a) (omega arith))

    -- word 1 counts all set leaf bits
    pub word_all : word D bs 1 ≡ rank (leaf_bit D bs) (2 ^ D)
    word_all = word_sum 0 D 1 at_root (omega arith) ∙ sym (rank_all D (leaf_bit D bs))
