-- The laws of leaf bits, told of a good panel and its words: a word counts the leaf bits set below its node.
use mathlib.Core.Path.{◌≡◌, sym, ap, ◌∙◌, subst}
use mathlib.Core.Logic.{◌⊎◌, inl, inr, ◌↔◌}
use mathlib.Core.List.{List}
use Prim.Native.Nat.{ℕ, suc, ◌+◌, ◌-◌, ◌*◌, ◌/◌, ◌^◌, ◌≤◌, ◌<◌}
use native.Mathlib.Omega.{arith}
use lib.Pow.{pow_mono}
use Rattle.nodes.specs.Depth.{depth_of}
use Rattle.nodes.proofs.Depths.{At, at_left, at_depth, depth_le}
use Rattle.sums.specs.Rank.{rank}
use Rattle.words.specs.Words.{word, leaf_bit}
use Rattle.sums.proofs.Counts.{by_node, sum, leaf_bits, word_sum, word_all}
use Rattle.cuts.specs.Cuts.{CoverOnce, place_of}
use Rattle.panel.specs.Panels.{deep_of, CutOf, Good, InRange, LeafOf, BelowLeaf, number_in, leaf_count}
use Rattle.panel.specs.Calls.{LeafNumbered, Fresh}
use Rattle.panel.proofs.Lengths.{fits_small}
use Rattle.cuts.proofs.Covering as covering
use Rattle.cuts.proofs.Leaves.{GoodBits, cover_once, leaf_range}
use Rattle.cuts.proofs.Numbering as numbering
use Rattle.cuts.proofs.Descent as descent
use Rattle.cuts.proofs.Areas.{total, shares}
use Rattle.cuts.proofs.Places.{dec_cut}

-- whether a node is cut is decided
pub dec_cuts : {t : List ℕ} → Good t → (n : ℕ) → Dec (CutOf t n)
dec_cuts {t} G = dec_cut (deep_of t) (leaf_bit (deep_of t) t) (omega (arith, fits_small G.fits))

module _ (s : List ℕ) (G : Good s) where
  pub good_bits : GoodBits (deep_of s) (leaf_bit (deep_of s) s)
  good_bits = record { deep = omega (arith, fits_small G.fits); small = leaf_bits (deep_of s) s; start = G.first; cuts = G.cuts }

  word_is : (d j n : ℕ) → At d n → d + j ≡ deep_of s → word (deep_of s) s n ≡ sum (by_node (deep_of s) (leaf_bit (deep_of s) s)) j n
  word_is = word_sum (deep_of s) s G.right.sums

  -- the leaves cover the panel exactly once
  pub covers : CoverOnce (deep_of s) (CutOf s)
  covers = cover_once (deep_of s) (leaf_bit (deep_of s) s) good_bits

  pub leaf_in_range : (k : ℕ) → LeafOf s k → InRange s k
  leaf_in_range k l = record { low = l.low; high = leaf_range (deep_of s) (leaf_bit (deep_of s) s) good_bits k l }

  -- a node from 2 up is a leaf, or is itself cut, or lies below a leaf
  pub one_of_three : (k : ℕ) → 2 ≤ k → LeafOf s k ⊎ (CutOf s k ⊎ BelowLeaf s k)
  one_of_three = covering.one_of_three G.cuts (dec_cuts G)

  -- a leaf of a panel with more cuts is a leaf of this one, or lies in one
  pub leaf_before : (t : List ℕ) → ((n : ℕ) → CutOf s n → CutOf t n) → (m : ℕ) → LeafOf t m → (j : ℕ) × LeafOf s (m / 2 ^ j)
  leaf_before t more m l = go (one_of_three m l.low)
    where
      go : LeafOf s m ⊎ (CutOf s m ⊎ BelowLeaf s m) → (j : ℕ) × LeafOf s (m / 2 ^ j)
      go (inl k) = (0, subst (LeafOf s) (let e : m ≡ m / 2 ^ 0 = omega arith in e) k)
      go (inr (inl c)) = absurd (l.uncut (more m c))
      go (inr (inr (a, b))) = (b.levels, subst (LeafOf s) (sym b.ancestor) b.leaf)

  -- node 1 and its children are in every panel
  first_three : (n : ℕ) → n < 4 → n < 2 ^ (deep_of s + 1)
  first_three n h = omega (arith, pow_mono {i = 2} {j = deep_of s + 1} (omega (arith, G.fits.low)))

  -- ---- what a word says of its node

  module _ (n : ℕ) (l : 1 ≤ n) (h : n < 2 ^ (deep_of s + 1)) where
    a : At (depth_of n) n
    a = at_depth l

    e : depth_of n + (deep_of s - depth_of n) ≡ deep_of s
    e = omega (arith, depth_le n (deep_of s) h)

    w : word (deep_of s) s n ≡ sum (by_node (deep_of s) (leaf_bit (deep_of s) s)) (deep_of s - depth_of n) n
    w = word_is (depth_of n) (deep_of s - depth_of n) n a e

    -- the cut nodes are those whose word is at least 2
    pub cut_word : CutOf s n ↔ (2 ≤ word (deep_of s) s n)
    cut_word =
        let b = descent.cut_sum (deep_of s) (leaf_bit (deep_of s) s) good_bits (depth_of n) (deep_of s - depth_of n) n a e in
        (λ c. omega (arith, w, b.0 c), λ q. b.1 (omega (arith, w)))

    -- of node 1 and the nodes whose parent is cut, the leaves are those whose word is 1, and no word is 0
    pub reached_word : (2 ≤ n → CutOf s (n / 2)) → 1 ≤ word (deep_of s) s n
    reached_word r = omega (arith, w, descent.reached_sum (deep_of s) (leaf_bit (deep_of s) s) good_bits (depth_of n) (deep_of s - depth_of n) n a e r)

    pub leaf_word_one : (2 ≤ n → CutOf s (n / 2)) → (LeafOf s n ↔ (word (deep_of s) s n ≡ 1))
    leaf_word_one r =
        let b = descent.leaf_sum (deep_of s) (leaf_bit (deep_of s) s) good_bits (depth_of n) (deep_of s - depth_of n) n a e r in
        (λ m. w ∙ b.0 m, λ q. b.1 (sym w ∙ q))

  -- ---- numbers

  -- how many leaves stand left of a node: none left of node 1, as many left of a left child as of its parent,
  -- and left of a right child its sibling's word more
  pub number_root : number_in s 1 ≡ 0
  number_root = numbering.number_root (deep_of s) (leaf_bit (deep_of s) s)

  module _ (n : ℕ) (l : 1 ≤ n) (h : depth_of n < deep_of s) where
    at : At (depth_of n) n
    at = at_depth l

    pub number_left : number_in s (2 * n) ≡ number_in s n
    number_left = numbering.number_left (deep_of s) (leaf_bit (deep_of s) s) (depth_of n) (deep_of s - suc (depth_of n)) n at (omega arith)

    pub number_right : number_in s (2 * n + 1) ≡ number_in s n + word (deep_of s) s (2 * n)
    number_right =
        omega (
          arith,
          numbering.number_right (deep_of s) (leaf_bit (deep_of s) s) (depth_of n) (deep_of s - suc (depth_of n)) n at (omega arith),
          word_is (suc (depth_of n)) (deep_of s - suc (depth_of n)) (2 * n) (at_left at) (omega arith),
        )

  count_is : leaf_count s ≡ rank (leaf_bit (deep_of s) s) (2 ^ deep_of s)
  count_is = word_all (deep_of s) s G.right.sums

  -- node 1 is cut, so there are at least two leaves
  pub two_leaves : 2 ≤ leaf_count s
  two_leaves = (cut_word 1 (omega arith) (first_three 1 (omega arith))).0 G.cuts.root

  -- a leaf's number is below the count, and each number below the count is that of exactly one leaf
  pub number_lt : (k : ℕ) → LeafOf s k → number_in s k < leaf_count s
  number_lt k l = omega (arith, count_is, numbering.number_lt (deep_of s) (leaf_bit (deep_of s) s) good_bits k l)

  pub number_leaf : (i : ℕ) → i < leaf_count s → (k : ℕ) × LeafNumbered s i k
  number_leaf i h =
      let (k, l, e) = numbering.number_leaf (deep_of s) (leaf_bit (deep_of s) s) good_bits i (omega (arith, count_is)) in
      (k, record { leaf = l; number = e })

  pub number_once : (i k m : ℕ) → LeafNumbered s i k → LeafNumbered s i m → k ≡ m
  number_once i k m x y = numbering.number_once (deep_of s) (leaf_bit (deep_of s) s) good_bits k m x.leaf y.leaf (x.number ∙ sym y.number)

  -- numbers grow from left to right
  pub number_order : (k m : ℕ) → LeafOf s k → LeafOf s m → (place_of (deep_of s) k < place_of (deep_of s) m) ↔ (number_in s k < number_in s m)
  number_order = numbering.number_order (deep_of s) (leaf_bit (deep_of s) s) good_bits

  -- twice the area of a node of depth d is 2 ^ (17 - d): over all leaves it sums to 131,072
  pub leaf_areas : (leaf : ℕ → ℕ) → ((i : ℕ) → i < leaf_count s → LeafNumbered s i (leaf i)) → total (λ i. 2 ^ (17 - depth_of (leaf i))) (leaf_count s) ≡ 131072
  leaf_areas leaf L =
      ap (total (λ i. 2 ^ (17 - depth_of (leaf i)))) count_is
      ∙ shares (deep_of s) (leaf_bit (deep_of s) s) good_bits leaf (λ i h. let m = L i (omega (arith, count_is)) in (m.leaf, m.number)) 17 (fits_small G.fits)

-- a fresh panel has two leaves, 2 and 3: word 1 is the sum of their words
pub fresh_count : {D : ℕ} {t : List ℕ} → Fresh D t → leaf_count t ≡ 2
fresh_count {t = t} f =
    let g = f.good in
    let l = pow_mono {i = 1} {j = deep_of t} (omega (arith, g.fits.low)) in
    omega (arith, g.right.sums 1 (omega arith) (omega arith), one 2 (omega arith) (omega arith), one 3 (omega arith) (omega arith))
  where
    one : (n : ℕ) → 2 ≤ n → n < 4 → word (deep_of t) t n ≡ 1
    one n l h =
        let e : 1 ≡ n / 2 = omega arith in
        let p = subst (CutOf t) e f.good.cuts.root in
        (leaf_word_one t f.good n (omega arith) (first_three t f.good n h) (λ _. p)).0
        (record { low = l; uncut = λ c. omega (arith, (f.cuts n).0 c); parent = p })
