-- Going down from node 1: sums say which nodes are cut and which are leaves, and lead to the leaf of a number.
use mathlib.Core.Path.{◌≡◌, subst}
use mathlib.Core.Logic.{◌↔◌, ite}
use Prim.Native.Nat.{ℕ, zero, suc, ◌+◌, ◌-◌, ◌*◌, ◌/◌, ◌^◌, ◌≤◌, ◌<◌}
use native.Mathlib.Nat.{zero-add}
use native.Mathlib.Decide.{dec_lt, dec_le}
use native.Mathlib.Omega.{arith}
use lib.Pow.{pow_pos}
use Rattle.nodes.proofs.Depths.{At, at_left, at_right, at_root, depth_is}
use Rattle.sums.specs.Rank.{rank}
use Rattle.sums.proofs.Ranks.{Bits}
use Rattle.sums.proofs.Counts.{by_node, sum, rank_all}
use Rattle.cuts.specs.Cuts.{Cut, Leaf, leaf_number}
use Rattle.cuts.proofs.NodeSums as by_node_lem
use Rattle.cuts.proofs.Places.{cut_depth}
use Rattle.cuts.proofs.Leaves.{GoodBits, same_cuts, start-bit, root_bit, up_bit}
use Rattle.cuts.proofs.Numbering.{number_lt, number_once, number_root, number_left, number_right}

-- the leaf with i leaves left of it below n, which stands j levels above depth D
unfoldable pub find : (ℕ → ℕ) → ℕ → ℕ → ℕ → ℕ
find g zero n i = n
find g (suc j) n i = ite (dec_le 2 (sum g (suc j) n)) (ite (dec_lt i (sum g j (2 * n))) (find g j (2 * n) i) (find g j (2 * n + 1) (i - sum g j (2 * n)))) n

module _ (D : ℕ) (f : ℕ → ℕ) where
  -- n is reached on the way down: it is node 1, or its parent is cut
  abbrev pub Reached : ℕ → Type 0
  Reached n = 2 ≤ n → Cut D f (n / 2)

  pub reached_root : Reached 1
  reached_root h = absurd (omega arith)

  pub reached_left : (n : ℕ) → Cut D f n → Reached (2 * n)
  reached_left n c h = subst (Cut D f) (let e : n ≡ 2 * n / 2 = omega arith in e) c

  pub reached_right : (n : ℕ) → Cut D f n → Reached (2 * n + 1)
  reached_right n c h = subst (Cut D f) (let e : n ≡ (2 * n + 1) / 2 = omega arith in e) c

module _ (D : ℕ) (f : ℕ → ℕ) (G : GoodBits D f) where
  small_bit : Bits (by_node D f)
  small_bit N = G.small (N - 2 ^ D)

  module _ (d j n : ℕ) (a : At d n) (e : d + j ≡ D) where
    low : 1 ≤ n
    low = omega (arith, a.low, pow_pos d)

    -- the cut nodes are those whose sum is at least 2
    pub cut_sum : Cut D f n ↔ (2 ≤ sum (by_node D f) j n)
    cut_sum =
        let b = by_node_lem.cut_iff D (by_node D f) small_bit (up_bit D f G) (start-bit D f G) (root_bit D f G) d j n a e in
        (λ c. b.0 ((same_cuts D f G n low).0 c), λ s. (same_cuts D f G n low).1 (b.1 s))

    -- below a node that is not cut at most one bit is set
    pub uncut_sum : (Cut D f n → ⊥) → sum (by_node D f) j n ≤ 1
    uncut_sum z = go (dec_le 2 (sum (by_node D f) j n))
      where
        go : Dec (2 ≤ sum (by_node D f) j n) → sum (by_node D f) j n ≤ 1
        go (yes h) = absurd (z (cut_sum.1 h))
        go (no h) = omega arith

    -- below a node that is reached some bit is set
    pub reached_sum : Reached D f n → 1 ≤ sum (by_node D f) j n
    reached_sum r = by_node_lem.pos_sum D (by_node D f) small_bit (up_bit D f G) (start-bit D f G) (root_bit D f G) d j n a e λ h. (same_cuts D f G (n / 2) (omega arith)).0 (r h)

    -- a node that is reached and not cut is a leaf
    pub reached_leaf : Reached D f n → (Cut D f n → ⊥) → Leaf (Cut D f) n
    reached_leaf r z = let h = deep (dec_lt 1 n) in record { low = h; uncut = z; parent = r h }
      where
        deep : Dec (1 < n) → 2 ≤ n
        deep (yes p) = p
        deep (no p) = absurd (z (subst (Cut D f) (let q : 1 ≡ n = omega (arith, low) in q) G.cuts.root))

    -- of the nodes that are reached, the leaves are those whose sum is 1
    pub leaf_sum : Reached D f n → (Leaf (Cut D f) n ↔ (sum (by_node D f) j n ≡ 1))
    leaf_sum r =
        (λ l. omega (arith, uncut_sum l.uncut, reached_sum r), λ s. reached_leaf r λ c. omega (arith, cut_sum.0 c))

  -- at depth D no node is cut
  pub bottom_uncut : (n : ℕ) → At D n → Cut D f n → ⊥
  bottom_uncut n a c = omega (arith, cut_depth D f G.deep n c, depth_is a)

  -- ---- leaf by number

  -- k is the leaf with i leaves left of it below n
  abbrev Found : ℕ → ℕ → ℕ → Type 0
  Found n i k = Leaf (Cut D f) k × (leaf_number D f k ≡ leaf_number D f n + i)

  here : (d j n i : ℕ) → At d n → d + j ≡ D → Reached D f n → (Cut D f n → ⊥) → i < sum (by_node D f) j n → Found n i n
  here d j n i a e r z h = (reached_leaf d j n a e r z, omega (arith, uncut_sum d j n a e z))

  -- the descent comes to the leaf with i leaves left of it below n
  pub find_is : (d j n i : ℕ) → At d n → d + j ≡ D → Reached D f n → i < sum (by_node D f) j n
      → Leaf (Cut D f) (find (by_node D f) j n i) × (leaf_number D f (find (by_node D f) j n i) ≡ leaf_number D f n + i)
  unfolding find sum
  find_is d zero n i a e r h = here d 0 n i a e r (bottom_uncut n (subst (λ x. At x n) (let q : d ≡ D = omega arith in q) a)) h
  find_is d (suc j) n i a e r h =
      go (dec_le 2 (sum (by_node D f) (suc j) n)) (dec_lt i (sum (by_node D f) j (2 * n))) (find_is (suc d) j (2 * n) i (at_left a) (omega arith))
      (find_is (suc d) j (2 * n + 1) (i - sum (by_node D f) j (2 * n)) (at_right a) (omega arith))
    where
      left : ℕ
      left = sum (by_node D f) j (2 * n)

      go : (p : Dec (2 ≤ sum (by_node D f) (suc j) n)) (q : Dec (i < left))
          → (Reached D f (2 * n) → i < left → Found (2 * n) i (find (by_node D f) j (2 * n) i))
          → (Reached D f (2 * n + 1) → i - left < sum (by_node D f) j (2 * n + 1) → Found (2 * n + 1) (i - left) (find (by_node D f) j (2 * n + 1) (i - left)))
          → Found n i (ite p (ite q (find (by_node D f) j (2 * n) i) (find (by_node D f) j (2 * n + 1) (i - left))) n)
      go (no p) q l m = here d (suc j) n i a e r (λ z. p ((cut_sum d (suc j) n a e).0 z)) h
      go (yes p) (yes q) l m =
          let (x, y) = l (reached_left D f n ((cut_sum d (suc j) n a e).1 p)) q in (x, omega (arith, number_left D f d j n a e))
      go (yes p) (no q) l m =
          let (x, y) = m (reached_right D f n ((cut_sum d (suc j) n a e).1 p)) (omega arith) in (x, omega (arith, number_right D f d j n a e))

  -- from node 1 it comes to the leaf of number i ..
  pub by_number : (i : ℕ) → i < rank f (2 ^ D) → Leaf (Cut D f) (find (by_node D f) D 1 i) × (leaf_number D f (find (by_node D f) D 1 i) ≡ i)
  by_number i h =
      let (l, e) = find_is 0 D 1 i at_root (zero-add D) (reached_root D f) (omega (arith, rank_all D f)) in (l, omega (arith, number_root D f))

  -- .. and every leaf is found by its number
  pub by_leaf : (k : ℕ) → Leaf (Cut D f) k → find (by_node D f) D 1 (leaf_number D f k) ≡ k
  by_leaf k l =
      let (m, e) = by_number (leaf_number D f k) (number_lt D f G k l) in
      number_once D f G (find (by_node D f) D 1 (leaf_number D f k)) k m l e
