-- Leaf numbers: a leaf's number is the rank of its bit, so the numbers below the count name the leaves one to one, from left to right.
use mathlib.Core.Path.{◌≡◌, sym, ap, ◌∙◌}
use mathlib.Core.Logic.{◌↔◌}
use Prim.Native.Nat.{ℕ, suc, ◌+◌, ◌-◌, ◌*◌, ◌^◌, ◌<◌}
use native.Mathlib.Numerals.{add-one}
use native.Mathlib.Omega.{arith}
use Rattle.nodes.specs.Depth.{depth_of}
use Rattle.nodes.proofs.Depths.{At, at_left, at_right, at_root, depth_is}
use Rattle.sums.specs.Rank.{rank}
use Rattle.sums.proofs.Ranks.{rank_lt, rank_order, rank_inj, select}
use Rattle.sums.proofs.Counts.{by_node, sum, place, rank_root, rank_left, rank_right}
use Rattle.cuts.specs.Cuts.{Cut, Leaf, place_of, leaf_number}
use Rattle.cuts.proofs.Leaves.{GoodBits, leaf_place, leaf_set, set_leaf, place_once}

module _ (D : ℕ) (f : ℕ → ℕ) (G : GoodBits D f) where
  -- a leaf's number is below the count
  pub number_lt : (k : ℕ) → Leaf (Cut D f) k → leaf_number D f k < rank f (2 ^ D)
  number_lt k l = rank_lt f (place_of D k) (2 ^ D) (leaf_set D f G k l) (leaf_place D f G k l)

  -- each number below the count is that of a leaf ..
  pub number_leaf : (i : ℕ) → i < rank f (2 ^ D) → (k : ℕ) × Leaf (Cut D f) k × (leaf_number D f k ≡ i)
  number_leaf i h =
      let (p, b, s, e) = select f G.small (2 ^ D) i h in
      let (k, l, q, u) = set_leaf D f G p b s in
      (k, l, ap (rank f) q ∙ e)

  -- .. and of no other
  pub number_once : (k m : ℕ) → Leaf (Cut D f) k → Leaf (Cut D f) m → leaf_number D f k ≡ leaf_number D f m → k ≡ m
  number_once k m x y e =
      place_once D f G k m x y (rank_inj f (place_of D k) (place_of D m) (leaf_set D f G k x) (leaf_set D f G m y) e)

  -- numbers grow from left to right
  pub number_order : (k m : ℕ) → Leaf (Cut D f) k → Leaf (Cut D f) m → (place_of D k < place_of D m) ↔ (leaf_number D f k < leaf_number D f m)
  number_order k m x y = rank_order f (place_of D k) (place_of D m) (leaf_set D f G k x)

-- ---- how many bits are set left of a node's own: the number of the node, where it is a leaf

module _ (D : ℕ) (f : ℕ → ℕ) where
  number_at : (d j n : ℕ) → At d n → d + j ≡ D → leaf_number D f n ≡ rank f (place D j n)
  number_at d j n a e = ap (λ x. rank f (place D x n)) (let h : D - depth_of n ≡ j = omega (arith, depth_is a) in h)

  -- none left of node 1's ..
  pub number_root : leaf_number D f 1 ≡ 0
  number_root = number_at 0 D 1 at_root (omega arith) ∙ rank_root D f

  module _ (d j n : ℕ) (a : At d n) (e : d + suc j ≡ D) where
    -- .. as many left of a left child's as of its parent's ..
    pub number_left : leaf_number D f (2 * n) ≡ leaf_number D f n
    number_left =
        number_at (suc d) j (2 * n) (at_left a) (omega arith) ∙ rank_left D f j (suc j) (sym (add-one j)) n ∙ sym (number_at d (suc j) n a e)

    -- .. and left of a right child's its sibling's more
    pub number_right : leaf_number D f (2 * n + 1) ≡ leaf_number D f n + sum (by_node D f) j (2 * n)
    number_right =
        omega (
          arith,
          number_at (suc d) j (2 * n + 1) (at_right a) (omega arith),
          rank_right D f j (suc j) (sym (add-one j)) n d a e,
          number_at d (suc j) n a e,
        )
