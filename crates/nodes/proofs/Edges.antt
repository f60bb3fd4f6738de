-- The neighbour across the long side: none of node 1, mutual, of the node's depth, and, seen from two levels up,
-- in the same node or across that node's own long side.
use mathlib.Core.Path.{◌≡◌, refl, ◌∙◌, ap, subst}
use mathlib.Core.Logic.{◌≢◌, ◌⊎◌, inl, inr}
use Prim.Native.Nat.{ℕ, ◌+◌, ◌-◌, ◌*◌, ◌/◌, ◌%◌, ◌≤◌, ◌<◌}
use native.Mathlib.Omega.{arith}
use native.Mathlib.Decide.{dec_le, dec_lt}
use Rattle.nodes.specs.Depth.{depth_of, depth_in}
use Rattle.nodes.specs.Neighbours.{right_child, neighbours_at, neighbours_of, edge}
use Rattle.nodes.proofs.Depths.{At, at_depth, depth_is}
use Rattle.nodes.proofs.Neighbouring.{right_child_lem, left_triple_lem, right_triple_lem, edge_in, left_in, right_in, mutually}

pub edge_root : edge 1 ≡ 0
unfolding neighbours_of neighbours_at depth_of depth_in
edge_root = refl

edge_zero : edge 0 ≡ 0
unfolding neighbours_of neighbours_at depth_of depth_in
edge_zero = refl

-- only a node from 2 up has one
pub edge_low : (n : ℕ) → edge n ≢ 0 → 2 ≤ n
edge_low n z = go (dec_lt n 1) (dec_lt n 2)
  where
    go : Dec (n < 1) → Dec (n < 2) → 2 ≤ n
    go (yes p) q = absurd (z (ap edge (let e : n ≡ 0 = omega arith in e) ∙ edge_zero))
    go (no p) (yes q) = absurd (z (ap edge (let e : n ≡ 1 = omega arith in e) ∙ edge_root))
    go (no p) (no q) = omega arith

-- edge is mutual
pub edge_mutual : (n : ℕ) → edge n ≢ 0 → edge (edge n) ≡ n
edge_mutual n z = ((mutually n (edge_low n z)).by_edge (omega arith)).again

-- the edge neighbour has the node's depth
pub edge_depth : (n : ℕ) → edge n ≢ 0 → depth_of (edge n) ≡ depth_of n
edge_depth n z = ((mutually n (edge_low n z)).by_edge (omega arith)).level

pub edge_level : (d n : ℕ) → At d n → edge n ≢ 0 → At d (edge n)
edge_level d n a z =
    subst (λ x. At x (edge n)) (edge_depth n z ∙ depth_is a) (at_depth (omega (arith, ((mutually n (edge_low n z)).by_edge (omega arith)).node)))

-- ---- the law behind the forced chain

module _ (m : ℕ) (p : 2 ≤ m) where
  pub edge_0 : edge (2 * (2 * m)) ≡ right_child (right_child (edge m))
  edge_0 = ap edge_in (left_triple_lem (2 * m) (omega arith)) ∙ ap right_child (ap right_in (left_triple_lem m p))

  pub edge_1 : edge (2 * (2 * m) + 1) ≡ 2 * (2 * m + 1)
  edge_1 = ap edge_in (right_triple_lem (2 * m) (omega arith)) ∙ ap (λ x. 2 * x) (ap left_in (left_triple_lem m p))

  pub edge_2 : edge (2 * (2 * m + 1)) ≡ right_child (2 * m)
  edge_2 = ap edge_in (left_triple_lem (2 * m + 1) (omega arith)) ∙ ap right_child (ap right_in (right_triple_lem m p))

  pub edge_3 : edge (2 * (2 * m + 1) + 1) ≡ 2 * (2 * edge m)
  edge_3 = ap edge_in (right_triple_lem (2 * m + 1) (omega arith)) ∙ ap (λ x. 2 * x) (ap left_in (right_triple_lem m p))

-- at depth 1 the neighbour is the other half of the panel
pub edge_first : (n : ℕ) → 2 ≤ n → n ≤ 3 → edge n ≡ 5 - n
unfolding neighbours_of neighbours_at depth_of depth_in
edge_first n p q = go (dec_le n 2)
  where
    go : Dec (n ≤ 2) → edge n ≡ 5 - n
    go (yes a) = let e : n ≡ 2 = omega arith in rw e
    go (no a) = let e : n ≡ 3 = omega arith in rw e

-- of two neighbours one is a left child and one a right one: no node is its own
pub edge_other : (n : ℕ) → edge n ≢ 0 → edge n ≢ n
edge_other n z e = go (dec_le n 3) (dec_le (n % 2) 0)
  where
    go : Dec (n ≤ 3) → Dec (n % 2 ≤ 0) → ⊥
    go (yes a) b = omega (arith, edge_first n (edge_low n z) a)
    go (no a) (yes b) = omega (arith, ap edge (let f : n ≡ 2 * (n / 2) = omega arith in f) ∙ ap edge_in (left_triple_lem (n / 2) (omega arith)), right_child_lem (right_in (neighbours_of (n / 2))))
    go (no a) (no b) = omega (arith, ap edge (let f : n ≡ 2 * (n / 2) + 1 = omega arith in f) ∙ ap edge_in (right_triple_lem (n / 2) (omega arith)))

-- at depth 2 the long sides are the panel's border
pub edge_second : (n : ℕ) → 4 ≤ n → n ≤ 7 → edge n ≡ 0
unfolding neighbours_of neighbours_at depth_of depth_in
edge_second n p q = go (dec_le n 4) (dec_le n 5) (dec_le n 6)
  where
    go : Dec (n ≤ 4) → Dec (n ≤ 5) → Dec (n ≤ 6) → edge n ≡ 0
    go (yes a) b c = let e : n ≡ 4 = omega arith in rw e
    go (no a) (yes b) c = let e : n ≡ 5 = omega arith in rw e
    go (no a) (no b) (yes c) = let e : n ≡ 6 = omega arith in rw e
    go (no a) (no b) (no c) = let e : n ≡ 7 = omega arith in rw e

Quarter : ℕ → Type 0
Quarter n = edge n ≢ 0 → (edge n / 4 ≡ n / 4) ⊎ (edge n / 4 ≡ edge (n / 4))

deep_quarter : (n : ℕ) → 8 ≤ n → Quarter n
unfolding Quarter
deep_quarter n p = go (dec_le (n % 4) 0) (dec_le (n % 4) 1) (dec_le (n % 4) 2)
  where
    q : 2 ≤ n / 4
    q = omega arith

    go : Dec (n % 4 ≤ 0) → Dec (n % 4 ≤ 1) → Dec (n % 4 ≤ 2) → Quarter n
    go (yes a) b c =
        let f : edge n ≡ right_child (right_child (edge (n / 4))) = ap edge (let e : n ≡ 2 * (2 * (n / 4)) = omega arith in e) ∙ edge_0 (n / 4) q in
        λ h. inr (omega (arith, right_child_lem (right_child (edge (n / 4))), right_child_lem (edge (n / 4))))
    go (no a) (yes b) c =
        let f : edge n ≡ 2 * (2 * (n / 4) + 1) = ap edge (let e : n ≡ 2 * (2 * (n / 4)) + 1 = omega arith in e) ∙ edge_1 (n / 4) q in
        λ h. inl (omega arith)
    go (no a) (no b) (yes c) =
        let f : edge n ≡ right_child (2 * (n / 4)) = ap edge (let e : n ≡ 2 * (2 * (n / 4) + 1) = omega arith in e) ∙ edge_2 (n / 4) q in
        λ h. inl (omega (arith, right_child_lem (2 * (n / 4))))
    go (no a) (no b) (no c) =
        let f : edge n ≡ 2 * (2 * edge (n / 4)) = ap edge (let e : n ≡ 2 * (2 * (n / 4) + 1) + 1 = omega arith in e) ∙ edge_3 (n / 4) q in
        λ h. inr (omega arith)

pub edge_quarter : (n : ℕ) → 4 ≤ n → edge n ≢ 0 → (edge n / 4 ≡ n / 4) ⊎ (edge n / 4 ≡ edge (n / 4))
unfolding Quarter
edge_quarter n p = go (dec_le 8 n)
  where
    go : Dec (8 ≤ n) → Quarter n
    go (yes h) = deep_quarter n h
    go (no h) = λ z. absurd (z (edge_second n p (omega arith)))
