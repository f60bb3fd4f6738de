-- A side has no neighbour exactly where it lies on the panel border: half a long side lies there where the whole does, and the
-- side from the midpoint to B never does.
use mathlib.Core.Path.{◌≡◌, refl, sym, ◌∙◌, ap₂}
use mathlib.Core.Logic.{inl, inr, ◌↔◌}
use Prim.Native.Nat.{ℕ, ◌+◌, ◌-◌, ◌*◌, ◌≤◌, min}
use native.Mathlib.Omega.{arith}
use native.Mathlib.Nat.{add_comm}
use native.Mathlib.Decide.{dec_le}
use Rattle.nodes.specs.Depth.{depth_of, depth_in}
use Rattle.nodes.specs.Neighbours.{right_child, neighbours_at, neighbours_of}
use Rattle.triangles.specs.Corners.{Point, InSquare, InPanel, corner_a, corner_b, corner_c, px, py, corners_at, corners_of, OnBorder, Exact}
use Rattle.nodes.proofs.Depths.{depth_left, depth_right, node_ind}
use Rattle.nodes.proofs.Neighbouring.{right_child_lem, left_triple_lem, right_triple_lem}
use Rattle.triangles.proofs.Cornering.{left_triangle_lem, right_triangle_lem, in_panel}
use Rattle.triangles.proofs.Midpoints.{midpoint_exact}

-- how far two coordinates are from being both 0 or both 256
abbrev gap : ℕ → ℕ → ℕ
gap u v = min (u + v) (512 - (u + v))

-- 0 where two points lie on one line of the border
abbrev off : Point → Point → ℕ
off p q = min (gap (px p) (px q)) (gap (py p) (py q))

-- not all three are equal
abbrev Bent : ℕ → ℕ → ℕ → Type 0
Bent a b c = a ≡ b → b ≡ c → ⊥

-- of three coordinates a, b, c in one direction, with m in the middle of a and c
module _ (a b c m : ℕ) (ha : a ≤ 256) (hb : b ≤ 256) (hc : c ≤ 256) (e : 2 * m ≡ a + c) where
  gap_start : min (gap a m) 1 ≡ min (gap a c) 1
  gap_start = omega arith

  gap_end : min (gap m c) 1 ≡ min (gap a c) 1
  gap_end = omega arith

  gap_mid : Bent a b c → 1 ≤ gap m b
  gap_mid s = go (dec_le 1 (gap m b))
    where
      go : Dec (1 ≤ gap m b) → 1 ≤ gap m b
      go (yes h) = h
      go (no h) = absurd (s (omega arith) (omega arith))

  gap_mid_b : Bent a b c → 1 ≤ gap b m
  gap_mid_b s = rw (add_comm b m) (gap_mid s)

  bent_left : Bent a b c → Bent a m b
  bent_left s u v = s (omega arith) (omega arith)

  bent_right : Bent a b c → Bent b m c
  bent_right s u v = s (omega arith) (omega arith)

-- neither direction has all three corners at one place
record Flatless (n : ℕ) : Type 0 where
  pub fx : Bent (px (corner_a (corners_of n))) (px (corner_b (corners_of n))) (px (corner_c (corners_of n)))
  pub fy : Bent (py (corner_a (corners_of n))) (py (corner_b (corners_of n))) (py (corner_c (corners_of n)))

-- down to depth 17
abbrev FlatlessTo : ℕ → Type 0
FlatlessTo n = depth_of n ≤ 17 → Flatless n

module _ (n : ℕ) (p : 2 ≤ n) (d : depth_of n ≤ 16) where
  w : InPanel (corners_of n)
  w = in_panel n p

  x : Exact (corners_of n)
  x = midpoint_exact n p d

  flat_left : Flatless n → Flatless (2 * n)
  flat_left f = record {
    fx = rw (left_triangle_lem n p) (bent_left _ _ _ _ w.a.x w.b.x w.c.x x.mx f.fx);
    fy = rw (left_triangle_lem n p) (bent_left _ _ _ _ w.a.y w.b.y w.c.y x.my f.fy);
  }

  flat_right : Flatless n → Flatless (2 * n + 1)
  flat_right f = record {
    fx = rw (right_triangle_lem n p) (bent_right _ _ _ _ w.a.x w.b.x w.c.x x.mx f.fx);
    fy = rw (right_triangle_lem n p) (bent_right _ _ _ _ w.a.y w.b.y w.c.y x.my f.fy);
  }

flat_two : Flatless 2
unfolding corners_of corners_at depth_of depth_in
flat_two = record { fx = λ u v. omega arith; fy = λ u v. omega arith }

flat_three : Flatless 3
unfolding corners_of corners_at depth_of depth_in
flat_three = record { fx = λ u v. omega arith; fy = λ u v. omega arith }

flatless : (n : ℕ) → 2 ≤ n → FlatlessTo n
flatless = node_ind FlatlessTo (λ d. flat_two) (λ d. flat_three)
    (λ n p f d. let k : depth_of n ≤ 16 = omega (arith, depth_left n (omega arith)) in flat_left n p k (f (omega arith)))
    (λ n p f d. let k : depth_of n ≤ 16 = omega (arith, depth_right n (omega arith)) in flat_right n p k (f (omega arith)))

-- a side is off the border exactly as far as there is a neighbour at it
record Edged (n : ℕ) : Type 0 where
  pub at_edge : min (neighbours_of n).edge 1 ≡ min (off (corner_a (corners_of n)) (corner_c (corners_of n))) 1
  pub at_left : min (neighbours_of n).left 1 ≡ min (off (corner_b (corners_of n)) (corner_c (corners_of n))) 1
  pub at_right : min (neighbours_of n).right 1 ≡ min (off (corner_a (corners_of n)) (corner_b (corners_of n))) 1

min-min : (g h : ℕ) → min (min g h) 1 ≡ min (min g 1) (min h 1)
min-min g h = omega arith

off_same : (g g' h h' : ℕ) → min g 1 ≡ min g' 1 → min h 1 ≡ min h' 1 → min (min g h) 1 ≡ min (min g' h') 1
off_same g g' h h' e f = min-min g h ∙ ap₂ min e f ∙ sym (min-min g' h')

odd_min : (x : ℕ) → min (right_child x) 1 ≡ min x 1
odd_min x = omega (arith, right_child_lem x)

even_min : (x : ℕ) → min (2 * x) 1 ≡ min x 1
even_min x = omega arith

two_pos : (k g h : ℕ) → 1 ≤ k → 1 ≤ g → 1 ≤ h → min k 1 ≡ min (min g h) 1
two_pos k g h p q r = omega arith

module _ (n : ℕ) (p : 2 ≤ n) (d : depth_of n ≤ 16) (b : Edged n) where
  in_w : InPanel (corners_of n)
  in_w = in_panel n p

  in_x : Exact (corners_of n)
  in_x = midpoint_exact n p d

  in_f : Flatless n
  in_f = flatless n p (omega arith)

  edged_left : Edged (2 * n)
  edged_left = record {
    at_edge = rw (left_triple_lem n p, left_triangle_lem n p) (odd_min (neighbours_of n).right ∙ b.at_right);
    at_left = rw (left_triple_lem n p, left_triangle_lem n p) (two_pos _ _ _ (omega arith)
        (gap_mid _ _ _ _ in_w.a.x in_w.b.x in_w.c.x in_x.mx in_f.fx)
        (gap_mid _ _ _ _ in_w.a.y in_w.b.y in_w.c.y in_x.my in_f.fy));
    at_right = rw (left_triple_lem n p, left_triangle_lem n p) (odd_min (neighbours_of n).edge ∙ b.at_edge ∙ sym (off_same _ _ _ _
        (gap_start _ _ _ _ in_w.a.x in_w.b.x in_w.c.x in_x.mx)
        (gap_start _ _ _ _ in_w.a.y in_w.b.y in_w.c.y in_x.my)));
  }

  edged_right : Edged (2 * n + 1)
  edged_right = record {
    at_edge = rw (right_triple_lem n p, right_triangle_lem n p) (even_min (neighbours_of n).left ∙ b.at_left);
    at_left = rw (right_triple_lem n p, right_triangle_lem n p) (even_min (neighbours_of n).edge ∙ b.at_edge ∙ sym (off_same _ _ _ _
        (gap_end _ _ _ _ in_w.a.x in_w.b.x in_w.c.x in_x.mx)
        (gap_end _ _ _ _ in_w.a.y in_w.b.y in_w.c.y in_x.my)));
    at_right = rw (right_triple_lem n p, right_triangle_lem n p) (two_pos _ _ _ (omega arith)
        (gap_mid_b _ _ _ _ in_w.a.x in_w.b.x in_w.c.x in_x.mx in_f.fx)
        (gap_mid_b _ _ _ _ in_w.a.y in_w.b.y in_w.c.y in_x.my in_f.fy));
  }

edged_two : Edged 2
unfolding neighbours_of neighbours_at corners_of corners_at depth_of depth_in
edged_two = record { at_edge = refl; at_left = refl; at_right = refl }

edged_three : Edged 3
unfolding neighbours_of neighbours_at corners_of corners_at depth_of depth_in
edged_three = record { at_edge = refl; at_left = refl; at_right = refl }

edged : (n : ℕ) → 2 ≤ n → depth_of n ≤ 17 → Edged n
edged = node_ind (λ n. depth_of n ≤ 17 → Edged n) (λ d. edged_two) (λ d. edged_three)
    (λ n p f d. let k : depth_of n ≤ 16 = omega (arith, depth_left n (omega arith)) in edged_left n p k (f (omega arith)))
    (λ n p f d. let k : depth_of n ≤ 16 = omega (arith, depth_right n (omega arith)) in edged_right n p k (f (omega arith)))

module _ (p q : Point) (a : InSquare p) (b : InSquare q) where
  off→border : off p q ≡ 0 → OnBorder p q
  unfolding OnBorder
  off→border e = go (dec_le (px p + px q) 0) (dec_le 512 (px p + px q)) (dec_le (py p + py q) 0)
    where
      go : Dec (px p + px q ≤ 0) → Dec (512 ≤ px p + px q) → Dec (py p + py q ≤ 0) → OnBorder p q
      go (yes h) i j = inl (omega arith)
      go (no h) (yes i) j = inr (inl (omega arith))
      go (no h) (no i) (yes j) = inr (inr (inl (omega arith)))
      go (no h) (no i) (no j) = inr (inr (inr (omega arith)))

  border→off : OnBorder p q → off p q ≡ 0
  unfolding OnBorder
  border→off (inl h) = omega arith
  border→off (inr (inl h)) = omega arith
  border→off (inr (inr (inl h))) = omega arith
  border→off (inr (inr (inr h))) = omega arith

  -- a number that is 0 with `off` is 0 exactly on the border
  none_iff : (k : ℕ) → min k 1 ≡ min (off p q) 1 → (k ≡ 0) ↔ OnBorder p q
  none_iff k e = (λ z. off→border (zero_as k (off p q) e z), λ h. zero_as (off p q) k (sym e) (border→off h))
    where
      zero_as : (k j : ℕ) → min k 1 ≡ min j 1 → k ≡ 0 → j ≡ 0
      zero_as k j f z = omega arith

-- none is answered exactly when that side (edge A-C, left B-C, right A-B) lies on the panel border
pub record Border (n : ℕ) : Type 0 where
  pub no_edge : ((neighbours_of n).edge ≡ 0) ↔ OnBorder (corner_a (corners_of n)) (corner_c (corners_of n))
  pub no_left : ((neighbours_of n).left ≡ 0) ↔ OnBorder (corner_b (corners_of n)) (corner_c (corners_of n))
  pub no_right : ((neighbours_of n).right ≡ 0) ↔ OnBorder (corner_a (corners_of n)) (corner_b (corners_of n))

pub border : (n : ℕ) → 2 ≤ n → depth_of n ≤ 17 → Border n
border n p d =
    let w = in_panel n p in
    let e = edged n p d in record {
      no_edge = none_iff _ _ w.a w.c (neighbours_of n).edge e.at_edge;
      no_left = none_iff _ _ w.b w.c (neighbours_of n).left e.at_left;
      no_right = none_iff _ _ w.a w.b (neighbours_of n).right e.at_right;
    }
