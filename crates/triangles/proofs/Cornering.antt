-- A node's corners: the two child rules as laws, and that all corners lie in the panel.
use mathlib.Core.Path.{◌≡◌, refl, sym, ◌∙◌, ap}
use Prim.Native.Nat.{ℕ, suc, ◌+◌, ◌-◌, ◌*◌, ◌/◌, ◌%◌, ◌≤◌, ◌<◌}
use native.Mathlib.Omega.{arith}
use native.Mathlib.Decide.{dec_le}
use Rattle.nodes.specs.Depth.{depth_of, depth_in}
use Rattle.triangles.specs.Corners.{Triangle, InPanel, first_triangle, left_triangle, right_triangle, corners_at, corners_of}
use Rattle.nodes.proofs.Depths.{depth_left, depth_right, depth_pos, node_ind}

-- ---- the child rules

at_left_child : (d n : ℕ) → corners_at (suc (suc d)) (2 * n) ≡ left_triangle (corners_at (suc d) n)
unfolding corners_at
at_left_child d n =
    let b : 2 * n % 2 ≡ 0 = omega arith in
    let h : 2 * n / 2 ≡ n = omega arith in
    rw (b, h)

at_right_child : (d n : ℕ) → corners_at (suc (suc d)) (2 * n + 1) ≡ right_triangle (corners_at (suc d) n)
unfolding corners_at
at_right_child d n =
    let b : (2 * n + 1) % 2 ≡ 1 = omega arith in
    let h : (2 * n + 1) / 2 ≡ n = omega arith in
    rw (b, h)

pub left_triangle_lem : (n : ℕ) → 2 ≤ n → corners_of (2 * n) ≡ left_triangle (corners_of n)
unfolding corners_of
left_triangle_lem n p =
    let q = depth_pos n p in
    let e : depth_of n ≡ suc (depth_of n - 1) = omega arith in
    let f : depth_of (2 * n) ≡ suc (suc (depth_of n - 1)) = omega (arith, depth_left n (omega arith)) in
    ap (λ d. corners_at d (2 * n)) f ∙ at_left_child (depth_of n - 1) n ∙ ap (λ d. left_triangle (corners_at d n)) (sym e)

pub right_triangle_lem : (n : ℕ) → 2 ≤ n → corners_of (2 * n + 1) ≡ right_triangle (corners_of n)
unfolding corners_of
right_triangle_lem n p =
    let q = depth_pos n p in
    let e : depth_of n ≡ suc (depth_of n - 1) = omega arith in
    let f : depth_of (2 * n + 1) ≡ suc (suc (depth_of n - 1)) = omega (arith, depth_right n (omega arith)) in
    ap (λ d. corners_at d (2 * n + 1)) f ∙ at_right_child (depth_of n - 1) n ∙ ap (λ d. right_triangle (corners_at d n)) (sym e)

first_two : corners_of 2 ≡ first_triangle 0
unfolding corners_of corners_at depth_of depth_in
first_two = refl

first_three : corners_of 3 ≡ first_triangle 1
unfolding corners_of corners_at depth_of depth_in
first_three = refl

-- at depth 1
pub first_triangle_lem : (n : ℕ) → 2 ≤ n → n < 4 → corners_of n ≡ first_triangle (n % 2)
first_triangle_lem n p q = go (dec_le n 2)
  where
    go : Dec (n ≤ 2) → corners_of n ≡ first_triangle (n % 2)
    go (yes h) = let e : n ≡ 2 = omega arith in rw e first_two
    go (no h) = let e : n ≡ 3 = omega arith in rw e first_three

-- ---- in the panel

in_left : (t : Triangle) → InPanel t → InPanel (left_triangle t)
in_left t w = record { a = w.a; b = omega arith; c = w.b }

in_right : (t : Triangle) → InPanel t → InPanel (right_triangle t)
in_right t w = record { a = w.b; b = omega arith; c = w.c }

in_two : InPanel (corners_of 2)
in_two = rw first_two (omega arith)

in_three : InPanel (corners_of 3)
in_three = rw first_three (omega arith)

pub in_panel : (n : ℕ) → 2 ≤ n → InPanel (corners_of n)
in_panel = node_ind (λ n. InPanel (corners_of n)) in_two in_three
    (λ n p w. rw (left_triangle_lem n p) (in_left (corners_of n) w))
    (λ n p w. rw (right_triangle_lem n p) (in_right (corners_of n) w))
