-- As the corners go out, a node's children have its (B, M, A) and (C, M, B), one of them each, at every depth. So what nodes 2 and 3 have, and
-- passes on to both, every node has.
use mathlib.Core.Path.{◌≡◌, refl, subst}
use mathlib.Core.Logic.{◌⊎◌, inl, inr, ◌↔◌}
use Prim.Native.Nat.{ℕ, zero, suc, ◌+◌, ◌*◌, ◌%◌, ◌≤◌}
use native.Mathlib.Omega.{arith}
use Rattle.nodes.specs.Depth.{depth_of}
use Rattle.triangles.specs.Corners.{Point, Triangle, corner_a, corner_b, corner_c, triangle, midpoint, Exact, left_triangle, right_triangle, corners_of, turned}
use Rattle.nodes.proofs.Depths.{depth_left, depth_right, node_ind}
use Rattle.triangles.proofs.Cornering.{first_triangle_lem, left_triangle_lem, right_triangle_lem}
use Rattle.triangles.proofs.Midpoints.{depth_two, depth_three, midpoint_exact}
use Rattle.triangles.proofs.Sides.{mid_comm}

-- the corners of n as they go out
abbrev pub outward : ℕ → Triangle
outward n = turned (depth_of n % 2) (corners_of n)

-- p is one of the three
abbrev pub CornerOf : Triangle → Point → Type 0
CornerOf t p = (p ≡ corner_a t) ⊎ ((p ≡ corner_b t) ⊎ (p ≡ corner_c t))

-- they are the same three points
pub same_corners : (b : ℕ) (t : Triangle) (p : Point) → CornerOf (turned b t) p ↔ CornerOf t p
same_corners zero t p = (exchange (corner_c t) (corner_b t) (corner_a t), exchange (corner_a t) (corner_b t) (corner_c t))
  where
    exchange : (x y z : Point) → (p ≡ x) ⊎ ((p ≡ y) ⊎ (p ≡ z)) → (p ≡ z) ⊎ ((p ≡ y) ⊎ (p ≡ x))
    exchange x y z (inl e) = inr (inr e)
    exchange x y z (inr (inl e)) = inr (inl e)
    exchange x y z (inr (inr e)) = inl e
same_corners (suc b) t p = (λ e. e, λ e. e)

-- turned once more, they are in the matrices' order again
turned_twice : (b : ℕ) (p q r : Point) → turned b (turned b (triangle p q r)) ≡ triangle p q r
turned_twice zero p q r = refl
turned_twice (suc b) p q r = refl

pub turned_back : (n : ℕ) → 2 ≤ n → (b : ℕ) → turned b (turned b (corners_of n)) ≡ corners_of n
turned_back = node_ind (λ n. (b : ℕ) → turned b (turned b (corners_of n)) ≡ corners_of n)
    (λ b. rw (first_triangle_lem 2 (omega arith) (omega arith)) (turned_twice b _ _ _))
    (λ b. rw (first_triangle_lem 3 (omega arith) (omega arith)) (turned_twice b _ _ _))
    (λ n p w b. rw (left_triangle_lem n p) (turned_twice b _ _ _))
    (λ n p w b. rw (right_triangle_lem n p) (turned_twice b _ _ _))

-- ---- the two halves

abbrev pub start_half : Triangle → Triangle
start_half t = triangle (corner_b t) (midpoint (corner_a t) (corner_c t)) (corner_a t)

abbrev pub end_half : Triangle → Triangle
end_half t = triangle (corner_c t) (midpoint (corner_a t) (corner_c t)) (corner_b t)

halves : (P : Triangle → Type 0) (b c : ℕ) → b + c ≡ 1 → (t : Triangle) → P (start_half (turned b t)) × P (end_half (turned b t))
    → P (turned c (left_triangle t)) × P (turned c (right_triangle t))
halves P zero zero e t p = absurd (omega arith)
halves P zero (suc c) e t p = rw (mid_comm (corner_a t) (corner_c t)) (p.1, p.0)
halves P (suc b) zero e t p = p
halves P (suc b) (suc c) e t p = absurd (omega arith)

exact_turned : (b : ℕ) (t : Triangle) → Exact t → Exact (turned b t)
exact_turned zero t x = omega arith
exact_turned (suc b) t x = x

-- P, of a triangle with so many halvings left
module _ (P : ℕ → Triangle → Type 0) (two : P 16 (outward 2)) (three : P 16 (outward 3))
    (both : (h : ℕ) (t : Triangle) → Exact t → P (suc h) t → P h (start_half t) × P h (end_half t)) where
  children : (n : ℕ) → 2 ≤ n → (h c : ℕ) → depth_of n + suc h ≡ 17 → depth_of n % 2 + c ≡ 1 → P (suc h) (outward n)
      → P h (turned c (left_triangle (corners_of n))) × P h (turned c (right_triangle (corners_of n)))
  children n p h c e f a =
      halves (P h) (depth_of n % 2) c f (corners_of n) (both h (outward n) (exact_turned (depth_of n % 2) (corners_of n) (midpoint_exact n p (omega arith))) a)

  pub outward_all : (n : ℕ) → 2 ≤ n → (h : ℕ) → depth_of n + h ≡ 17 → P h (outward n)
  outward_all = node_ind (λ n. (h : ℕ) → depth_of n + h ≡ 17 → P h (outward n))
      (λ h e. let s : 16 ≡ h = omega (arith, depth_two) in subst (λ i. P i (outward 2)) s two)
      (λ h e. let s : 16 ≡ h = omega (arith, depth_three) in subst (λ i. P i (outward 3)) s three)
      (λ n p a h e.
      let d = depth_left n (omega arith) in
      rw (left_triangle_lem n p) (children n p h (depth_of (2 * n) % 2) (omega arith) (omega arith) (a (suc h) (omega arith))).0)
      (λ n p a h e.
      let d = depth_right n (omega arith) in
      rw (right_triangle_lem n p) (children n p h (depth_of (2 * n + 1) % 2) (omega arith) (omega arith) (a (suc h) (omega arith))).1)
