-- Every midpoint is exact down to parents of depth 16: with h halvings left, A and C are multiples of 2 ^ ((h + 1) / 2), and B
-- is one of 2 ^ (h / 2). So all corners down to depth 17 are whole numbers.
use mathlib.Core.Path.{◌≡◌, refl, sym, ◌∙◌, ap, subst}
use Prim.Native.Nat.{ℕ, suc, ◌+◌, ◌-◌, ◌*◌, ◌/◌, ◌^◌, ◌≤◌}
use native.Mathlib.Omega.{arith}
use native.Mathlib.Nat.{pow-suc, mul_assoc, add-mul, mul_comm}
use lib.Pow.{pow-add}
use Rattle.nodes.specs.Depth.{depth_of, depth_in}
use Rattle.triangles.specs.Corners.{Triangle, corner_a, corner_b, corner_c, px, py, Exact, left_triangle, right_triangle, corners_at, corners_of}
use Rattle.nodes.proofs.Depths.{depth_left, depth_right, depth_half, node_ind}
use Rattle.triangles.proofs.Cornering.{left_triangle_lem, right_triangle_lem}

-- ---- multiples of powers of two

Multiple : ℕ → ℕ → Type 0
Multiple k x = (q : ℕ) × (x ≡ q * 2 ^ k)

multiple_more : (j k x : ℕ) → Multiple (k + j) x → Multiple k x
unfolding Multiple
multiple_more j k x e = (e.0 * 2 ^ j, e.1 ∙ ap (λ y. e.0 * y) (pow-add 2 k j ∙ mul_comm (2 ^ k) (2 ^ j)) ∙ sym (mul_assoc e.0 (2 ^ j) (2 ^ k)))

multiple_down : (j k x : ℕ) → k ≤ j → Multiple j x → Multiple k x
multiple_down j k x h e = let s : j ≡ k + (j - k) = omega arith in multiple_more (j - k) k x (subst (λ i. Multiple i x) s e)

double : (k x : ℕ) (e : Multiple (suc k) x) → x ≡ unfold Multiple in (e.0 * 2 ^ k * 2)
unfolding Multiple
double k x e = e.1 ∙ ap (λ y. e.0 * y) (pow-suc 2 k) ∙ sym (mul_assoc e.0 (2 ^ k) 2)

-- the middle of two even numbers
multiple_mid : (k a c : ℕ) → Multiple (suc k) a → Multiple (suc k) c → Multiple k ((a + c) / 2)
unfolding Multiple
multiple_mid k a c e f =
    let m : (a + c) / 2 ≡ e.0 * 2 ^ k + f.0 * 2 ^ k = omega (arith, double k a e, double k c f) in
    (e.0 + f.0, m ∙ sym (add-mul e.0 f.0 (2 ^ k)))

multiple_exact : (k a c : ℕ) → Multiple (suc k) a → Multiple (suc k) c → 2 * ((a + c) / 2) ≡ a + c
unfolding Multiple
multiple_exact k a c e f = omega (arith, double k a e, double k c f)

-- ---- the grid, with h halvings left

record Grid (h : ℕ) (t : Triangle) : Type 0 where
  gax : Multiple ((h + 1) / 2) (px (corner_a t))
  gay : Multiple ((h + 1) / 2) (py (corner_a t))
  gbx : Multiple (h / 2) (px (corner_b t))
  gby : Multiple (h / 2) (py (corner_b t))
  gcx : Multiple ((h + 1) / 2) (px (corner_c t))
  gcy : Multiple ((h + 1) / 2) (py (corner_c t))

-- a corner of the long side, and the middle one, as corners of the child's long side
side : (h x : ℕ) → Multiple ((suc h + 1) / 2) x → Multiple ((h + 1) / 2) x
side h x e = multiple_down ((suc h + 1) / 2) ((h + 1) / 2) x (omega arith) e

top : (h x : ℕ) → Multiple (suc h / 2) x → Multiple ((h + 1) / 2) x
top h x e = let s : suc h / 2 ≡ (h + 1) / 2 = omega arith in subst (λ i. Multiple i x) s e

even : (h x : ℕ) → Multiple ((suc h + 1) / 2) x → Multiple (suc (h / 2)) x
even h x e = let s : (suc h + 1) / 2 ≡ suc (h / 2) = omega arith in subst (λ i. Multiple i x) s e

multiple_middle : (h a c : ℕ) → Multiple ((suc h + 1) / 2) a → Multiple ((suc h + 1) / 2) c → Multiple (h / 2) ((a + c) / 2)
multiple_middle h a c e f = multiple_mid (h / 2) a c (even h a e) (even h c f)

grid_left : (h : ℕ) (t : Triangle) → Grid (suc h) t → Grid h (left_triangle t)
grid_left h t g = record {
  gax = side h _ g.gax;
  gay = side h _ g.gay;
  gbx = multiple_middle h _ _ g.gax g.gcx;
  gby = multiple_middle h _ _ g.gay g.gcy;
  gcx = top h _ g.gbx;
  gcy = top h _ g.gby;
}

grid_right : (h : ℕ) (t : Triangle) → Grid (suc h) t → Grid h (right_triangle t)
grid_right h t g = record {
  gax = top h _ g.gbx;
  gay = top h _ g.gby;
  gbx = multiple_middle h _ _ g.gax g.gcx;
  gby = multiple_middle h _ _ g.gay g.gcy;
  gcx = side h _ g.gcx;
  gcy = side h _ g.gcy;
}

-- a node of depth d has 17 - d halvings left
abbrev OnGrid : ℕ → Type 0
OnGrid n = (h : ℕ) → depth_of n + h ≡ 17 → Grid h (corners_of n)

multiple_at : (q k x : ℕ) → x ≡ q * 2 ^ k → Multiple k x
unfolding Multiple
multiple_at q k x e = (q, e)

grid_two : Grid 16 (corners_of 2)
unfolding corners_of corners_at depth_of depth_in
grid_two = record { gax = multiple_at 0 8 0 refl; gay = multiple_at 1 8 256 refl; gbx = multiple_at 0 8 0 refl; gby = multiple_at 0 8 0 refl; gcx = multiple_at 1 8 256 refl; gcy = multiple_at 0 8 0 refl }

grid_three : Grid 16 (corners_of 3)
unfolding corners_of corners_at depth_of depth_in
grid_three = record { gax = multiple_at 1 8 256 refl; gay = multiple_at 0 8 0 refl; gbx = multiple_at 1 8 256 refl; gby = multiple_at 1 8 256 refl; gcx = multiple_at 0 8 0 refl; gcy = multiple_at 1 8 256 refl }

pub depth_two : depth_of 2 ≡ 1
unfolding depth_of depth_in
depth_two = refl

pub depth_three : depth_of 3 ≡ 1
unfolding depth_of depth_in
depth_three = refl

on_grid : (n : ℕ) → 2 ≤ n → OnGrid n
on_grid = node_ind OnGrid
    (λ h e. let s : 16 ≡ h = omega (arith, depth_two) in subst (λ i. Grid i (corners_of 2)) s grid_two)
    (λ h e. let s : 16 ≡ h = omega (arith, depth_three) in subst (λ i. Grid i (corners_of 3)) s grid_three)
    (λ n p g h e. rw (left_triangle_lem n p) (grid_left h (corners_of n) (g (suc h) (omega (arith, depth_left n (omega arith))))))
    (λ n p g h e. rw (right_triangle_lem n p) (grid_right h (corners_of n) (g (suc h) (omega (arith, depth_right n (omega arith))))))

grid_exact : (h : ℕ) (t : Triangle) → Grid (suc h) t → Exact t
grid_exact h t g = record {
  mx = multiple_exact (h / 2) _ _ (even h _ g.gax) (even h _ g.gcx);
  my = multiple_exact (h / 2) _ _ (even h _ g.gay) (even h _ g.gcy);
}

-- every midpoint is exact down to depth 16
pub midpoint_exact : (n : ℕ) → 2 ≤ n → depth_of n ≤ 16 → Exact (corners_of n)
midpoint_exact n p d = grid_exact (16 - depth_of n) (corners_of n) (on_grid n p (suc (16 - depth_of n)) (omega arith))

-- so all corners down to depth 17 are whole numbers
pub whole_corners : (n : ℕ) → depth_of n ≤ 17 → 2 ≤ n / 2 → Exact (corners_of (n / 2))
whole_corners n d p = midpoint_exact (n / 2) p (omega (arith, depth_half n (omega arith)))
