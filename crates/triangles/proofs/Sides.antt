-- Neighbours share the corners of the side between them: each child rule takes them from the parents' neighbours.
use mathlib.Core.Path.{◌≡◌, refl, sym, ◌∙◌, ap₂}
use mathlib.Core.Logic.{◌≢◌}
use Prim.Native.Nat.{ℕ, zero, suc, ◌+◌, ◌*◌, ◌≤◌}
use native.Mathlib.Omega.{arith}
use native.Mathlib.Nat.{add_comm}
use Rattle.nodes.specs.Depth.{depth_of, depth_in}
use Rattle.nodes.specs.Neighbours.{right_child, neighbours_at, neighbours_of}
use Rattle.triangles.specs.Corners.{Point, Triangle, corner_a, corner_b, corner_c, px, py, midpoint, corners_at, corners_of}
use Rattle.nodes.proofs.Depths.{node_ind}
use Rattle.nodes.proofs.Neighbouring.{left_triple_lem, right_triple_lem, mutually}
use Rattle.triangles.proofs.Cornering.{left_triangle_lem, right_triangle_lem}

-- s and t have the same A and C exchanged
pub record Across (s t : Triangle) : Type 0 where
  pub start : corner_a s ≡ corner_c t
  pub end : corner_c s ≡ corner_a t

-- s has t's C as its A, and the same B
pub record Beside (s t : Triangle) : Type 0 where
  pub start : corner_a s ≡ corner_c t
  pub top : corner_b s ≡ corner_b t

record Shared (n : ℕ) : Type 0 where
  pub by_edge : 1 ≤ (neighbours_of n).edge → Across (corners_of (neighbours_of n).edge) (corners_of n)
  pub by_left : 1 ≤ (neighbours_of n).left → Beside (corners_of (neighbours_of n).left) (corners_of n)
  pub by_right : 1 ≤ (neighbours_of n).right → Beside (corners_of n) (corners_of (neighbours_of n).right)

pub mid_comm : (a c : Point) → midpoint a c ≡ midpoint c a
mid_comm a c = rw (add_comm (px a) (px c), add_comm (py a) (py c))

mid_across : (s t : Triangle) → Across s t → midpoint (corner_a s) (corner_c s) ≡ midpoint (corner_a t) (corner_c t)
mid_across s t a = ap₂ midpoint a.start a.end ∙ mid_comm (corner_c t) (corner_a t)

shared_two : Shared 2
unfolding neighbours_of neighbours_at corners_of corners_at depth_of depth_in
shared_two = record { by_edge = λ h. record { start = refl; end = refl }; by_left = λ h. absurd (omega arith); by_right = λ h. absurd (omega arith) }

shared_three : Shared 3
unfolding neighbours_of neighbours_at corners_of corners_at depth_of depth_in
shared_three = record { by_edge = λ h. record { start = refl; end = refl }; by_left = λ h. absurd (omega arith); by_right = λ h. absurd (omega arith) }

module _ (n : ℕ) (p : 2 ≤ n) (s : Shared n) where
  -- the left child's neighbours
  l_edge : (x : ℕ) → (1 ≤ x → 2 ≤ x) → (1 ≤ x → Beside (corners_of n) (corners_of x)) → 1 ≤ right_child x → Across (corners_of (right_child x)) (corners_of (2 * n))
  l_edge zero q b h = absurd (omega arith)
  l_edge (suc x) q b h =
      let t = b (omega arith) in
      rw (right_triangle_lem (suc x) (q (omega arith)), left_triangle_lem n p) (record { start = sym t.top; end = sym t.start })

  l_right : (x : ℕ) → (1 ≤ x → 2 ≤ x) → (1 ≤ x → Across (corners_of x) (corners_of n)) → 1 ≤ right_child x → Beside (corners_of (2 * n)) (corners_of (right_child x))
  l_right zero q b h = absurd (omega arith)
  l_right (suc x) q b h =
      let t = b (omega arith) in
      rw (right_triangle_lem (suc x) (q (omega arith)), left_triangle_lem n p) (record { start = sym t.end; top = sym (mid_across (corners_of (suc x)) (corners_of n) t) })

  siblings : Beside (corners_of (2 * n + 1)) (corners_of (2 * n))
  siblings = rw (right_triangle_lem n p, left_triangle_lem n p) (record { start = refl; top = refl })

  -- the right child's
  r_edge : (x : ℕ) → (1 ≤ x → 2 ≤ x) → (1 ≤ x → Beside (corners_of x) (corners_of n)) → 1 ≤ 2 * x → Across (corners_of (2 * x)) (corners_of (2 * n + 1))
  r_edge x q b h =
      let t = b (omega arith) in
      rw (left_triangle_lem x (q (omega arith)), right_triangle_lem n p) (record { start = t.start; end = t.top })

  r_left : (x : ℕ) → (1 ≤ x → 2 ≤ x) → (1 ≤ x → Across (corners_of x) (corners_of n)) → 1 ≤ 2 * x → Beside (corners_of (2 * x)) (corners_of (2 * n + 1))
  r_left x q b h =
      let t = b (omega arith) in
      rw (left_triangle_lem x (q (omega arith)), right_triangle_lem n p) (record { start = t.start; top = mid_across (corners_of x) (corners_of n) t })

  shared_left : Shared (2 * n)
  shared_left =
      let m = mutually n p in record {
        by_edge = rw (left_triple_lem n p) (l_edge (neighbours_of n).right (λ h. (m.by_right h).node) s.by_right);
        by_left = rw (left_triple_lem n p) (λ h. siblings);
        by_right = rw (left_triple_lem n p) (l_right (neighbours_of n).edge (λ h. (m.by_edge h).node) s.by_edge);
      }

  shared_right : Shared (2 * n + 1)
  shared_right =
      let m = mutually n p in record {
        by_edge = rw (right_triple_lem n p) (r_edge (neighbours_of n).left (λ h. (m.by_left h).node) s.by_left);
        by_left = rw (right_triple_lem n p) (r_left (neighbours_of n).edge (λ h. (m.by_edge h).node) s.by_edge);
        by_right = rw (right_triple_lem n p) (λ h. siblings);
      }

shared : (n : ℕ) → 2 ≤ n → Shared n
shared = node_ind Shared shared_two shared_three shared_left shared_right

-- node and edge neighbour have the same A and C exchanged
pub edge_across : (n : ℕ) → 2 ≤ n → (neighbours_of n).edge ≢ 0 → Across (corners_of (neighbours_of n).edge) (corners_of n)
edge_across n p z = (shared n p).by_edge (omega arith)

-- a node's left neighbour has the node's C as its A, and the same B
pub left_beside : (n : ℕ) → 2 ≤ n → (neighbours_of n).left ≢ 0 → Beside (corners_of (neighbours_of n).left) (corners_of n)
left_beside n p z = (shared n p).by_left (omega arith)
