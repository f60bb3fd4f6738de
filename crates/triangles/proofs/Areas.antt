-- A half's area is half its triangle's, since the midpoint halves the long side, and as the corners go out both turn the same way: so twice the
-- area at depth d is 2 ^ (17 - d), with one sign at every depth.
use mathlib.Core.Path.{◌≡◌, refl, sym, ◌∙◌, ap}
use Prim.Native.Nat.{ℕ, zero, suc, ◌+◌, ◌-◌, ◌*◌, ◌%◌, ◌^◌, ◌≤◌}
use native.Mathlib.Omega.{arith}
use native.Mathlib.Nat.{mul-add, add-mul, mul_assoc, mul_left_comm, pow-suc}
use Rattle.nodes.specs.Depth.{depth_of, depth_in}
use Rattle.triangles.specs.Corners.{Triangle, corner_a, corner_b, corner_c, px, py, Exact, corners_at, corners_of, turned, plus, minus, twice_area}
use Rattle.nodes.proofs.Depths.{depth_left, depth_right}
use Rattle.triangles.proofs.Turning.{outward, start_half, end_half, outward_all}

half_r : (x m a c : ℕ) → 2 * m ≡ a + c → 2 * (x * m) ≡ x * a + x * c
half_r x m a c e = mul_left_comm 2 x m ∙ ap (λ y. x * y) e ∙ mul-add x a c

half_l : (x m a c : ℕ) → 2 * m ≡ a + c → 2 * (m * x) ≡ a * x + c * x
half_l x m a c e = sym (mul_assoc 2 m x) ∙ ap (λ y. y * x) e ∙ add-mul a c x

module _ (ax ay bx by cx cy mx my : ℕ) (ex : 2 * mx ≡ ax + cx) (ey : 2 * my ≡ ay + cy) where
  -- (A, M, B)
  turn_left : 2 * (ax * my + mx * by + bx * ay) + (ax * by + bx * cy + cx * ay) ≡ 2 * (ax * by + mx * ay + bx * my) + (ax * cy + bx * ay + cx * by)
  turn_left = omega (arith, half_r ax my ay cy ey, half_l by mx ax cx ex, half_l ay mx ax cx ex, half_r bx my ay cy ey)

  -- (B, M, C)
  turn_right : 2 * (bx * my + mx * cy + cx * by) + (ax * by + bx * cy + cx * ay) ≡ 2 * (bx * cy + mx * by + cx * my) + (ax * cy + bx * ay + cx * by)
  turn_right = omega (arith, half_r bx my ay cy ey, half_l cy mx ax cx ex, half_l by mx ax cx ex, half_r cx my ay cy ey)

-- ---- as the corners go out

-- counterclockwise, what is added is more than what is taken away, by twice the area
abbrev Counts : ℕ → Triangle → Type 0
Counts h t = plus t ≡ minus t + 2 ^ h

both_count : (h : ℕ) (t : Triangle) → Exact t → Counts (suc h) t → Counts h (start_half t) × Counts h (end_half t)
both_count h t x c =
    let l = turn_left (px (corner_a t)) (py (corner_a t)) (px (corner_b t)) (py (corner_b t)) (px (corner_c t)) (py (corner_c t)) _ _ x.mx x.my in
    let r = turn_right (px (corner_a t)) (py (corner_a t)) (px (corner_b t)) (py (corner_b t)) (px (corner_c t)) (py (corner_c t)) _ _ x.mx x.my in
    omega (arith, pow-suc 2 h)

counted : (n : ℕ) → 2 ≤ n → (h : ℕ) → depth_of n + h ≡ 17 → Counts h (outward n)
unfolding corners_of corners_at depth_of depth_in
counted = outward_all Counts refl refl both_count

pub outward_area : (n : ℕ) → 2 ≤ n → depth_of n ≤ 17 → plus (outward n) ≡ minus (outward n) + 2 ^ (17 - depth_of n)
outward_area n p d = counted n p (17 - depth_of n) (omega arith)

-- ---- as the matrices give them

-- the difference of the two, whichever is more
differ : (h b : ℕ) (t : Triangle) → Counts h (turned b t) → twice_area t ≡ 2 ^ h
unfolding twice_area
differ h zero t e = omega arith
differ h (suc b) t e = omega arith

area : (n : ℕ) → 2 ≤ n → (h : ℕ) → depth_of n + h ≡ 17 → twice_area (corners_of n) ≡ 2 ^ h
area n p h e = differ h (depth_of n % 2) (corners_of n) (counted n p h e)

-- twice the area at depth d is 2 ^ (17 - d)
pub area_is : (n : ℕ) → 2 ≤ n → depth_of n ≤ 17 → twice_area (corners_of n) ≡ 2 ^ (17 - depth_of n)
area_is n p d = area n p (17 - depth_of n) (omega arith)

-- a node's area is that of its two children together
pub shares : (n : ℕ) → 2 ≤ n → depth_of n ≤ 16 → twice_area (corners_of n) ≡ twice_area (corners_of (2 * n)) + twice_area (corners_of (2 * n + 1))
shares n p d =
    let h = 16 - depth_of n in
    let l = depth_left n (omega arith) in
    let r = depth_right n (omega arith) in
    omega (arith, area n p (suc h) (omega arith), area (2 * n) (omega arith) h (omega arith), area (2 * n + 1) (omega arith) h (omega arith), pow-suc 2 h)
