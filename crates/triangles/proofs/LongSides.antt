-- As the corners go out, a quarter turn about B takes C to A: so the sides at B are as long as each other, and the square of the side across from B is
-- twice that of either. The side across from a child's B is one of its parent's at B.
use mathlib.Core.Path.{◌≡◌, ap₂}
use mathlib.Core.Logic.{◌⊎◌, inl, inr}
use Prim.Native.Nat.{ℕ, suc, ◌+◌, ◌-◌, ◌*◌, ◌^◌, ◌≤◌, ◌<◌}
use native.Mathlib.Omega.{arith}
use native.Mathlib.Nat.{add_comm, mul-add, add-mul, mul_comm, pow-suc}
use native.Mathlib.Decide.{dec_le}
use lib.Pow.{pow_pos}
use Rattle.nodes.specs.Depth.{depth_of, depth_in}
use Rattle.triangles.specs.Corners.{Point, Triangle, corner_a, corner_b, corner_c, px, py, Exact, corners_at, corners_of}
use Rattle.triangles.proofs.Turning.{outward, start_half, end_half, outward_all}

-- how far two numbers lie apart
unfoldable pub apart : ℕ → ℕ → ℕ
apart x y = (x - y) + (y - x)

abbrev pub squares : ℕ → ℕ → ℕ
squares u v = u * u + v * v

-- the square of the distance of two points
unfoldable pub squared : Point → Point → ℕ
squared p q = squares (apart (px p) (px q)) (apart (py p) (py q))

-- the side from A to C is the longest, and B is across from it
pub record LongSide (t : Triangle) : Type 0 where
  pub before : squared (corner_a t) (corner_b t) < squared (corner_a t) (corner_c t)
  pub after : squared (corner_b t) (corner_c t) < squared (corner_a t) (corner_c t)

-- ---- sums and differences

abbrev Apart : ℕ → ℕ → ℕ → Type 0
Apart x y z = (x + z ≡ y) ⊎ (y + z ≡ x)

apart_by : (x y : ℕ) → Apart x y (apart x y)
unfolding apart
apart_by x y = go (dec_le x y)
  where
    go : Dec (x ≤ y) → Apart x y (apart x y)
    go (yes h) = inl (omega arith)
    go (no h) = inr (omega arith)

apart_is : (x y z : ℕ) → Apart x y z → apart x y ≡ z
unfolding apart
apart_is x y z (inl e) = omega arith
apart_is x y z (inr e) = omega arith

apart_comm : (x y : ℕ) → apart x y ≡ apart y x
unfolding apart
apart_comm x y = add_comm (x - y) (y - x)

apart_shift : (a b c d : ℕ) → a + c ≡ b + d → apart a b ≡ apart c d
unfolding apart
apart_shift a b c d e = omega arith

square_sum : (u v : ℕ) → (u + v) * (u + v) ≡ u * u + 2 * (u * v) + v * v
square_sum u v = omega (arith, mul-add (u + v) u v, add-mul u v u, add-mul u v v, mul_comm v u)

more_by : (u q : ℕ) → squares (u + (u + q)) q ≡ 2 * squares u (u + q)
more_by u q = omega (arith, square_sum u (u + q), square_sum u q, mul-add u u q)

-- the squares of the sum of u and v, and of their difference, by which a and b lie apart
sum_difference : (u v a b : ℕ) → a + u ≡ b + v → squares (u + v) (apart a b) ≡ 2 * squares u v
sum_difference u v a b e = go (apart a b) (apart_by a b)
  where
    go : (q : ℕ) → Apart a b q → squares (u + v) q ≡ 2 * squares u v
    go q (inl f) = let w : u ≡ v + q = omega arith in rw (w, add_comm (v + q) v) (omega (arith, more_by v q))
    go q (inr f) = let w : v ≡ u + q = omega arith in rw w (more_by u q)

-- ---- the sides of a triangle

-- a quarter turn about B takes C to A
record Upright (t : Triangle) : Type 0 where
  across : px (corner_a t) + py (corner_c t) ≡ px (corner_b t) + py (corner_b t)
  up : py (corner_a t) + px (corner_b t) ≡ py (corner_b t) + px (corner_c t)

module _ (ax ay bx by cx cy : ℕ) (e : ax + cy ≡ bx + by) (f : ay + bx ≡ by + cx) where
  sides_at : squares (apart ax bx) (apart ay by) ≡ squares (apart bx cx) (apart by cy)
  sides_at = rw (apart_shift ax bx cy by e, apart_shift ay by bx cx f, apart_comm cy by) (add_comm _ _)

  -- from A to C it is the sum of how far A lies from B in one direction, and the difference in the other
  side_across : squares (apart ax cx) (apart ay cy) ≡ 2 * squares (apart ax bx) (apart ay by)
  side_across = go (apart ax bx) (apart ay by) (apart_by ax bx) (apart_by ay by)
    where
      go : (u v : ℕ) → Apart ax bx u → Apart ay by v → squares (apart ax cx) (apart ay cy) ≡ 2 * squares u v
      go u v (inl a) (inl b) = rw (apart_is ay cy (u + v) (inl (omega arith))) (omega (arith, sum_difference u v ax cx (omega arith)))
      go u v (inl a) (inr b) = rw (apart_is ax cx (u + v) (inl (omega arith))) (sum_difference u v ay cy (omega arith))
      go u v (inr a) (inl b) = rw (apart_is ax cx (v + u) (inr (omega arith))) (omega (arith, sum_difference v u ay cy (omega arith)))
      go u v (inr a) (inr b) = rw (apart_is ay cy (v + u) (inr (omega arith))) (omega (arith, sum_difference v u ax cx (omega arith)))

at_b : (t : Triangle) → Upright t → squared (corner_a t) (corner_b t) ≡ squared (corner_b t) (corner_c t)
unfolding squared
at_b t r = sides_at _ _ _ _ _ _ r.across r.up

across_b : (t : Triangle) → Upright t → squared (corner_a t) (corner_c t) ≡ 2 * squared (corner_a t) (corner_b t)
unfolding squared
across_b t r = side_across _ _ _ _ _ _ r.across r.up

squared_comm : (p q : Point) → squared p q ≡ squared q p
unfolding squared
squared_comm p q = ap₂ squares (apart_comm (px p) (px q)) (apart_comm (py p) (py q))

-- with h halvings left
record Sided (h : ℕ) (t : Triangle) : Type 0 where
  upright : Upright t
  side : squared (corner_a t) (corner_b t) ≡ 2 ^ h

both_sided : (h : ℕ) (t : Triangle) → Exact t → Sided (suc h) t → Sided h (start_half t) × Sided h (end_half t)
both_sided h t x s =
    let a : Upright (start_half t) = omega arith in
    let b : Upright (end_half t) = omega arith in
    omega (arith, across_b (start_half t) a, squared_comm (corner_b t) (corner_a t), across_b (end_half t) b, squared_comm (corner_c t) (corner_b t), at_b t s.upright, pow-suc 2 h)

sided : (n : ℕ) → 2 ≤ n → (h : ℕ) → depth_of n + h ≡ 17 → Sided h (outward n)
unfolding apart squared corners_of corners_at depth_of depth_in
sided = outward_all Sided (omega arith) (omega arith) both_sided

pub long_side : (n : ℕ) → 2 ≤ n → depth_of n ≤ 17 → LongSide (outward n)
long_side n p d =
    let s = sided n p (17 - depth_of n) (omega arith) in
    let f = across_b (outward n) s.upright in
    let g = at_b (outward n) s.upright in
    omega (arith, pow_pos (17 - depth_of n))
