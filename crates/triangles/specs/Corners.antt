-- A node's corners, by "Corners": three points of two coordinates, in the order A, B, C.
use Rattle.std.specs.Prelude.{◌≡◌, ◌⊎◌, List, [], ◌∷◌, ℕ, zero, suc, ◌+◌, ◌-◌, ◌*◌, ◌/◌, ◌%◌, ◌≤◌, get_or}
use Rattle.nodes.specs.Depth.{depth_of}

abbrev pub Point : Type 0
Point = List ℕ

abbrev pub Triangle : Type 0
Triangle = List Point

abbrev pub corner_a : Triangle → Point
corner_a t = get_or t 0 []

abbrev pub corner_b : Triangle → Point
corner_b t = get_or t 1 []

abbrev pub corner_c : Triangle → Point
corner_c t = get_or t 2 []

abbrev pub px : Point → ℕ
px p = get_or p 0 0

abbrev pub py : Point → ℕ
py p = get_or p 1 0

abbrev pub point : ℕ → ℕ → Point
point x y = x ∷ y ∷ []

abbrev pub triangle : Point → Point → Point → Triangle
triangle a b c = a ∷ b ∷ c ∷ []

-- the panel has corners (0,0) to (256,256)
pub record InSquare (p : Point) : Type 0 where
  pub x : px p ≤ 256
  pub y : py p ≤ 256

-- all three corners lie in the panel
pub record InPanel (t : Triangle) : Type 0 where
  pub a : InSquare (corner_a t)
  pub b : InSquare (corner_b t)
  pub c : InSquare (corner_c t)

-- node 2 is A(0,256), B(0,0), C(256,0); node 3 is A(256,0), B(256,256), C(0,256)
abbrev pub first_triangle : ℕ → Triangle
first_triangle zero = triangle (point 0 256) (point 0 0) (point 256 0)
first_triangle (suc b) = triangle (point 256 0) (point 256 256) (point 0 256)

abbrev pub midpoint : Point → Point → Point
midpoint a c = point ((px a + px c) / 2) ((py a + py c) / 2)

-- M is a whole point: it lies exactly in the middle of A and C
pub record Exact (t : Triangle) : Type 0 where
  pub mx : 2 * px (midpoint (corner_a t) (corner_c t)) ≡ px (corner_a t) + px (corner_c t)
  pub my : 2 * py (midpoint (corner_a t) (corner_c t)) ≡ py (corner_a t) + py (corner_c t)

-- the left child is (A, M, B), M the midpoint of the long side A-C
abbrev pub left_triangle : Triangle → Triangle
left_triangle t = triangle (corner_a t) (midpoint (corner_a t) (corner_c t)) (corner_b t)

-- the right child is (B, M, C)
abbrev pub right_triangle : Triangle → Triangle
right_triangle t = triangle (corner_b t) (midpoint (corner_a t) (corner_c t)) (corner_c t)

-- the left child where the last digit is 0, and else the right child
abbrev pub child_triangle : ℕ → Triangle → Triangle
child_triangle zero t = left_triangle t
child_triangle (suc b) t = right_triangle t

-- the corners of n, of depth d
unfoldable pub corners_at : ℕ → ℕ → Triangle
corners_at zero n = []
corners_at (suc zero) n = first_triangle (n % 2)
corners_at (suc (suc d)) n = child_triangle (n % 2) (corners_at (suc d) (n / 2))

-- the corners of node n, from 2 up
unfoldable pub corners_of : ℕ → Triangle
corners_of n = corners_at (depth_of n) n

-- as the corners of a node go out (02, W6): at even depth, the last digit of which is 0, A and C change places
abbrev pub turned : ℕ → Triangle → Triangle
turned zero t = triangle (corner_c t) (corner_b t) (corner_a t)
turned (suc b) t = t

-- two points lie on one line of the panel border
unfoldable pub OnBorder : Point → Point → Type 0
OnBorder p q =
    ((px p ≡ 0) × (px q ≡ 0)) ⊎ (((px p ≡ 256) × (px q ≡ 256)) ⊎ (((py p ≡ 0) × (py q ≡ 0)) ⊎ ((py p ≡ 256) × (py q ≡ 256))))

-- the products that twice a triangle's area adds, and those that it takes away, where A, B, C turn counterclockwise with y upward
abbrev pub plus : Triangle → ℕ
plus t = px (corner_a t) * py (corner_b t) + px (corner_b t) * py (corner_c t) + px (corner_c t) * py (corner_a t)

abbrev pub minus : Triangle → ℕ
minus t = px (corner_a t) * py (corner_c t) + px (corner_b t) * py (corner_a t) + px (corner_c t) * py (corner_b t)

-- twice the area of a triangle: the difference of the two
unfoldable pub twice_area : Triangle → ℕ
twice_area t = (plus t - minus t) + (minus t - plus t)
