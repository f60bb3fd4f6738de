-- A triangle is an array of three arrays of two numbers, and each point in it is its two coordinates.
use mathlib.Core.Path.{◌≡◌, refl, ap, sym, ◌∙◌, subst}
use mathlib.Core.List.{List, [], ◌∷◌}
use Prim.Native.Nat.{ℕ, zero, suc, ◌<◌}
use native.Mathlib.Omega.{arith}
use lib.ListN.{length, get_or}
use mir.Syntax.{Width}
use mir.Val.{Val}
use denote.Laws.{Is}
use denote.Shadow.{shadow}
use denote.Plain.{UInt}
use denote.Array.{Array, each}
use Rattle.triangles.specs.Corners.{Point, Triangle, corner_a, corner_b, corner_c, px, py, point, triangle}

two_whole : (p : Point) → length p ≡ 2 → point (px p) (py p) ≡ p
two_whole [] e = absurd (omega arith)
two_whole (x ∷ []) e = absurd (omega arith)
two_whole (x ∷ y ∷ []) e = refl
two_whole (x ∷ y ∷ z ∷ p) e = absurd (omega arith)

-- what an array's type says of it: each of its n arrays has two elements
pub point_whole : (w : Width) (n : ℕ) (t : Triangle) (vs : List Val) → Is (Array (Array (UInt w) 2) n) t vs → (i : ℕ) → i < n → point (px (get_or t i [])) (py (get_or t i [])) ≡ get_or t i []
point_whole w n t vs p i h = go t p.0 p.1.1 i (subst (λ m. i < m) (sym p.1.0.1) h)
  where
    go : (t : Triangle) (us : List Val) → shadow (each Point (Array (UInt w) 2).own_val t us) → (i : ℕ) → i < length t → point (px (get_or t i [])) (py (get_or t i [])) ≡ get_or t i []
    go [] us e i l = absurd (omega arith)
    go (x ∷ t) [] e i l = absurd e
    go (x ∷ t) (u ∷ us) e zero l = two_whole x e.0.1.0.1
    go (x ∷ t) (u ∷ us) e (suc i) l = go t us e.1 i (omega arith)

three_whole : (t : Triangle) → length t ≡ 3 → triangle (corner_a t) (corner_b t) (corner_c t) ≡ t
three_whole [] e = absurd (omega arith)
three_whole (a ∷ []) e = absurd (omega arith)
three_whole (a ∷ b ∷ []) e = absurd (omega arith)
three_whole (a ∷ b ∷ c ∷ []) e = refl
three_whole (a ∷ b ∷ c ∷ d ∷ t) e = absurd (omega arith)

pub triangle_same : {a b c a' b' c' : Point} → a ≡ a' → b ≡ b' → c ≡ c' → triangle a b c ≡ triangle a' b' c'
triangle_same {b = b} {c = c} {a' = a'} {b' = b'} p q r = ap (λ x. triangle x b c) p ∙ ap (λ x. triangle a' x c) q ∙ ap (triangle a' b') r

-- the triangle that its six numbers tell
abbrev pub told : Triangle → Triangle
told t =
    triangle (point (px (corner_a t)) (py (corner_a t))) (point (px (corner_b t)) (py (corner_b t))) (point (px (corner_c t)) (py (corner_c t)))

pub told_whole : (w : Width) (t : Triangle) (vs : List Val) → Is (Array (Array (UInt w) 2) 3) t vs → told t ≡ t
told_whole w t vs p =
    let q = point_whole w 3 t vs p in
    triangle_same (q 0 (omega arith)) (q 1 (omega arith)) (q 2 (omega arith)) ∙ three_whole t p.1.0.1
