-- Down to a node from its ancestor of depth 1, level by level, with its corners.
use mathlib.Core.Path.{◌≡◌, sym, ◌∙◌, ap}
use Prim.Native.Nat.{ℕ, ◌-◌, ◌/◌, ◌%◌, ◌^◌, ◌≤◌, ◌<◌}
use Rattle.nodes.specs.Depth.{depth_of}
use Rattle.nodes.proofs.Descents.{Above, above_next, start_above, start_low, to_even, to_odd}
use Rattle.triangles.specs.Corners.{Triangle, InPanel, first_triangle, left_triangle, right_triangle, corners_of}
use Rattle.triangles.proofs.Cornering.{first_triangle_lem, left_triangle_lem, right_triangle_lem, in_panel}

-- t are the corners of the ancestor
pub record CornersAt (k levels : ℕ) (t : Triangle) : Type 0 where
  pub above : Above k levels
  pub is : t ≡ corners_of (k / 2 ^ levels)

pub corners_start : (n d : ℕ) (t : Triangle) → 2 ≤ n → n < 2 ^ 32 → d ≡ depth_of n → t ≡ first_triangle (n / 2 ^ (d - 1) % 2) → CornersAt n (d - 1) t
corners_start n d t p h e f =
    let a = start_above n d p h e in
    record { above = a; is = f ∙ sym (first_triangle_lem _ a.node (start_low n d p h e)) }

pub corners_fit : {k l : ℕ} {t : Triangle} → CornersAt k l t → InPanel t
corners_fit a = rw a.is (in_panel _ a.above.node)

module _ {k l : ℕ} {t : Triangle} (z : 0 < l) (a : CornersAt k l t) where
  pub corners_left : {r : Triangle} → r ≡ left_triangle t → k / 2 ^ (l - 1) % 2 ≡ 0 → CornersAt k (l - 1) r
  corners_left f b = record {
    above = above_next z a.above;
    is = f ∙ ap left_triangle a.is ∙ sym (left_triangle_lem _ a.above.node) ∙ ap corners_of (to_even k l z b);
  }

  pub corners_right : {r : Triangle} → r ≡ right_triangle t → (k / 2 ^ (l - 1) % 2 ≡ 0 → ⊥) → CornersAt k (l - 1) r
  corners_right f b = record {
    above = above_next z a.above;
    is = f ∙ ap right_triangle a.is ∙ sym (right_triangle_lem _ a.above.node) ∙ ap corners_of (to_odd k l z b);
  }
