-- Down to a node from its ancestor of depth 1, level by level: what a descent knows of the ancestor that it stands at.
use mathlib.Core.Path.{◌≡◌, sym, ◌∙◌, ap, subst}
use Prim.Native.Nat.{ℕ, suc, ◌+◌, ◌-◌, ◌*◌, ◌/◌, ◌%◌, ◌^◌, ◌≤◌, ◌<◌}
use native.Mathlib.Omega.{arith}
use native.Mathlib.Nat.{pow-suc, le-div_iff_mul-le, div-lt_iff_lt-mul}
use lib.Pow.{shr-shr, shr_le, pow_pos}
use Rattle.nodes.specs.declared.triples.Triple.{Triple}
use Rattle.nodes.specs.Depth.{depth_of}
use Rattle.nodes.specs.Neighbours.{first_triple, left_triple, right_triple, neighbours_of}
use Rattle.nodes.proofs.Depths.{At, at_depth, depth_pos, depth_le}
use Rattle.nodes.proofs.Neighbouring.{first_triple_lem, left_triple_lem, right_triple_lem, Below, neighbours_below}

-- the ancestor of k that stands some levels up is a node from 2 up
pub record Above (k levels : ℕ) : Type 0 where
  pub fits : levels < 32
  pub node : 2 ≤ k / 2 ^ levels

-- the ancestor one level down
pub half : (k l : ℕ) → 0 < l → k / 2 ^ l ≡ k / 2 ^ (l - 1) / 2
half k l z = let e : l - 1 + 1 ≡ l = omega arith in sym (shr-shr k (l - 1) 1 ∙ ap (λ i. k / 2 ^ i) e)

pub above_next : {k l : ℕ} → 0 < l → Above k l → Above k (l - 1)
above_next {k} {l} z a = record { fits = omega arith; node = omega (arith, half k l z) }

-- and starts at depth 1
module _ (n d : ℕ) (p : 2 ≤ n) (h : n < 2 ^ 32) (e : d ≡ depth_of n) where
  start_bounds : (2 * 2 ^ (d - 1) ≤ n) × (n < 4 * 2 ^ (d - 1))
  start_bounds =
      let a : At (depth_of n) n = at_depth (omega arith) in
      let f : depth_of n ≡ suc (d - 1) = omega (arith, depth_pos n p) in
      let b : At (suc (d - 1)) n = subst (λ i. At i n) f a in
      omega (arith, pow-suc 2 (d - 1), pow-suc 2 (suc (d - 1)))

  pub start_above : Above n (d - 1)
  start_above = record {
    fits = omega (arith, depth_le n 31 h);
    node = (le-div_iff_mul-le (pow_pos (d - 1))).1 start_bounds.0;
  }

  pub start_low : n / 2 ^ (d - 1) < 4
  start_low = (div-lt_iff_lt-mul (pow_pos (d - 1))).1 start_bounds.1

module _ (k l : ℕ) (z : 0 < l) where
  pub to_even : k / 2 ^ (l - 1) % 2 ≡ 0 → 2 * (k / 2 ^ l) ≡ k / 2 ^ (l - 1)
  to_even b = omega (arith, half k l z)

  pub to_odd : (k / 2 ^ (l - 1) % 2 ≡ 0 → ⊥) → 2 * (k / 2 ^ l) + 1 ≡ k / 2 ^ (l - 1)
  to_odd b = omega (arith, half k l z)

-- ---- the neighbours

-- t are the neighbours of the ancestor
pub record TripleAt (k levels : ℕ) (t : Triple) : Type 0 where
  pub above : Above k levels
  pub is : t ≡ neighbours_of (k / 2 ^ levels)

pub triple_start : (n d : ℕ) (t : Triple) → 2 ≤ n → n < 2 ^ 32 → d ≡ depth_of n → t ≡ first_triple (n / 2 ^ (d - 1)) → TripleAt n (d - 1) t
triple_start n d t p h e f =
    let a = start_above n d p h e in
    record { above = a; is = f ∙ sym (first_triple_lem _ a.node (start_low n d p h e)) }

module _ {k l : ℕ} {t : Triple} (z : 0 < l) (a : TripleAt k l t) where
  pub triple_fits : k < 2 ^ 18 → (k / 2 ^ (l - 1) / 2 < 2 ^ 31) × (t.left < 2 ^ 31) × (t.right < 2 ^ 31) × (t.edge < 2 ^ 31)
  triple_fits h =
      let b : k / 2 ^ l < 2 ^ 18 = omega (arith, shr_le k l) in
      let f : Below (2 ^ 18) t = rw a.is (neighbours_below _ 17 a.above.node b) in
      omega (arith, half k l z)

  pub triple_left : {r : Triple} → r ≡ left_triple t (k / 2 ^ (l - 1) / 2) → k / 2 ^ (l - 1) % 2 ≡ 0 → TripleAt k (l - 1) r
  triple_left f b = record {
    above = above_next z a.above;
    is = f ∙ ap (left_triple t) (sym (half k l z)) ∙ ap (λ x. left_triple x (k / 2 ^ l)) a.is ∙ sym (left_triple_lem _ a.above.node) ∙ ap neighbours_of (to_even k l z b);
  }

  pub triple_right : {r : Triple} → r ≡ right_triple t (k / 2 ^ (l - 1) / 2) → (k / 2 ^ (l - 1) % 2 ≡ 0 → ⊥) → TripleAt k (l - 1) r
  triple_right f b = record {
    above = above_next z a.above;
    is = f ∙ ap (right_triple t) (sym (half k l z)) ∙ ap (λ x. right_triple x (k / 2 ^ l)) a.is ∙ sym (right_triple_lem _ a.above.node) ∙ ap neighbours_of (to_odd k l z b);
  }
