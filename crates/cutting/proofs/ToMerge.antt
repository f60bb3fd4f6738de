-- The leaves that a merge needs: all are nodes of the panel, and the tests of them settle whether they are there.
use mathlib.Core.Path.{◌≡◌, sym, ap, ◌∙◌, subst}
use mathlib.Core.Bool.{Bool}
use mathlib.Core.Logic.{◌≢◌}
use mathlib.Core.List.{List}
use Prim.Native.Nat.{ℕ, suc, ◌+◌, ◌*◌, ◌/◌, ◌^◌, ◌≤◌, ◌<◌}
use native.Mathlib.Omega.{arith}
use lib.Pow.{pow_mono}
use Rattle.nodes.specs.Depth.{depth_of}
use Rattle.nodes.specs.Neighbours.{edge}
use Rattle.tables.specs.inner.Says.{Says}
use Rattle.nodes.proofs.Depths.{pow_next, at_depth, depth_half, depth_left, depth_le, below_depth}
use Rattle.nodes.proofs.Edges.{edge_depth}
use Rattle.nodes.proofs.Limits.{node_small}
use Rattle.panel.specs.Panels.{deep_of, RightLength, InRange, LeafOf}
use Rattle.panel.proofs.Lengths.{fits_small}
use Rattle.cuts.specs.Cuts.{sibling}
use Rattle.panel.specs.Calls.{Together}

-- the parent of a node deeper than 1 is not node 1
pub parent_low : {k : ℕ} → 2 ≤ k → 1 < depth_of k → 2 ≤ k / 2
parent_low {k} h d = omega (arith, pow_mono {i = 2} {j = depth_of k} d, at_depth {n = k} (omega arith))

-- a panel's nodes are small numbers
pub range_small : {s : List ℕ} {n : ℕ} → RightLength s → InRange s n → n < 2 ^ 18
range_small f r = node_small (fits_small f) r.high

module _ {s : List ℕ} {k : ℕ} (r : InRange s k) (d : 1 < depth_of k) where
  pub sibling_in : InRange s (sibling k)
  sibling_in = record { low = omega (arith, parent_low r.low d); high = omega (arith, r.high, pow_next (deep_of s)) }

  module _ {e : ℕ} (is : e ≡ edge (k / 2)) where
    -- the children of the parent's edge neighbour
    pub across_in : e ≢ 0 → InRange s (2 * e) × InRange s (2 * e + 1)
    across_in z = (record { low = omega arith; high = left }, record { low = omega arith; high = omega (arith, left, pow_next (deep_of s)) })
      where
        same : depth_of (2 * e) ≡ depth_of k
        same =
            depth_left e (omega arith) ∙ ap suc (ap depth_of is ∙ edge_depth (k / 2) (λ w. z (is ∙ w))) ∙ sym (depth_half k r.low)

        left : 2 * e < 2 ^ (deep_of s + 1)
        left = below_depth (2 * e) (deep_of s) (omega arith) (omega (arith, same, depth_le k (deep_of s) r.high))

    -- at the border the sibling is enough
    pub together_border : LeafOf s (sibling k) → e ≡ 0 → Together s k
    together_border l z = record { beside = l; across = λ h. absurd (h (sym is ∙ z)) }

    pub says_together : {b : Bool} → LeafOf s (sibling k) → LeafOf s (2 * e) → Says (LeafOf s (2 * e + 1)) b → e ≢ 0 → Says (Together s k) b
    says_together l m t z = record {
      yes = λ h. record { beside = l; across = λ _. (subst (λ x. LeafOf s (2 * x)) is m, subst (λ x. LeafOf s (2 * x + 1)) is (t.yes h)) };
      no = λ h g. t.no h (subst (λ x. LeafOf s (2 * x + 1)) (sym is) (g.across (λ w. z (is ∙ w))).1);
    }

    pub left_missing : (LeafOf s (2 * e) → ⊥) → e ≢ 0 → Together s k → ⊥
    left_missing f z g = f (subst (λ x. LeafOf s (2 * x)) (sym is) (g.across (λ w. z (is ∙ w))).0)
