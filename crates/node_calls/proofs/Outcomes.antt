-- The calls that take no panel: how a `return` makes their outcome, and that one input has one outcome.
use mathlib.Core.Path.{◌≡◌, refl, sym, ◌∙◌}
use mathlib.Core.Logic.{inl, inr}
use Prim.Native.Nat.{ℕ}
use native.Mathlib.Omega.{arith}
use Rattle.nodes.specs.declared.triples.Triple.{Triple}
use Rattle.nodes.specs.Limits.{KnownNode}
use Rattle.nodes.specs.Neighbours.{none, neighbours_of}
use Rattle.triangles.specs.Corners.{Triangle}
use Rattle.tables.specs.Table.{Answers, Outcome}
use Rattle.node_calls.specs.Calls.{node_rows, Neighbours, no_corners, Cornered, Corners}
use Rattle.nodes.proofs.Limits.{known_shallow}
use Rattle.triangles.proofs.Midpoints.{whole_corners}
use Rattle.triangles.proofs.Turning.{outward}
use Rattle.tables.proofs.Tables.{outcome_one, is_done, is_refused}

module _ {n : ℕ} {A : Type 0} {Done Refused : A → Type 0} {x : A} where
  pub no_such_node : (KnownNode n → ⊥) → Refused x → Outcome (node_rows n) A Done Refused 3 x
  no_such_node f r = is_refused (λ e. omega arith) (inl (f, refl)) r

  pub known_node_lem : KnownNode n → Done x → Outcome (node_rows n) A Done Refused 0 x
  known_node_lem k d = is_done (inr (k, refl)) d

pub done_known : (n : ℕ) → Answers (node_rows n) 0 → KnownNode n
done_known n (inl p) = absurd (omega (arith, p.1))
done_known n (inr p) = p.0

-- two outcomes of `neighbours` of one node are equal
pub neighbours_one : (n a b : ℕ) (t u : Triple) → Neighbours n a t → Neighbours n b u → (a ≡ b) × (t ≡ u)
neighbours_one n =
    outcome_one (node_rows n) Triple (λ x. x ≡ neighbours_of n) (λ x. x ≡ none) (λ x y p q. p ∙ sym q) (λ x y p q. p ∙ sym q)

-- the corners of a node that the call takes are whole
pub known_corners : {n : ℕ} {x : Triangle} → KnownNode n → x ≡ outward n → Cornered n x
known_corners {n} k e = record { corners = e; whole = whole_corners n (known_shallow k) }

-- two outcomes of `corners` of one node are equal
pub corners_one : (n a b : ℕ) (t u : Triangle) → Corners n a t → Corners n b u → (a ≡ b) × (t ≡ u)
corners_one n =
    outcome_one (node_rows n) Triangle (Cornered n) (λ x. x ≡ no_corners) (λ x y p q. p.corners ∙ sym q.corners) (λ x y p q. p ∙ sym q)
