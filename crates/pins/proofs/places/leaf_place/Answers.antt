-- The leftmost leaf bit below k is k's own, and the shifts that find it lose nothing.
use mathlib.Core.Path.{◌≡◌, ap, ap₂, ◌∙◌, sym, subst}
use Prim.Native.Nat.{ℕ, ◌-◌, ◌*◌, ◌%◌, ◌^◌, ◌<◌}
use native.Mathlib.Omega.{arith}
use Rattle.nodes.specs.Depth.{depth_of}
use Rattle.pins.proofs.PinBits.{LeafPlaced, leaf_placed}
use Rattle.pins.proofs.places.leaf_place.Goals as goal
use Rattle.pins.proofs.places.leaf_place.Goals.{Start}

here : (c : Start) → LeafPlaced c.args.deep c.args.k.0
here c = leaf_placed c.args.deep c.args.k.0 (omega arith) (omega arith) (omega arith)

shifted : (D k d : ℕ) → LeafPlaced D k → d ≡ depth_of k → k * 2 ^ (D - d) % 2 ^ 64 ≡ k * 2 ^ (D - depth_of k)
shifted D k d l e = ap (λ (x : ℕ). k * 2 ^ (D - x) % 2 ^ 64) e ∙ l.shift

pub overflow_sub-result-2 : goal.overflow_sub-result-2
overflow_sub-result-2 c =
    let l = here c.before.before in omega (arith, l.first, l.deep, shifted _ _ _ l c.depth-d.ensures)

pub returns : goal.returns
returns c =
    let l = here c.before.before in
    let e = ap₂ (λ (x y : ℕ). x - y) (shifted _ _ _ l c.depth-d.ensures) l.deep in
    (e, subst (λ (x : ℕ). x < 2 ^ c.args.deep) (sym e) l.inside)
