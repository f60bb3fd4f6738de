-- The shift finds the first node of depth D below k. The way to it starts at node 1, and ends with k or, at depth D, right above it.
use mathlib.Core.Path.{◌≡◌, refl}
use mathlib.Core.Logic.{◌⊎◌, inl, inr}
use Prim.Native.Nat.{◌+◌, ◌-◌, ◌≤◌}
use native.Mathlib.Omega.{arith}
use Rattle.leaves.proofs.FirstWays.{shallow, start_cuts, start-named, end_cuts}
use borrow.Author.Rules.{rules}
use Rattle.leaves.proofs.cuts_to.Goals as goal
use Rattle.leaves.proofs.cuts_to.Goals.{then-levels-eq0, else-levels-eq0}

pub overflow_sub-levels : goal.overflow_sub-levels
overflow_sub-levels c = let p = c.requires in shallow _ p.0 _ p.2 p.1 c.depth.ensures

-- where the way ends
end : (c : goal.Joined-levels-eq0) → let l = c.if-levels-eq0.last in let a = c.args in
    (1 ≤ l) × (l ≤ a.deep) × ((l - 1 + 1 ≡ a.deep - c.depth.result) ⊎ ((l - 1 ≡ 0) × (a.deep ≡ c.depth.result)))
end c =
    let p = c.requires in
    let low = p.0.fits.low in
    let h = shallow _ p.0 _ p.2 p.1 c.depth.ensures in
    elim c.if-levels-eq0.branch [
      | then-levels-eq0 x ↦ (omega (arith, x.last-is), omega (arith, x.last-is, p.1, low), inr (omega (arith, x.last-is), omega (arith, h, x.if-levels-eq0.true)))
      | else-levels-eq0 x ↦ (omega (arith, x.last-is, x.if-levels-eq0.false), omega (arith, x.last-is), inl (omega (arith, x.last-is, x.if-levels-eq0.false)))
    ]

pub cuts_toward-requires : goal.cuts_toward-requires
cuts_toward-requires c =
    let p = c.requires in
    let e = end c.before.before in
    (p.0, e.0, e.1, start_cuts _ p.0 _ p.2 p.1 c.depth.ensures refl, start-named _ p.0 _ p.2 p.1 c.depth.ensures refl refl refl)

pub returns : goal.returns
returns c =
    let p = c.requires in
    end_cuts _ p.0 _ p.2 p.1 c.depth.ensures refl c.cuts_toward.ensures (end c.before.before.before).2

pub overflow_sub-half : goal.overflow_sub-half
overflow_sub-half c = search rules
