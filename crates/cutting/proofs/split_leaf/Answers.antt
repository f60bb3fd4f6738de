-- The loop's invariant: what is cut so far and what the next node forces are, together, what k forces; the next node is not cut; and the pin over
-- each place is as it was. Each cut gets the pin of the old leaf above it.
use mathlib.Core.Path.{◌≡◌, sym, ap, ◌∙◌, subst, subst⁻¹}
use mathlib.Core.Logic.{◌≢◌, inl}
use Prim.Native.Nat.{◌+◌, ◌/◌, ◌≤◌}
use native.Mathlib.Omega.{arith}
use lib.Pow.{pow_mono}
use Rattle.nodes.specs.Depth.{depth_of}
use Rattle.nodes.specs.Neighbours.{edge}
use Rattle.nodes.proofs.Edges.{edge_depth}
use Rattle.panel.specs.Panels.{deep_of}
use Rattle.panel.specs.Calls.{SplitAt}
use Rattle.cutting.specs.inner.Changing.{Cuttable, CutUnder}
use Rattle.cutting.proofs.AtWork.{AtWork, CutIn, work_under, under_add, room_at, cuttable_at, under_at, cut_at}
use Rattle.cutting.proofs.Splitting.{Splitting, splitting_start, splitting_node, splitting_low, splitting_cut, splitting_last, pins_1, across_uncut, held_own, held_above, held_node, splitting_step, still_uncut, across_low, across_above}
use Rattle.cutting.proofs.split_leaf.Lts
use Rattle.cutting.proofs.split_leaf.Reads
use Rattle.cutting.proofs.split_leaf.Tie
use Rattle.cutting.proofs.split_leaf.Goals as goal

abbrev start : (Lts.At-loop Tie.the-claims Reads.Pre Reads.Post goal.the-invariant-loop-deep goal.the-decreases-loop-deep) → (Lts.Start Tie.the-claims Reads.Pre Reads.Post goal.the-invariant-loop-deep goal.the-decreases-loop-deep)
start l = l.before.before.before

pub loop-deep-init : goal.loop-deep-init
loop-deep-init c =
    (splitting_start c.requires.0 c.requires.2 (omega arith), c.requires.2.uncut, omega (arith, c.depth.ensures, c.requires.1, c.requires.3))

-- node 1 is cut
low : (l : (Lts.At-loop Tie.the-claims Reads.Pre Reads.Post goal.the-invariant-loop-deep goal.the-decreases-loop-deep)) → 2 ≤ l.loop-deep.cur
low l = splitting_low (start l).requires.0 l.loop-deep.invariant.0 l.loop-deep.invariant.1

pub cut_under-requires : goal.cut_under-requires
cut_under-requires c =
    let a = start c.before in
    let h = low c.before in
    let i = c.loop-deep.invariant.0 in
    (cuttable_at a.requires.0 a.requires.1 i.work i.pins.on (omega arith) c.loop-deep.invariant.2 c.loop-deep.invariant.1, omega arith, omega (arith, i.deep))

-- the next node's own cut
own : (c : (Lts.After-cut_under Tie.the-claims Reads.Pre Reads.Post goal.the-invariant-loop-deep goal.the-decreases-loop-deep)) → CutUnder (deep_of (start c.before.before).args.panel.now) c.loop-deep.panel c.loop-deep.cur c.loop-deep.cur c.cut_under.new.panel
own c = let a = start c.before.before in under_at a.requires.0 a.requires.1 c.cut_under.ensures

work : (c : (Lts.After-cut_under Tie.the-claims Reads.Pre Reads.Post goal.the-invariant-loop-deep goal.the-decreases-loop-deep)) → AtWork (start c.before.before).args.panel.now c.cut_under.new.panel
work c = work_under (start c.before.before).requires.0 c.loop-deep.invariant.0.work (own c)

pub edge_of-e-requires : goal.edge_of-e-requires
edge_of-e-requires c =
    let a = start c.before.before.before.before.before in
    let n = splitting_node a.requires.0 c.loop-deep.invariant.0 in
    (low c.before.before.before.before.before, omega (arith, n.high, a.requires.0.fits.high, pow_mono {i = deep_of a.args.panel.now + 1} {j = 18} (omega (arith, a.requires.0.fits.high))))

-- without a neighbour it is the last
done : (c : (Lts.Then1 Tie.the-claims Reads.Pre Reads.Post goal.the-invariant-loop-deep goal.the-decreases-loop-deep)) → let a = (start c.before.before.before.before.before.before).args in SplitAt a.panel.now a.k.0 c.cut_under.new.panel
done c =
    let c = c in
    splitting_last (start c.before.before.before.before.before.before).requires.0 c.loop-deep.invariant.0 (low c.before.before.before.before.before.before) c.loop-deep.invariant.1 (own c.before.before.before.before) (sym c.edge_of-e.ensures ∙ c.if-e-eq0.true)

-- else there is one, at the same depth
across : (c : goal.Else-e-eq0) → edge c.loop-deep.cur ≢ 0
across c z = c.if-e-eq0.false (c.edge_of-e.ensures ∙ z)

level : (c : goal.Else-e-eq0) → depth_of c.edge_of-e.result ≡ depth_of c.loop-deep.cur
level c = ap depth_of c.edge_of-e.ensures ∙ edge_depth c.loop-deep.cur (across c)

-- it may be cut
next : (c : goal.Else-e-eq0) → Cuttable (start c.before.before.before.before.before.before).args.deep c.cut_under.new.panel c.edge_of-e.result c.loop-deep.levels
next c =
    let c = c in
    let c = c in
    let a = start c.before.before.before.before.before.before in
    let i = c.edge_of-e.ensures in
    cuttable_at a.requires.0 a.requires.1 (work c.before.before.before.before) (pins_1 a.requires.0 c.loop-deep.invariant.0 (low c.before.before.before.before.before.before) c.loop-deep.invariant.1 (own c.before.before.before.before)).on (omega (arith, c.if-e-eq0.false)) (omega (arith, level c, c.loop-deep.invariant.2))
    (λ q. across_uncut a.requires.0 c.loop-deep.invariant.0 (low c.before.before.before.before.before.before) c.loop-deep.invariant.1 (own c.before.before.before.before) (across c) (subst (CutIn a.args.panel.now c.cut_under.new.panel) i q))

pub is_cut_above-requires : goal.is_cut_above-requires
is_cut_above-requires c =
    let a = start c.before.before.before.before.before.before in
    let e = c.edge_of-e.ensures in
    (room_at a.requires.0 a.requires.1 (work c.before.before.before.before), omega (arith, e, across_low c.loop-deep.cur (across c)), omega (arith, ap (λ x. depth_of (x / 2)) e, across_above c.loop-deep.cur (across c), c.loop-deep.invariant.2, a.requires.1))

-- the test of its parent
cut : (c : (Lts.Then2 Tie.the-claims Reads.Pre Reads.Post goal.the-invariant-loop-deep goal.the-decreases-loop-deep)) → CutIn (start c.before.before.before.before.before.before.before.before).args.panel.now c.cut_under.new.panel (edge c.loop-deep.cur / 2)
cut c =
    let c = c in
    let a = start c.before.before.before.before.before.before.before.before in
    subst (λ x. CutIn a.args.panel.now c.cut_under.new.panel (x / 2)) c.edge_of-e.ensures
    ((cut_at a.requires.0 a.requires.1 c.cut_under.new.panel (c.edge_of-e.result / 2)).0 (c.is_cut_above.ensures.yes c.if-is_cut_above.true))

uncut : (c : (Lts.Else2 Tie.the-claims Reads.Pre Reads.Post goal.the-invariant-loop-deep goal.the-decreases-loop-deep)) → CutIn (start c.before.before.before.before.before.before.before.before).args.panel.now c.cut_under.new.panel (edge c.loop-deep.cur / 2) → ⊥
uncut c x =
    let c = c in
    let a = start c.before.before.before.before.before.before.before.before in
    c.is_cut_above.ensures.no c.if-is_cut_above.false
    ((cut_at a.requires.0 a.requires.1 c.cut_under.new.panel (c.edge_of-e.result / 2)).1 (subst⁻¹ (λ y. CutIn a.args.panel.now c.cut_under.new.panel (y / 2)) c.edge_of-e.ensures x))

pub cut_under-requires-then-is_cut_above : goal.cut_under-requires-then-is_cut_above
cut_under-requires-then-is_cut_above c =
    let a = start c.before.before.before.before.before.before.before.before.before in
    (next c.before.before.before, omega (arith, c.if-e-eq0.false), omega (arith, level c.before.before.before, c.loop-deep.invariant.0.deep))

-- both are cut, and the neighbour's parent is next
both : (c : (Lts.After-cut_under2 Tie.the-claims Reads.Pre Reads.Post goal.the-invariant-loop-deep goal.the-decreases-loop-deep)) → let s = (start c.before.before.before.before.before.before.before.before.before.before).args.panel.now in
    Splitting s (start c.before.before.before.before.before.before.before.before.before.before).args.k.0 c.cut_under-then-is_cut_above.new.panel (edge c.loop-deep.cur / 2) × CutIn s c.cut_under-then-is_cut_above.new.panel (edge c.loop-deep.cur / 2)
both c =
    let c = c in
    let a = start c.before.before.before.before.before.before.before.before.before.before in
    let G = a.requires.0 in
    let u : CutUnder (deep_of a.args.panel.now) c.cut_under.new.panel (edge c.loop-deep.cur) (edge c.loop-deep.cur) c.cut_under-then-is_cut_above.new.panel =
    subst (λ x. CutUnder (deep_of a.args.panel.now) c.cut_under.new.panel x x c.cut_under-then-is_cut_above.new.panel) c.edge_of-e.ensures (under_at G a.requires.1 c.cut_under-then-is_cut_above.ensures) in (
      splitting_step G c.loop-deep.invariant.0 (low c.before.before.before.before.before.before.before.before.before.before) c.loop-deep.invariant.1 (own c.before.before.before.before.before.before.before.before) (across c.before.before.before.before) (held_own G c.loop-deep.invariant.0 (low c.before.before.before.before.before.before.before.before.before.before) c.loop-deep.invariant.1 (own c.before.before.before.before.before.before.before.before) (across c.before.before.before.before) (cut c.before.before)) u,
      (under_add G (work c.before.before.before.before.before.before.before.before) u (edge c.loop-deep.cur / 2)).1 (inl (cut c.before.before)),
    )

-- that one is cut, so all is done
ended : (c : (Lts.After-cut_under2 Tie.the-claims Reads.Pre Reads.Post goal.the-invariant-loop-deep goal.the-decreases-loop-deep)) → let a = (start c.before.before.before.before.before.before.before.before.before.before).args in SplitAt a.panel.now a.k.0 c.cut_under-then-is_cut_above.new.panel
ended c = splitting_cut (start c.before.before.before.before.before.before.before.before.before.before).requires.0 (both c).0 (both c).1

pub cut_under-requires-in-loop-deep : goal.cut_under-requires-in-loop-deep
cut_under-requires-in-loop-deep c =
    let a = start c.before.before.before.before.before.before.before.before.before in
    let h = held_node a.requires.0 c.loop-deep.invariant.0 (low c.before.before.before.before.before.before.before.before.before) c.loop-deep.invariant.1 (own c.before.before.before.before.before.before.before) (across c.before.before.before) (held_above a.requires.0 c.loop-deep.invariant.0 (low c.before.before.before.before.before.before.before.before.before) c.loop-deep.invariant.1 (own c.before.before.before.before.before.before.before) (across c.before.before.before) (uncut c.before)) in
    let i = c.edge_of-e.ensures in
    (next c.before.before.before, omega (arith, h.0), omega (arith, ap (λ x. depth_of (x / 2)) i, h.1))

pub loop-deep-smaller : goal.loop-deep-smaller
loop-deep-smaller c =
    omega (arith, ap (λ x. depth_of (x / 2)) c.edge_of-e.ensures, across_above c.loop-deep.cur (across c.before.before.before.before.before.before.before))

pub loop-deep-preserved : goal.loop-deep-preserved
loop-deep-preserved c =
    let f = c.cut_under-in-loop-deep in
    let a = start c.before.before.before.before.before.before.before.before.before.before.before.before.before in
    let G = a.requires.0 in
    let i = c.edge_of-e.ensures in
    let s = a.args.panel.now in
    let u : CutUnder (deep_of s) c.cut_under.new.panel (edge c.loop-deep.cur) (edge c.loop-deep.cur / 2) f.new.panel =
    subst (λ x. CutUnder (deep_of s) c.cut_under.new.panel x (x / 2) f.new.panel) i (under_at G a.requires.1 f.ensures) in
    subst⁻¹ (λ x. Splitting s a.args.k.0 f.new.panel (x / 2) × (CutIn s f.new.panel (x / 2) → ⊥) × (depth_of (x / 2) + 1 + (c.loop-deep.levels + 1) ≡ deep_of s)) i (
      splitting_step G c.loop-deep.invariant.0 (low c.before.before.before.before.before.before.before.before.before.before.before.before.before) c.loop-deep.invariant.1 (own c.before.before.before.before.before.before.before.before.before.before.before) (across c.before.before.before.before.before.before.before) (held_above G c.loop-deep.invariant.0 (low c.before.before.before.before.before.before.before.before.before.before.before.before.before) c.loop-deep.invariant.1 (own c.before.before.before.before.before.before.before.before.before.before.before) (across c.before.before.before.before.before.before.before) (uncut c.before.before.before.before.before)) u,
      still_uncut G (work c.before.before.before.before.before.before.before.before.before.before.before) u (λ z. omega (arith, across c.before.before.before.before.before.before.before)) (uncut c.before.before.before.before.before),
      omega (arith, across_above c.loop-deep.cur (across c.before.before.before.before.before.before.before), c.loop-deep.invariant.2),
    )

pub overflow_sub-levels : goal.overflow_sub-levels
overflow_sub-levels c = omega (arith, c.requires.3)

pub overflow_sub-levels-2 : goal.overflow_sub-levels-2
overflow_sub-levels-2 c = omega (arith, c.depth.ensures, c.requires.3)

pub returns-then-e-eq0 : goal.returns-then-e-eq0
returns-then-e-eq0 c = done c.before

pub returns-then-is_cut_above : goal.returns-then-is_cut_above
returns-then-is_cut_above c = ended c.before.before.before
