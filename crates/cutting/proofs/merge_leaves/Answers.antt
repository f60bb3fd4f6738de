-- Two bits are cleared under right sums, or one where there is no neighbour: what is left is the panel that is promised.
use mathlib.Core.Path.{sym, ap, ◌∙◌, subst}
use Prim.Native.Nat.{◌/◌, ◌<◌}
use native.Mathlib.Omega.{arith}
use Rattle.nodes.specs.Depth.{depth_of}
use Rattle.nodes.proofs.Depths.{below_depth}
use Rattle.nodes.proofs.Edges.{edge_depth}
use Rattle.nodes.proofs.Limits.{node_small}
use Rattle.cuts.proofs.TakingBack.{Mergeable}
use Rattle.panel.specs.Panels.{deep_of, CutOf}
use Rattle.panel.proofs.Lengths.{fits_small}
use Rattle.cutting.specs.inner.Changing.{CutPut}
use Rattle.cutting.proofs.AtWork.{work_start, work_put, room_at, sums_at, put_at}
use Rattle.cutting.proofs.Merging.{merging_alone, merging_both, together_mergeable, merging_deep, merge_made}
use Rattle.cutting.proofs.merge_leaves.Lts
use Rattle.cutting.proofs.merge_leaves.Reads
use Rattle.cutting.proofs.merge_leaves.Tie
use Rattle.cutting.proofs.merge_leaves.Goals as goal

mergeable : (c : (Lts.Start Tie.the-claims Reads.Pre Reads.Post)) → Mergeable (CutOf c.args.panel.now) (c.args.k.0 / 2)
mergeable c = together_mergeable c.requires.0 c.requires.2 c.requires.3 c.requires.4

-- the parent's depth is that of a bit
deep : (c : (Lts.Start Tie.the-claims Reads.Pre Reads.Post)) → depth_of (c.args.k.0 / 2) < c.args.deep
deep c = omega (arith, merging_deep c.requires.0 (mergeable c), c.requires.1)

pub put_cut-requires : goal.put_cut-requires
put_cut-requires c =
    let w = work_start c.requires.0 in
    (room_at c.requires.0 c.requires.1 w, sums_at c.requires.0 c.requires.1 w, omega (arith, (mergeable c.before.before.before).low), deep c.before.before.before, omega arith)

pub edge_of-e-requires : goal.edge_of-e-requires
edge_of-e-requires c =
    ((mergeable c.before.before.before.before.before.before.before).low, node_small (omega (arith, c.requires.1, fits_small c.requires.0.fits)) (below_depth (c.args.k.0 / 2) c.args.deep (omega (arith, (mergeable c.before.before.before.before.before.before.before).low)) (omega (arith, deep c.before.before.before.before.before.before.before))))

-- the parent's own cut
own : (c : (Lts.After-put_cut Tie.the-claims Reads.Pre Reads.Post)) → let a = c.args in CutPut (deep_of a.panel.now) a.panel.now (a.k.0 / 2) 0 c.put_cut.new.panel
own c = put_at c.requires.0 c.requires.1 c.put_cut.ensures

pub put_cut-requires-then-e-ne0 : goal.put_cut-requires-then-e-ne0
put_cut-requires-then-e-ne0 c =
    let e = c.edge_of-e.ensures in
    let w = work_put c.requires.0 (work_start c.requires.0) (own c.before.before.before.before.before) (omega arith) in
    (room_at c.requires.0 c.requires.1 w, sums_at c.requires.0 c.requires.1 w, omega (arith, c.if-e-ne0.true), omega (arith, ap depth_of e, edge_depth (c.args.k.0 / 2) (λ z. c.if-e-ne0.true (e ∙ z)), deep c.before.before.before.before.before.before.before.before.before), omega arith)

pub returns-then-e-ne0 : goal.returns-then-e-ne0
returns-then-e-ne0 c =
    merge_made c.requires.0 (mergeable c.before.before.before.before.before.before.before.before.before.before.before.before.before) c.requires.5
    (merging_both c.requires.0 (own c.before.before.before.before.before.before.before.before.before)
    (subst (λ x. CutPut (deep_of c.args.panel.now) c.put_cut.new.panel x 0 c.put_cut-then-e-ne0.new.panel) c.edge_of-e.ensures (put_at c.requires.0 c.requires.1 c.put_cut-then-e-ne0.ensures)))

pub returns-else-e-ne0 : goal.returns-else-e-ne0
returns-else-e-ne0 c =
    merge_made c.requires.0 (mergeable c.before.before.before.before.before.before.before.before.before) c.requires.5 (merging_alone c.requires.0 (own c.before.before.before.before.before) (sym c.edge_of-e.ensures ∙ c.if-e-ne0.false))
