-- Half of the word of the edge neighbour's parent says it, where there is one.
use mathlib.Core.Path.{refl, sym, ap, ◌∙◌, subst}
use mathlib.Core.Logic.{◌≢◌}
use native.Mathlib.Omega.{arith}
use Rattle.nodes.specs.Depth.{depth_of}
use Rattle.nodes.specs.Neighbours.{edge}
use Prim.Native.Nat.{◌*◌, ◌/◌, ◌%◌, ◌^◌}
use Rattle.nodes.proofs.Depths.{below_depth, depth_half}
use Rattle.nodes.proofs.Edges.{edge_depth}
use Rattle.tables.proofs.Tables.{says_yes}
use Rattle.words.specs.Words.{leaf_bit}
use Rattle.cuts.specs.Cuts.{Cut}
use Rattle.leafwords.proofs.LeafWords.{Outer, outer_half, edge_two, border_across, mirrored_across, across_mirrored}
use Rattle.blocks.proofs.half_across.Lts
use Rattle.blocks.proofs.half_across.Reads
use Rattle.blocks.proofs.half_across.Tie
use Rattle.blocks.proofs.half_across.Goals as goal

pub edge_of-e-requires : goal.edge_of-e-requires
edge_of-e-requires c = omega (arith, below_depth c.args.n.0 16 (omega arith) (omega arith))

pub returns-then-e-eq0 : goal.returns-then-e-eq0
returns-then-e-eq0 c =
    says_yes (border_across (omega arith) (outer_half c.requires.3 c.args.n.0 refl) (sym c.edge_of-e.ensures ∙ c.if-e-eq0.true))

-- the edge neighbour is a node
some : (c : (Lts.Else1 Tie.the-claims Reads.Pre Reads.Post)) → edge c.args.n.0 ≢ 0
some c z = c.if-e-eq0.false (c.edge_of-e.ensures ∙ z)

pub word_below-x-requires : goal.word_below-x-requires
word_below-x-requires c =
    let l = edge_two c.args.n.0 (omega arith) (some c.before) in
    let e = c.edge_of-e.ensures in
    (c.requires.0, omega arith, omega (arith, depth_half c.edge_of-e.result (omega arith), ap depth_of e, edge_depth c.args.n.0 (some c.before)))

pub returns : goal.returns
returns c =
    let m = c.mirrored.ensures in
    let e = c.edge_of-e.result in
    let x = c.word_below-x.result in
    let o = outer_half c.requires.3 c.args.n.0 refl in
    let y = subst (λ n. Outer (Cut c.args.deep (leaf_bit c.args.deep c.args.bytes.now)) 1 n (x / 2 ^ (32 * (e % 2)))) c.edge_of-e.ensures (outer_half c.word_below-x.ensures e refl) in
    record {
      yes = λ t. mirrored_across (omega arith) o (some c.before.before.before.before) y (m.yes t);
      no = λ t f. m.no t (across_mirrored (omega arith) o (some c.before.before.before.before) y f);
    }
