-- The edge neighbour's word says it, where there is one.
use mathlib.Core.Path.{sym, ap, ◌∙◌, subst}
use mathlib.Core.Logic.{◌≢◌}
use native.Mathlib.Omega.{arith}
use Rattle.nodes.specs.Depth.{depth_of}
use Rattle.nodes.specs.Neighbours.{edge}
use Rattle.nodes.proofs.Depths.{below_depth}
use Rattle.nodes.proofs.Edges.{edge_depth}
use Rattle.tables.proofs.Tables.{says_yes}
use Rattle.words.specs.Words.{leaf_bit}
use Rattle.cuts.specs.Cuts.{Cut}
use Rattle.leafwords.specs.inner.LeafWord.{CutWord}
use Rattle.leafwords.proofs.LeafWords.{outer_whole, border_across, mirrored_across, across_mirrored}
use Rattle.blocks.proofs.whole_across.Lts
use Rattle.blocks.proofs.whole_across.Reads
use Rattle.blocks.proofs.whole_across.Tie
use Rattle.blocks.proofs.whole_across.Goals as goal

pub edge_of-e-requires : goal.edge_of-e-requires
edge_of-e-requires c = omega (arith, below_depth c.args.q.0 16 (omega arith) (omega arith))

pub returns-then-e-eq0 : goal.returns-then-e-eq0
returns-then-e-eq0 c =
    rw c.if-e-eq0.true (says_yes (border_across c.requires.1 (outer_whole c.requires.3) (sym c.edge_of-e.ensures ∙ c.if-e-eq0.true)))

-- the edge neighbour is a node
some : (c : (Lts.Else1 Tie.the-claims Reads.Pre Reads.Post)) → edge c.args.q.0 ≢ 0
some c z = c.if-e-eq0.false (c.edge_of-e.ensures ∙ z)

pub word_below-requires : goal.word_below-requires
word_below-requires c =
    (c.requires.0, omega arith, omega (arith, ap depth_of c.edge_of-e.ensures, edge_depth c.args.q.0 (some c.before)))

pub returns-else-e-eq0 : goal.returns-else-e-eq0
returns-else-e-eq0 c =
    let m = c.mirrored.ensures in
    let y = subst (λ n. CutWord (Cut c.args.deep (leaf_bit c.args.deep c.args.bytes.now)) n c.word_below.result) c.edge_of-e.ensures c.word_below.ensures in
    record {
      yes = λ t. mirrored_across c.requires.1 (outer_whole c.requires.3) (some c.before.before.before) (outer_whole y) (m.yes t);
      no = λ t f. m.no t (across_mirrored c.requires.1 (outer_whole c.requires.3) (some c.before.before.before) (outer_whole y) f);
    }
