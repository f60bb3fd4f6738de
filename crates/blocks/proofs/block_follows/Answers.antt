-- The word's first bit names a node higher up, the others those below its node.
use mathlib.Core.Path.{subst}
use Prim.Native.Nat.{◌+◌, ◌-◌}
use native.Mathlib.Omega.{arith}
use lib.ListN.{length}
use lib.Pow.{pow_mono}
use Rattle.tables.specs.inner.Says.{Says}
use Rattle.nodes.proofs.Depths.{at_from, depth_is, pow_next}
use Rattle.words.specs.Words.{leaf_bit}
use Rattle.words.proofs.Rooms.{blocks_of, Blocks, blocks, whole_words}
use Rattle.cuts.specs.Cuts.{Cut}
use Rattle.leafwords.specs.inner.LeafWord.{BelowFollow}
use Rattle.blocks.proofs.block_follows.Lts
use Rattle.blocks.proofs.block_follows.Reads
use Rattle.blocks.proofs.block_follows.Tie
use Rattle.blocks.proofs.block_follows.Goals as goal

start : (c : (Lts.Start Tie.the-claims Reads.Pre Reads.Post)) → Blocks c.args.deep (length c.args.bytes.now) (blocks_of c.args.deep)
start c = blocks c.requires.0 (omega arith)

here : (c : (Lts.Then1 Tie.the-claims Reads.Pre Reads.Post)) → let a = c.args in Blocks a.deep (length a.bytes.now) (blocks_of a.deep)
here c = start c.before.before.before

pub place_follows-requires : goal.place_follows-requires
place_follows-requires c = (c.requires.0, omega (arith, whole_words c.args.deep (c.args.deep - 6) (omega arith)))

pub below_follow-requires : goal.below_follow-requires
below_follow-requires c =
    let d = c.args.deep - 6 in
    let e = (here c.before).is in
    (c.requires.0, omega (arith, pow_mono {i = 1} {j = d} (omega arith)), omega (arith, depth_is {d = d} {n = blocks_of c.args.deep + c.args.j} (at_from (omega arith) (omega (arith, pow_next d)))))

pub returns-then-place_follows : goal.returns-then-place_follows
returns-then-place_follows c =
    let a = c.args in
    let s = subst (λ m. Says (BelowFollow (Cut a.deep (leaf_bit a.deep a.bytes.now)) (m + a.j)) c.below_follow.result) (here c.before.before).is c.below_follow.ensures in
    record {
      yes = λ t. record { place = c.place_follows.ensures.yes c.if-place_follows.true; below = s.yes t };
      no = λ t b. s.no t b.below;
    }
