-- The rows are right where they are over each 64 leaf bits.
use Prim.Native.Nat.{◌-◌}
use native.Mathlib.Omega.{arith}
use borrow.Author.Rules.{rules}
use Rattle.std.proofs.iter.Serving.{serving}
use Rattle.sums.specs.inner.Rows.{SixAt}
use Rattle.words.proofs.Rooms.{blocks, blocks_of}
use Rattle.sums.proofs.LowSix.{six_sums, sums_six}
use Rattle.tables.proofs.Each.{says_each}
use Rattle.testing_six.proofs.lowest_six.Goals as goal

pub all-requires-clause-callable : goal.all-requires-clause-callable
all-requires-clause-callable c =
    let b = blocks c.requires.0 c.requires.1 in
    grind serving

pub returns : goal.returns
returns c =
    let a = c.args in
    let s = says_each (SixAt (blocks_of a.deep) a.bytes.now) _ _ _ c.all.result c.all.ensures.ran (λ x q k. search rules) (λ x q k. search rules) in
    let h = rw (blocks c.requires.0 c.requires.1).is at s in
    record {
      yes = λ e. six_sums a.deep (a.deep - 6) (omega arith) a.bytes.now (λ j l. h.yes e j (omega arith) (omega arith));
      no = λ e t. h.no e (λ j z l. sums_six a.deep (a.deep - 6) (omega arith) a.bytes.now j (omega arith) t);
    }
