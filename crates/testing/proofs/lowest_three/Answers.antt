-- The rows are right where they are over each eight leaf bits.
use Prim.Native.Nat.{◌-◌}
use native.Mathlib.Omega.{arith}
use borrow.Author.Rules.{rules}
use Rattle.std.proofs.iter.Serving.{serving}
use Rattle.sums.specs.inner.Rows.{SevenAt}
use Rattle.words.proofs.Rooms.{quarter, quarter_of}
use Rattle.sums.proofs.LowThree.{sevens_sums, sums_seven}
use Rattle.tables.proofs.Each.{says_each}
use Rattle.testing.proofs.lowest_three.Goals as goal

pub all-requires-clause-callable : goal.all-requires-clause-callable
all-requires-clause-callable c =
    let q = quarter c.requires in
    grind serving

pub returns : goal.returns
returns c =
    let a = c.args in
    let s = says_each (SevenAt (quarter_of a.deep) a.bytes.now) _ _ _ c.all.result c.all.ensures.ran (λ x q k. search rules) (λ x q k. search rules) in
    let h = rw (quarter c.requires).is at s in
    record {
      yes = λ e. sevens_sums a.deep (a.deep - 3) (omega arith) a.bytes.now (λ i l. h.yes e i (omega arith) (omega arith));
      no = λ e t. h.no e (λ i z l. sums_seven a.deep (a.deep - 3) (omega arith) a.bytes.now i (omega arith) t);
    }
