-- The five tests are the five parts.
use Prim.Native.Nat.{ℕ}
use mathlib.Core.Bool.{Bool}
use native.Mathlib.Omega.{arith}
use borrow.Author.Rules.{rules}
use borrow.Author.Count.{below_none, below_more}
use Rattle.tables.specs.inner.Says.{Says}
use Rattle.leafwords.specs.inner.LeafWord.{Same, InnerSame}
use Rattle.leafwords.proofs.inner_same.Goals as goal

abbrev Parts : ℕ → Type 0
Parts b = Same 8 8 3 5 b × Same 4 16 6 10 b × Same 2 32 12 20 b × Same 2 32 9 23 b × Same 2 32 15 17 b

says_inner : (b : ℕ) {r : Bool} → Says (Parts b) r → Says (InnerSame b) r
says_inner b s = record {
  yes = λ t.
      let p = s.yes t in
      record {
        middle = below_more _ 2 (below_more _ 1 (below_more _ 0 (below_none _) p.0) p.1) p.2;
        outer = p.3;
        inner = p.4;
      };
  no = λ t i. s.no t (i.middle 0 (omega arith), i.middle 1 (omega arith), i.middle 2 (omega arith), i.outer, i.inner);
}

pub returns-then-same-4 : goal.returns-then-same-4
returns-then-same-4 c = says_inner c.args.b (search rules)

pub returns-else-same-4 : goal.returns-else-same-4
returns-else-same-4 c = says_inner c.args.b (search rules)
