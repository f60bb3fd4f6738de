-- The five levels are the five parts.
use Prim.Native.Nat.{ℕ}
use mathlib.Core.Bool.{Bool}
use native.Mathlib.Omega.{arith}
use borrow.Author.Rules.{rules}
use borrow.Author.Count.{below_none, below_more}
use Rattle.tables.specs.inner.Says.{Says}
use Rattle.leafwords.specs.inner.LeafWord.{Beside, ParentsBeside}
use Rattle.leafwords.proofs.parents_beside.Goals as goal

abbrev Parts : ℕ → Type 0
Parts b = Beside 16 1 b × Beside 8 2 b × Beside 4 4 b × Beside 2 8 b × Beside 1 16 b

says_parents : (b : ℕ) {r : Bool} → Says (Parts b) r → Says (ParentsBeside b) r
says_parents b s = record {
  yes = λ t.
      let p = s.yes t in
      below_more _ 4 (below_more _ 3 (below_more _ 2 (below_more _ 1 (below_more _ 0 (below_none _) p.0) p.1) p.2) p.3) p.4;
  no = λ t f. s.no t (f 0 (omega arith), f 1 (omega arith), f 2 (omega arith), f 3 (omega arith), f 4 (omega arith));
}

pub returns-then-beside-4 : goal.returns-then-beside-4
returns-then-beside-4 c = says_parents c.args.b (search rules)

pub returns-else-beside-4 : goal.returns-else-beside-4
returns-else-beside-4 c = says_parents c.args.b (search rules)
