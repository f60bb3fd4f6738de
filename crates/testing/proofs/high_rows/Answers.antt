-- A word before row end is in the row of its depth.
use Prim.Native.Nat.{ℕ, ◌+◌, ◌^◌}
use native.Mathlib.Omega.{arith}
use borrow.Author.Rules.{rules}
use lib.Pow.{pow_mono, pow_pos}
use Rattle.nodes.specs.Depth.{depth_of}
use Rattle.nodes.proofs.Depths.{at_depth, at_below}
use Rattle.sums.specs.inner.Rows.{SumsBetween}
use Rattle.tables.proofs.Each.{says_each}
use Rattle.testing.proofs.high_rows.Goals as goal

pub returns : goal.returns
returns c =
    let a = c.args in
    let h = says_each (λ (d : ℕ). SumsBetween a.deep a.bytes.now (2 ^ d) (2 ^ (d + 1))) _ _ _ c.all.result c.all.ensures.ran (λ x q k. search rules) (λ x q k. search rules) in
    record {
      yes = λ e k lo hi. let d = at_depth lo in h.yes e (depth_of k) (omega arith) (grind (arith, pow_mono {i = a.end} {j = depth_of k})) k d.low (at_below d);
      no = λ e t. h.no e (λ d z l k lo hi. t k (omega (arith, pow_pos d)) (omega (arith, pow_mono {i = d + 1} {j = a.end} (omega arith))));
    }
