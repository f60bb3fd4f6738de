-- The word has the bytes, and zeros behind them.
use mathlib.Core.Path.{◌≡◌, ap, ◌∙◌, subst⁻¹}
use mathlib.Core.List.{List, ◌++◌}
use Prim.Native.Nat.{ℕ, ◌+◌, ◌-◌, ◌*◌, ◌^◌, ◌<◌}
use native.Mathlib.Omega.{arith}
use lib.ListN.{drop, take, replicate}
use borrow.Author.Rules.{rules}
use Rattle.std.specs.Int.{w64, from_le_bytes}
use Rattle.bits.proofs.Laws.{field_lt}
use Rattle.bits.proofs.Little.{word_of}
use Rattle.bits.proofs.get_bytes.Goals as goal

pub returns-clause-value : goal.returns-clause-value
returns-clause-value g c =
    let n = g.row.N in
    let i = c.args.i in
    let bs = c.args.bytes.now in
    let e : i + n - i ≡ n = omega arith in
    c.from_le_bytes.ensures
    ∙ ap (λ (xs : List ℕ). from_le_bytes w64 (xs ++ drop n (replicate 8 0))) (c.copy_from_slice.ensures.after ∙ ap (λ (k : ℕ). take k (drop i bs)) e)
    ∙ word_of bs (λ j. search rules) i n (omega arith) (omega arith)

pub returns-clause-fits : goal.returns-clause-fits
returns-clause-fits g c =
    let n = g.row.N in
    subst⁻¹ (λ (x : ℕ). x < 2 ^ (8 * n)) (returns-clause-value g c) (field_lt c.args.bytes.now (8 * c.args.i) (8 * n))
