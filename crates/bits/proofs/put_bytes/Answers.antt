-- The first bytes of the number's word are what the field is made of.
use mathlib.Core.Path.{◌≡◌, sym, ap, ap₂, ◌∙◌}
use mathlib.Core.List.{List, ◌++◌}
use Prim.Native.Nat.{ℕ, ◌+◌, ◌-◌}
use native.Mathlib.Omega.{arith}
use lib.ListN.{drop, take}
use borrow.Author.Rules.{rules}
use Rattle.std.specs.Int.{bytes_low_first}
use Rattle.bits.proofs.Little.{put_part, low_bytes}
use Rattle.bits.proofs.put_bytes.Goals as goal

pub returns : goal.returns
returns g c =
    let n = g.row.N in
    let a = c.args in
    let e : n + (8 - n) ≡ 8 = omega arith in
    let f : a.i + n - a.i ≡ n = omega arith in
    ap₂ (λ (xs : List ℕ) (k : ℕ). take a.i a.bytes.now ++ (xs ++ drop k (drop a.i a.bytes.now)))
    (c.copy_from_slice.ensures.after ∙ ap (take n) (c.to_le_bytes.ensures ∙ ap (λ (k : ℕ). bytes_low_first 0 k a.v) (sym e)) ∙ low_bytes 0 n (8 - n) a.v) f
    ∙ put_part a.bytes.now (λ j. search rules) a.i n a.v (omega arith)
