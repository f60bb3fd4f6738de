-- The leaf bits begin at bit 3 * 2 ^ D, so the word below m starts at byte 8 * 2 ^ (D - 5) + 4 m.
use mathlib.Core.Path.{◌≡◌, ap, ◌∙◌}
use Prim.Native.Nat.{ℕ, ◌+◌, ◌-◌, ◌*◌, ◌%◌, ◌^◌}
use native.Mathlib.Omega.{arith}
use lib.Pow.{pow-add}
use Rattle.bits.proofs.Laws.{one_shl}
use Rattle.closing.proofs.wordwise.word_place.Goals as goal

-- the machine's shift
shift : (c : goal.After-struct_known-1) → 1 * 2 ^ (c.args.deep - 2) % 2 ^ 64 ≡ 8 * 2 ^ (c.args.deep - 5)
shift c =
    let D = c.args.deep in
    one_shl (D - 2) 64 (omega arith) ∙ ap (λ (x : ℕ). 2 ^ x) (let e : D - 2 ≡ D - 5 + 3 = omega arith in e) ∙ pow-add 2 (D - 5) 3 ∙ omega arith

pub returns : goal.returns
returns c = omega (arith, shift c)
