-- The seven sums over the leaf byte, in one number, are the words that stand above it, or one differs.
use mathlib.Core.Path.{sym}
use Prim.Native.Nat.{◌+◌, ◌*◌, ◌<◌}
use native.Mathlib.Omega.{arith}
use Rattle.bits.proofs.Laws.{field_lt}
use Rattle.tables.proofs.Tables.{says_equal}
use Rattle.sums.proofs.LowThree.{same_seven, sevens_are, are_sevens}
use Rattle.testing.proofs.seven_right.Goals.{After-get_field-u}
use Rattle.testing.proofs.seven_right.Goals as goal

-- the words are small
small : (c : After-get_field-u) → (c.get_bytes-y.result < 256) × (c.get_field-z.result < 64) × (c.get_field-u.result < 16)
small c =
    let a = c.args in
    let lt = field_lt a.bytes.now in
    (c.get_bytes-y.ensures.fits, omega (arith, lt (10 * a.m + 6 * a.i) 6, c.get_field-z.ensures), omega (arith, lt (6 * a.m + 4 * a.i) 4, c.get_field-u.ensures))

pub overflow_mul-result : goal.overflow_mul-result
overflow_mul-result c = omega (arith, small (goal.at.overflow_mul-result c).After-get_field-u)

pub overflow_add-result : goal.overflow_add-result
overflow_add-result c = omega (arith, small (goal.at.overflow_add-result c).After-get_field-u)

pub overflow_mul-result-2 : goal.overflow_mul-result-2
overflow_mul-result-2 c = omega (arith, small (goal.at.overflow_mul-result-2 c).After-get_field-u)

pub overflow_add-result-2 : goal.overflow_add-result-2
overflow_add-result-2 c = omega (arith, small (goal.at.overflow_add-result-2 c).After-get_field-u)

pub returns : goal.returns
returns c =
    let (ly, lz, lu) = small (goal.at.returns c).After-get_field-u in
    let x = c.get_bytes.ensures.value in
    let s = c.seven-s.ensures in
    let y = c.get_bytes-y.ensures.value in
    let z = c.get_field-z.ensures in
    let u = c.get_field-u.ensures in
    says_equal c.seven-s.result (c.get_bytes-y.result + 256 * c.get_field-z.result + 16384 * c.get_field-u.result)
    (λ e. same_seven x y z u (sevens_are s ly lz lu e)) (λ t. are_sevens s ly lz lu (same_seven (sym x) (sym y) (sym z) (sym u) t))
