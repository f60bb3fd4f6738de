-- The first field is 4 * deep exactly where both spare bits are zero and word 0 holds deep.
use mathlib.Core.Path.{sym, ◌∙◌}
use native.Mathlib.Omega.{arith}
use Rattle.tables.proofs.Tables.{says_equal}
use Rattle.words.proofs.Heads.{head_inside, head_right, right_head}
use Rattle.words.proofs.Rooms.{room_bytes}
use Rattle.testing.proofs.all_right.Goals as goal

pub get_field-head-requires : goal.get_field-head-requires
get_field-head-requires c =
    (room_bytes c.requires, omega (arith, head_inside c.args.deep c.args.bytes.now c.requires), omega arith, omega arith)

pub returns-then-head-deep : goal.returns-then-head-deep
returns-then-head-deep c =
    let a = c.args in
    let (x, y, w) = head_right a.deep a.bytes.now (sym c.get_field-head.ensures ∙ c.if-head-deep.true) in
    record {
      yes = λ e. record { bit_0 = x; bit_1 = y; depth = w; sums = c.sums_right.ensures.yes e };
      no = λ e s. c.sums_right.ensures.no e s.sums;
    }

pub returns-else-head-deep : goal.returns-else-head-deep
returns-else-head-deep c =
    let a = c.args in
    says_equal _ _ (λ e. absurd (c.if-head-deep.false e)) (λ s. c.get_field-head.ensures ∙ right_head a.deep a.bytes.now s.bit_0 s.bit_1 s.depth)
