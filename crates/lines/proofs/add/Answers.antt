-- Each number has at most 20 digits, so its part fits, and each part stands behind the ones before it.
use native.Mathlib.Omega.{arith}
use Rattle.lines.proofs.Texts.{digits_20, line_added}
use Rattle.lines.proofs.add.Goals as goal

pub put-at-requires : goal.put-at-requires
put-at-requires c = omega (arith, digits_20 c.decimal-m.ensures.len (omega (arith, c.ranges.a)), c.requires)

pub put-at-requires-2 : goal.put-at-requires-2
put-at-requires-2 c = omega (arith, digits_20 c.decimal-m.ensures.len (omega (arith, c.ranges.a)), c.requires)

pub put-at-requires-3 : goal.put-at-requires-3
put-at-requires-3 c = omega (arith, digits_20 c.decimal-m.ensures.len (omega (arith, c.ranges.a)), digits_20 c.decimal-n.ensures.len (omega (arith, c.ranges.b)), c.requires)

pub put-requires : goal.put-requires
put-requires c = omega (arith, digits_20 c.decimal-m.ensures.len (omega (arith, c.ranges.a)), digits_20 c.decimal-n.ensures.len (omega (arith, c.ranges.b)), c.requires)

pub returns : goal.returns
returns c = (
  omega (arith, digits_20 c.decimal-m.ensures.len (omega (arith, c.ranges.a)), digits_20 c.decimal-n.ensures.len (omega (arith, c.ranges.b))),
  line_added
      record { places = c.decimal-m.result; fewest = c.decimal-m.ensures.len; text = c.decimal-m.ensures.digits }
      record { places = c.decimal-n.result; fewest = c.decimal-n.ensures.len; text = c.decimal-n.ensures.digits }
      c.put-at.ensures.out_after
      c.put-at-2.ensures.out_after
      c.put-at-3.ensures.out_after
      c.put.ensures.out_after,
)
