-- The six rows that stand over the 64 leaf bits are the sums over them, or one differs.
use native.Mathlib.Omega.{arith}
use Rattle.std.proofs.lemmas.Bool.Decides.{nat_tests}
use Rattle.sums.proofs.LowSix.{six_same, same_six}
use Rattle.testing_six.proofs.six_right.Goals as goal

pub returns : goal.returns
returns c =
    let a = c.args in
    let s = c.six_rows-s.ensures in
    record {
      yes = λ e. same_six s.six a.m a.bytes.now a.j c.get_bytes.ensures.value (record {
        twos = grind (arith, nat_tests);
        fours = grind (arith, nat_tests);
        eights = grind (arith, nat_tests);
        sixteens = grind (arith, nat_tests);
        halves = grind (arith, nat_tests);
        all = grind (arith, nat_tests);
      });
      no = λ e t. let r = six_same s a.m a.bytes.now a.j c.get_bytes.ensures.value t in grind (arith, nat_tests);
    }
