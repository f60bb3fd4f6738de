-- The loop's invariant: `on` says whether the pins of each byte passed lie on leaf bits.
use native.Mathlib.Omega.{arith}
use Rattle.tables.proofs.Tables.{says_yes}
use Rattle.pins.proofs.PinBytes.{eighth, bytes_all, all_bytes}
use Rattle.pins.proofs.testing.pins_on_leaves.Goals as goal

pub loop-j-init : goal.loop-j-init
loop-j-init c = (eighth c.requires.words, says_yes (λ i h. absurd (omega arith)))

pub returns : goal.returns
returns c =
    let l = c.loop-j.invariant in
    let r = c.requires.words.low in
    record {
      yes = λ t. bytes_all _ r _ (λ j h. l.1.yes t j (omega (arith, l.0)));
      no = λ t f. l.1.no t (λ j h. all_bytes _ r _ f j (omega (arith, l.0)));
    }
