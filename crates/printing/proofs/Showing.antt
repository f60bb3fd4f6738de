-- What the lines of a run speak of: the part that the code lends is the open panel's, and its leaves are few.
use mathlib.Core.Path.{◌≡◌, subst}
use mathlib.Core.List.{List}
use Prim.Native.Nat.{ℕ, ◌+◌, ◌^◌, ◌<◌}
use native.Mathlib.Nat.{pow-le-pow_right}
use native.Mathlib.Omega.{arith}
use lib.ListN.{length, take}
use Rattle.words.proofs.Slots.{wide, word_lt}
use Rattle.panel.specs.Panels.{size_of, deep_of}
use Rattle.panel.specs.Calls.{LeafNumbered}
use Rattle.steps.specs.Steps.{panel_in, leaves_in}
use Rattle.steps.specs.Holding.{Holds}
use Rattle.steps.proofs.Answering.{lent_small}
use Rattle.steps.proofs.Parts.{leaves_open, is_open}
use Rattle.printing.specs.Printing.{Numbers}
use Rattle.printing.specs.Printing.Numbers.{leaf}

-- the code's leaf i: the part lent is as long as the panel
pub leaf_numbers : {given b : List ℕ} {D i j k n : ℕ} → j ≡ length given + i → i < leaves_in D b → n ≡ size_of D → LeafNumbered (take n b) i k → Numbers given D b j i k
leaf_numbers {b = b} {i = i} {k = k} e h s l = leaf e h (subst (λ x. LeafNumbered (take x b) i k) s l)

-- a panel has fewer leaves than a number of 32 bits can hold
pub few_leaves : {D i : ℕ} {b : List ℕ} → Holds D b → i < leaves_in D b → i < 2 ^ 32
few_leaves {D} {i} {b} h l =
    let z = is_open D i b l in
    let s = panel_in D b in
    omega (arith, l, leaves_open D b z, word_lt (deep_of s) s 1, pow-le-pow_right {n = 2} (omega arith) {i = wide (deep_of s) 1} {j = 32} (omega (arith, lent_small h z, h.deep z)))
