-- The tests are the parts of `Good`, one by one, at the depth that the length gives.
use mathlib.Core.Path.{◌≡◌, sym, subst}
use Prim.Native.Nat.{ℕ}
use mathlib.Core.List.{List}
use native.Mathlib.Omega.{arith}
use lib.Pow.{pow_mono}
use Rattle.std.specs.Prelude.{Option, Some}
use Rattle.panel.specs.inner.Judging.{Deep}
use Rattle.pins.specs.inner.Steps.{PinRoom}
use Rattle.panel.proofs.Lengths.{fits_pins}
use Rattle.panel.proofs.judging.good_depth.Goals as goal

-- where the length is right it gives the depth
room : {s : List ℕ} {r : Option ℕ} {d : ℕ} → Deep s r → r ≡ Some d → PinRoom d s
room {s} {r} {d} o h =
    let p : Deep s (Some d) = subst (Deep s) h o in
    subst (λ m. PinRoom m s) (sym p.1) (fits_pins _ _ p.0)

pub all_right-requires : goal.all_right-requires
all_right-requires c = (room c.depth_of.ensures c.in_ok-deep.ensures.ok_part).words

pub leaf_bit-requires : goal.leaf_bit-requires
leaf_bit-requires c =
    let r = (room c.depth_of.ensures c.in_ok-deep.ensures.ok_part).words in
    (r, omega (arith, pow_mono {i = 1} {j = c.in_ok-deep.deep} (omega (arith, r.low))))

pub cuts_good-requires : goal.cuts_good-requires
cuts_good-requires c = (room c.depth_of.ensures c.in_ok-deep.ensures.ok_part).words

pub pins_on_leaves-requires : goal.pins_on_leaves-requires
pins_on_leaves-requires c = room c.depth_of.ensures c.in_ok-deep.ensures.ok_part
