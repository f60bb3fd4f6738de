-- Each step leaves what the next one asks, and together they are the steps of mending.
use mathlib.Core.Path.{◌≡◌}
use mathlib.Core.List.{List}
use Prim.Native.Nat.{ℕ, ◌-◌, ◌≤◌}
use native.Mathlib.Omega.{arith}
use lib.ListN.{length}
use Rattle.words.proofs.Rooms.{bounds}
use Rattle.pins.specs.inner.Steps.{PinRoom}
use Rattle.pins.proofs.PinBits.{pin_room_same}
use Rattle.panel.specs.Panels.{Fits}
use Rattle.panel.specs.Calls.{MendedBy}
use Rattle.panel.proofs.Lengths.{fits_pins}
use Rattle.mending.proofs.Mends.{mended_by}
use Rattle.mending.proofs.mend_right.Goals as goal

-- ---- the bytes have room after each step

room : (ys : List ℕ) {xs : List ℕ} {D : ℕ} → Fits xs D → length ys ≡ length xs → PinRoom D ys
room ys {xs} {D} f e = pin_room_same e (fits_pins xs D f)

pub begin-requires : goal.begin-requires
begin-requires c = (fits_pins c.args.panel.now c.args.deep c.requires).words

pub make_sums-requires : goal.make_sums-requires
make_sums-requires c = (room c.begin.new.panel c.requires (omega arith)).words

pub get_word-old-requires : goal.get_word-old-requires
get_word-old-requires c = let r = (room c.make_sums.new.bytes c.requires (omega arith)).words in (r, omega (arith, bounds r))

pub close_cuts-requires : goal.close_cuts-requires
close_cuts-requires c = (room c.make_sums.new.bytes c.requires (omega arith)).words

pub make_sums-requires-2 : goal.make_sums-requires-2
make_sums-requires-2 c = (room c.close_cuts.new.bytes c.requires (omega arith)).words

pub keep_on_leaves-requires : goal.keep_on_leaves-requires
keep_on_leaves-requires c = room c.make_sums-2.new.bytes c.requires (omega arith)

pub get_word-requires : goal.get_word-requires
get_word-requires c = let r = (room c.keep_on_leaves.new.bytes c.requires (omega arith)).words in (r, omega (arith, bounds r))

-- ---- what they leave

made : (c : goal.After-get_word) → (c.get_word-old.result ≤ c.get_word.result) × MendedBy c.args.panel.now (record { panel = c.keep_on_leaves.new.bytes; added = c.get_word.result - c.get_word-old.result })
made c =
    mended_by c.requires (record {
      a = c.begin.new.panel;
      b = c.make_sums.new.bytes;
      c = c.close_cuts.new.bytes;
      d = c.make_sums-2.new.bytes;
      begins = c.begin.ensures;
      first = c.make_sums.ensures;
      closed = c.close_cuts.ensures;
      second = c.make_sums-2.ensures;
      cleared = c.keep_on_leaves.ensures;
      before = c.get_word-old.ensures;
      after = c.get_word.ensures;
    })

pub overflow_sub-result : goal.overflow_sub-result
overflow_sub-result c = (made c).0

pub returns : goal.returns
returns c = (made c).1
