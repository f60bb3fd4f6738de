-- Each step leaves what the next one asks, and together they are the steps of a fresh panel.
use mathlib.Core.Path.{◌≡◌, ap, ap₂, ◌∙◌, subst}
use Prim.Native.Nat.{ℕ, ◌+◌, ◌-◌, ◌*◌, ◌%◌, ◌^◌, ◌≤◌}
use mathlib.Core.List.{List}
use native.Mathlib.Omega.{arith}
use lib.ListN.{length}
use lib.Pow.{pow_pos, pow_mono}
use Rattle.bits.proofs.Laws.{one_shl}
use Rattle.words.specs.inner.Working.{put_leaf_bit, Room}
use Rattle.sums.specs.inner.Summed.{Summed}
use Rattle.words.proofs.Rooms.{room_same}
use Rattle.panel.specs.Panels.{Fits}
use Rattle.panel.proofs.Lengths.{fits_small, fits_room}
use Rattle.opening.proofs.Freshness.{filled, depth_fits, fresh, half}
use Rattle.opening.proofs.make_fresh.Goals as goal

-- the code's 2 ^ (D - 1)
half_shift : (d : ℕ) → d ≤ 17 → 1 * 2 ^ (d - 1) % 2 ^ 64 ≡ 2 ^ (d - 1)
half_shift d h = one_shl (d - 1) 64 (omega arith)

-- writes keep the length, and so the room
room : {s : List ℕ} {D : ℕ} (t : List ℕ) → Fits s D → length t ≡ length s → Room D t
room {s} {D} t f e = room_same e (fits_room s D f)

pub put_word-requires : goal.put_word-requires
put_word-requires c = (room _ c.requires (omega arith), omega (arith, pow_mono {i = 1} {j = c.args.deep + 1} (omega arith)), depth_fits c.args.deep)

pub put_leaf_bit-requires : goal.put_leaf_bit-requires
put_leaf_bit-requires c = (room _ c.requires (omega arith), pow_pos c.args.deep, omega arith)

pub put_leaf_bit-requires-2 : goal.put_leaf_bit-requires-2
put_leaf_bit-requires-2 c =
    (room _ c.requires (omega arith), omega (arith, half_shift c.args.deep (fits_small c.requires), half c.requires, pow_pos (c.args.deep - 1)), omega arith)

pub make_sums-requires : goal.make_sums-requires
make_sums-requires c = room _ c.requires (omega arith)

pub returns : goal.returns
returns c =
    let D = c.args.deep in
    fresh c.requires (filled c.fill.ensures.after)
    (subst (λ x. Summed D x c.make_sums.new.bytes)
    (c.put_leaf_bit-2.ensures
    ∙ ap₂ (λ x p. put_leaf_bit D x p 1) (c.put_leaf_bit.ensures ∙ ap (λ x. put_leaf_bit D x 0 1) c.put_word.ensures) (half_shift D (fits_small c.requires)))
    c.make_sums.ensures)
