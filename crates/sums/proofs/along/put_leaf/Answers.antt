-- Where the bit is v already nothing is to do. Else the loop goes up from the bit: all sums are right but the one above node k.
use mathlib.Core.List.{List}
use mathlib.Core.Path.{◌≡◌, sym, ◌∙◌, subst}
use Prim.Native.Nat.{ℕ, ◌+◌, ◌*◌, ◌/◌, ◌%◌, ◌^◌, ◌≤◌}
use native.Mathlib.Omega.{arith}
use borrow.Author.Rules.{rules}
use Rattle.nodes.proofs.Depths.{pow_next, at_from}
use Rattle.words.specs.inner.Working.{Room}
use Rattle.words.proofs.Rooms.{bounds, room_same}
use Rattle.words.proofs.Slots.{word_lt}
use Rattle.sums.specs.inner.Summed.{Summed}
use Rattle.sums.proofs.Counts.{leaf_bits}
use Rattle.sums.proofs.Climbing.{Climbed, climb_none, climb_first, climb_takes, climb_fits, climb_step, climb_done, path_first, path_up, OfSum, of_sum}
use Rattle.sums.proofs.along.put_leaf.Lts
use Rattle.sums.proofs.along.put_leaf.Reads
use Rattle.sums.proofs.along.put_leaf.Tie
use Rattle.sums.proofs.along.put_leaf.Goals as goal

abbrev start : goal.At-loop-k → (Lts.Start Tie.the-claims Reads.Pre Reads.Post goal.the-invariant-loop-k goal.the-decreases-loop-k)
start c = c.before.before.before.before.before.before.before.before

-- a turn's bytes have room
room : (c : goal.At-loop-k) → Room (start c).args.deep c.loop-k.bytes
room c = room_same (c.loop-k.invariant.3.long ∙ c.put_leaf_bit.auto.bytes) (start c).requires.0

-- the word above
above : (c : goal.At-loop-k) → let l = c.loop-k in OfSum (start c).args.deep (l.k / 2) (l.top / 2) (l.w + 1) l.bytes
above c = let l = c.loop-k in of_sum (room c) (path_up l.invariant.0 l.invariant.2) (omega (arith, l.invariant.1))

pub leaf_bit-old-requires : goal.leaf_bit-old-requires
leaf_bit-old-requires c = search rules

pub returns-then-old-v : goal.returns-then-old-v
returns-then-old-v c =
    climb_none c.requires.0 c.requires.1 c.requires.2 c.requires.3 (sym c.leaf_bit-old.ensures ∙ c.if-old-v.true)

pub overflow_shl-k : goal.overflow_shl-k
overflow_shl-k c = omega (arith, bounds c.requires.0)

pub overflow_add-k : goal.overflow_add-k
overflow_add-k c = omega (arith, bounds c.requires.0)

pub loop-k-init : goal.loop-k-init
loop-k-init c =
    let D = c.args.deep in
    let b = bounds c.requires.0 in
    let e : 1 * 2 ^ D % 2 ^ 64 ≡ 2 ^ D = omega arith in (
      path_first (at_from (omega arith) (omega (arith, pow_next D))) (omega arith) (omega arith),
      omega arith,
      omega arith,
      climb_first c.requires.0 c.requires.1 c.requires.2 c.requires.3 c.leaf_bit-old.ensures (omega arith) c.put_leaf_bit.ensures,
    )

-- of the two bits one is 0
one : (c : goal.At-loop-k) → (start c).args.v + c.leaf_bit-old.result ≤ 1
one c =
    omega (arith, (start c).requires.3, c.if-old-v.false, c.leaf_bit-old.ensures, leaf_bits (start c).args.deep (start c).args.bytes.now (start c).args.p)

pub move_sum-requires : goal.move_sum-requires
move_sum-requires c =
    let h = above c.before in
    let l = c.loop-k in
    let t = climb_takes l.invariant.3 h.low h.high in (
      h.bytes,
      h.inside,
      h.roomy,
      omega arith,
      omega (arith, h.narrow),
      omega (arith, h.get, h.most, one c.before, climb_fits l.invariant.3 h.low h.high, word_lt (start c.before).args.deep l.bytes (l.k / 2)),
      omega (arith, h.get),
    )

-- the word above has taken the change over
up : (c : (Lts.After-move_sum Tie.the-claims Reads.Pre Reads.Post goal.the-invariant-loop-k goal.the-decreases-loop-k)) → Climbed (start c.before.before).args.deep c.leaf_bit-old.result (start c.before.before).args.v (c.loop-k.k / 2 / 2) c.put_leaf_bit.new.bytes c.move_sum.new.bytes
up c =
    let c = c in
    let h = above c.before.before in
    climb_step c.loop-k.invariant.3 h.low h.high (room c.before.before).long (h.moved _ _ _ c.move_sum.ensures)

pub returns-then-k-eq1 : goal.returns-then-k-eq1
returns-then-k-eq1 c =
    subst (λ (x : List ℕ). Summed (start c.before.before.before.before.before.before).args.deep x c.move_sum.new.bytes) c.put_leaf_bit.ensures (climb_done (up c.before.before.before.before) (omega (arith, c.if-k-eq1.true)))

pub loop-k-preserved : goal.loop-k-preserved
loop-k-preserved c =
    (path_up c.loop-k.invariant.0 c.loop-k.invariant.2, omega arith, omega (arith, c.if-k-eq1.false, (above c.before.before.before.before.before.before).low), up c.before.before.before.before)

pub overflow_shl-top : goal.overflow_shl-top
overflow_shl-top c = omega (arith, bounds c.requires.0)

pub overflow_add-w : goal.overflow_add-w
overflow_add-w c = omega (arith, (above c).narrow)

pub overflow_mul-k : goal.overflow_mul-k
overflow_mul-k c = omega (arith, (above c.before).small)

pub overflow_add-top : goal.overflow_add-top
overflow_add-top c = omega (arith, (above c.before).small)

pub loop-k-smaller : goal.loop-k-smaller
loop-k-smaller c = omega (arith, c.loop-k.invariant.2)
