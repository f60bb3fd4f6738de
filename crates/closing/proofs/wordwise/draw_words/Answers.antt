-- The words passed are drawn; each has the next sixteen nodes of the level.
use mathlib.Core.Path.{◌≡◌, ap, ◌∙◌, subst}
use Prim.Native.Nat.{ℕ, ◌+◌, ◌-◌, ◌*◌, ◌%◌, ◌^◌}
use native.Mathlib.Omega.{arith}
use lib.Pow.{pow-add, pow_mono}
use Rattle.bits.proofs.Laws.{one_shl}
use Rattle.nodes.proofs.Depths.{pow_next, at_from, depth_is}
use Rattle.cuts.specs.inner.Closing.{CutsDrawn}
use Rattle.closing.proofs.Drawing.{drawn_none, drawn_then, only_room}
use Rattle.closing.proofs.wordwise.draw_words.Goals as goal

pub loop-m-init : goal.loop-m-init
loop-m-init c =
    let a = c.args in
    let d = a.d in
    let small = pow_mono {i = d - 4} {j = 12} (omega (arith, c.requires.0.high, c.requires.2)) in
    let first : 2 ^ d ≡ 16 * 2 ^ (d - 4) = ap (λ (x : ℕ). 2 ^ x) (let e : d ≡ d - 4 + 4 = omega (arith, c.requires.1, c.requires.2) in e) ∙ pow-add 2 (d - 4) 4 ∙ omega arith in
    let start : 1 * 2 ^ (d - 4) % 4294967296 ≡ 2 ^ (d - 4) = one_shl (d - 4) 32 (omega (arith, c.requires.0.high, c.requires.2)) in
    let stop : 2 * 2 ^ (d - 4) % 4294967296 ≡ 2 * 2 ^ (d - 4) = omega (arith, small) in (
      record { is = stop; first = first; last = omega (arith, first, pow_next d) },
      omega (arith, start),
      omega (arith, start, stop),
      subst (λ (n : ℕ). CutsDrawn a.deep (2 ^ d) n a.bytes.now a.bytes.now) (let e : 2 ^ d ≡ 16 * (1 * 2 ^ (d - 4) % 4294967296) = omega (arith, start, first) in e) (drawn_none a.deep (2 ^ d) a.bytes.now),
    )

pub draw_word-requires : goal.draw_word-requires
draw_word-requires c =
    let i = c.loop-m.invariant in
    let d = c.args.d in
    (only_room c.requires.0 i.3.only, omega (arith, i.1, pow_mono {i = 1} {j = d - 4} (omega (arith, c.requires.1, c.requires.2))), omega (arith, c.requires.1, c.requires.2, depth_is (at_from {d = d - 4} i.1 (omega (arith, i.0, pow_next (d - 4))))))

pub loop-m-preserved : goal.loop-m-preserved
loop-m-preserved c =
    let i = c.loop-m.invariant in
    let m = c.loop-m.m in
    let next = drawn_then c.args.d (omega arith) (omega (arith, i.0, i.1)) (omega arith) (omega (arith, i.0)) i.3 c.draw_word.ensures in
    (i.0, omega (arith, i.1), omega arith, subst (λ (n : ℕ). CutsDrawn c.args.deep (2 ^ c.args.d) n c.args.bytes.now c.draw_word.new.bytes) (let e : 16 * m + 16 ≡ 16 * (m + 1) = omega arith in e) next)
