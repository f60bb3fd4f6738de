-- The three tests are the three parts.
use mathlib.Core.Path.{◌≡◌, subst}
use Prim.Native.Nat.{◌+◌, ◌*◌, ◌/◌}
use native.Mathlib.Omega.{arith}
use Rattle.nodes.proofs.Depths.{below_depth, depth_left, depth_right}
use Rattle.words.specs.Words.{leaf_bit}
use Rattle.cuts.specs.Cuts.{Cut}
use Rattle.leafwords.specs.inner.LeafWord.{CutWord}
use Rattle.blocks.proofs.sides_follow.Goals as goal

pub overflow_mul-q : goal.overflow_mul-q
overflow_mul-q c = omega (arith, below_depth c.args.q.0 11 (omega arith) (omega arith))

pub half_across-requires : goal.half_across-requires
half_across-requires c =
    let q = c.args.q.0 in
    let e : q ≡ 2 * q / 2 = omega arith in
    (c.requires.0, omega arith, omega (arith, depth_left q (omega arith)), subst (λ n. CutWord (Cut c.args.deep (leaf_bit c.args.deep c.args.bytes.now)) n c.args.b) e c.requires.3)

pub overflow_mul-q-then-half_across : goal.overflow_mul-q-then-half_across
overflow_mul-q-then-half_across c = omega (arith, below_depth c.args.q.0 11 (omega arith) (omega arith))

pub overflow_add-q : goal.overflow_add-q
overflow_add-q c = omega (arith, below_depth c.args.q.0 11 (omega arith) (omega arith))

pub half_across-requires-then-half_across : goal.half_across-requires-then-half_across
half_across-requires-then-half_across c =
    let q = c.args.q.0 in
    let e : q ≡ (2 * q + 1) / 2 = omega arith in
    (c.requires.0, omega arith, omega (arith, depth_right q (omega arith)), subst (λ n. CutWord (Cut c.args.deep (leaf_bit c.args.deep c.args.bytes.now)) n c.args.b) e c.requires.3)
