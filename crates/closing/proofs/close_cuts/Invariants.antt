use Prim.Native.Nat.{◌^◌, ◌≤◌}
use Rattle.words.specs.Words.{leaf_bit}
use Rattle.cuts.specs.Cuts.{Cut}
use Rattle.cuts.specs.inner.Closing.{OnlyLeaves}
use Rattle.cuts.proofs.Closing.{Closing}
use Rattle.closing.proofs.close_cuts.Given as goal

abbrev pub invariant-loop-d : goal.invariant-loop-d
invariant-loop-d l =
    (1 ≤ l.d) × OnlyLeaves l.deep l.initial.bytes l.bytes × Closing (Cut l.deep (leaf_bit l.deep l.initial.bytes)) (Cut l.deep (leaf_bit l.deep l.bytes)) (2 ^ l.d)
