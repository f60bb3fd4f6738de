use mathlib.Core.Path.{◌≡◌}
use Prim.Native.Nat.{ℕ, ◌+◌, ◌-◌, ◌*◌, ◌^◌, ◌≤◌}
use Rattle.cuts.specs.inner.Closing.{CutsDrawn}
use Rattle.closing.proofs.wordwise.draw_words.Given as goal

-- the level's first word, and one past its last
pub record Ends (d end : ℕ) : Type 0 where
  pub is : end ≡ 2 * 2 ^ (d - 4)
  pub first : 2 ^ d ≡ 16 * 2 ^ (d - 4)
  pub last : 2 ^ (d + 1) ≡ 32 * 2 ^ (d - 4)

abbrev pub invariant-loop-m : goal.invariant-loop-m
invariant-loop-m l = Ends l.d l.m-end × (2 ^ (l.d - 4) ≤ l.m) × (l.m ≤ l.m-end) × CutsDrawn l.deep (2 ^ l.d) (16 * l.m) l.initial.bytes l.bytes
