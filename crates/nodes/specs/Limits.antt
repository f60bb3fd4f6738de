-- The depths of a panel: "D is the panel's greatest depth", 3 to 17.
use Rattle.std.specs.Prelude.{ℕ, ◌+◌, ◌^◌, ◌≤◌, ◌<◌}

abbrev pub least_depth : ℕ
least_depth = 3

abbrev pub greatest_depth : ℕ
greatest_depth = 17

-- the nodes that a call without a panel takes: from 2 up to 262,143
pub record KnownNode (n : ℕ) : Type 0 where
  pub low : 2 ≤ n
  pub high : n < 2 ^ (greatest_depth + 1)
