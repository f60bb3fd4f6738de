-- So many records of a part, the last of them the tail, have so many bytes.
use Rattle.std.proofs.Common.{Bool, true, false, List, ℕ, ◌+◌, ◌*◌, ◌≤◌, length, arith}
use Rattle.records.specs.Records.{records_in}

pub in_room : (ends : Bool) (p : List ℕ) (n : ℕ) → n ≤ records_in ends p → 8 * n ≤ length p + 7
in_room true p n h = omega arith
in_room false p n h = omega arith
