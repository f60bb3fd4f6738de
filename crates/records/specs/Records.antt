-- Request records of eight bytes, by "The request file" and 02, W1 and W7.
use Rattle.std.specs.Prelude.{◌≡◌, Bool, true, false, List, ℕ, ◌+◌, ◌*◌, ◌/◌, ◌≤◌, min, length, get_or, take, drop}
use Rattle.bits.specs.Little.{little}

-- kind (0 open, 1 split, 2 merge, 3 pin, 4 unpin)
abbrev pub kind : List ℕ → ℕ
kind r = get_or r 0 0

-- depth or node as four bytes, lowest first
abbrev pub number : List ℕ → ℕ
number r = little r 4 4

-- a record that isn't bad: it is whole, its kind is one from `first` to `last`, its three spare bytes are zero. The request file has the kinds 0 to 4
pub record Fine (first last : ℕ) (r : List ℕ) : Type 0 where
  pub whole : length r ≡ 8
  pub least : first ≤ kind r
  pub most : kind r ≤ last
  pub spare_1 : get_or r 1 0 ≡ 0
  pub spare_2 : get_or r 2 0 ≡ 0
  pub spare_3 : get_or r 3 0 ≡ 0

-- record i: a tail is shorter than eight bytes
abbrev pub record_at : List ℕ → ℕ → List ℕ
record_at rs i = take 8 (drop (8 * i) rs)

-- at most 4,096 records
abbrev pub most_records : ℕ
most_records = 4096

-- how many records a part of the input holds: a tail of 1 to 7 bytes is one more, only where the input ends with the part
abbrev pub records_in : Bool → List ℕ → ℕ
records_in true p = (length p + 7) / 8
records_in false p = length p / 8

-- how many are answered after a part, n of them before it: the limit is over all parts together, and later bytes are ignored
abbrev pub count_after : ℕ → Bool → List ℕ → ℕ
count_after n ends p = min most_records (n + records_in ends p)
