-- Rounds, by 02, W1: the call that works through a run of records on one panel. s is the panel, rs the records, out the answers' buffer.
use Rattle.std.specs.Prelude.{◌≡◌, List, [], ◌∷◌, ◌++◌, ℕ, ◌/◌, ◌%◌, ◌≤◌, length, take, drop}
use Rattle.bits.specs.Bits.{Bytes}
use Rattle.tables.specs.Table.{Row, unless, Outcome}
use Rattle.panel.specs.Calls.{panel_rows, Split, Merge}
use Rattle.records.specs.Records.{kind, number, Fine}
use Rattle.records.specs.InTurn.{InTurn}

-- the single call that record r asks for answers n on panel s and leaves t: a split or a merge, and 9 where it is neither or a spare byte is not zero
pub data Single (r s : List ℕ) : ℕ → List ℕ → Type 0 where
  bad : (Fine 1 2 r → ⊥) → Single r s 9 s
  split : {n : ℕ} {t : List ℕ} → Fine 1 2 r → kind r ≡ 1 → Split s (number r) n t → Single r s n t
  merge : {n : ℕ} {t : List ℕ} → Fine 1 2 r → kind r ≡ 2 → Merge s (number r) n t → Single r s n t

-- the single calls in order, for the first records: their answers, and the panel after them, which holds bytes after each
abbrev pub InOrder : List ℕ → List ℕ → List ℕ → List ℕ → Type 0
InOrder rs s given t = InTurn (List ℕ) (λ r x n y. Single r x n y × Bytes y) rs s given t

-- what a round is lent to write
pub record Lent : Type 0 where
  pub panel : List ℕ
  pub answers : List ℕ

-- panel and answers, a byte for each record, are those of the single calls in order; the bytes past the last answer stay
pub record RoundAt (s rs out : List ℕ) (x : Lent) : Type 0 where
  pub in_order : InOrder rs s (take (length rs / 8) x.answers) x.panel
  pub long : length x.answers ≡ length out
  pub rest : drop (length rs / 8) x.answers ≡ drop (length rs / 8) out

-- 16: fewer answer bytes than whole records; 17: bytes left over
abbrev pub round_rows : List ℕ → List ℕ → List ℕ → List Row
round_rows s rs out = panel_rows s ++ unless 16 (length rs / 8 ≤ length out) ∷ unless 17 (length rs % 8 ≡ 0) ∷ []

abbrev pub Round : List ℕ → List ℕ → List ℕ → ℕ → Lent → Type 0
Round s rs out n x = Outcome (round_rows s rs out) Lent (RoundAt s rs out) (λ y. y ≡ record { panel = s; answers = out }) n x
