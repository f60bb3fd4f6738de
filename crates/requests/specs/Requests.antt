-- Runs of request records on a lent buffer, by "The request file". b is the lent buffer; D is the depth of the panel that is open
-- at the buffer's start, and 0 where none is.
use Rattle.std.specs.Prelude.{◌≡◌, Bool, true, false, List, [], ◌++◌, ℕ, ◌%◌, min, length, take, drop}
use Rattle.std.proofs.Math.Seq.{slice}
use Rattle.records.specs.Records.{count_after}
use Rattle.turns.specs.Runs.{Runs}

-- one part p of the input, which ends with it or goes on: `before` records are answered before it, in the answers' buffer out, and the panel of depth C is
-- open. After it `count` are: every record of the part, up to the limit, or as many as the answers' buffer has room for. Its bytes in front of the
-- part's answers and behind them stay as before
pub record Part (p : List ℕ) (ends : Bool) (before C : ℕ) (b out : List ℕ) (count D : ℕ) (t after : List ℕ) : Type 0 where
  pub all : count ≡ min (count_after before ends p) (length out)
  pub runs : Runs 0 4 p C b (slice before count after) D t
  pub long : length after ≡ length out
  pub front : take before after ≡ take before out
  pub rest : drop count after ≡ drop count out

-- the whole input as one part: none is answered before it, and no panel is open
abbrev pub Run : (rs b out : List ℕ) (count D : ℕ) (t after : List ℕ) → Type 0
Run rs b out count D t after = Part rs true 0 0 b out count D t after

-- parts in turn, from nothing, each cut between records: their bytes together, how many records they answer, and what they leave
pub data Parts (b out : List ℕ) : List ℕ → ℕ → ℕ → List ℕ → List ℕ → Type 0 where
  none : Parts b out [] 0 0 b out
  more :
      {rs p t u given after : List ℕ} {n m C D : ℕ} → Parts b out rs n C t given → length p % 8 ≡ 0 → Part p false n C t given m D u after
      → Parts b out (rs ++ p) m D u after

-- what the run of some input comes to, on some buffer, with room for every answer: the program reads its input itself, and no contract can name it
pub record Ended (given : List ℕ) (D : ℕ) (t : List ℕ) : Type 0 where
  pub input : List ℕ
  pub before : List ℕ
  pub runs : Runs 0 4 input 0 before given D t
  pub all : length given ≡ count_after 0 true input
