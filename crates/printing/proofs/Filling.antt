-- The invariant of `fill`: the text so far is that of the lines so far, and each took no more than its room.
use mathlib.Core.Path.{◌≡◌, sym, ◌∙◌, subst⁻¹}
use mathlib.Core.List.{List}
use Prim.Native.Nat.{ℕ, ◌+◌, ◌-◌, ◌*◌, ◌≤◌, ◌<◌}
use native.Mathlib.Omega.{arith}
use lib.ListN.{length, take}
use lib.Seq.{length-take-le}
use Rattle.io.specs.Counts.{IsPrefixLen}
use Rattle.lines.specs.inner.Adding.{longest, Added}
use Rattle.printing.specs.Printing.{Numbers, Lines}
use Rattle.printing.specs.Printing.Lines.{more}

pub record Filling (given b : List ℕ) (D from : ℕ) (block₀ block : List ℕ) (n upto size : ℕ) : Type 0 where
  pub forward : from ≤ upto
  pub within : upto ≤ n
  pub room : size ≤ longest * (upto - from)
  pub inside : size ≤ length block
  pub long : length block ≡ length block₀
  pub text : Lines given D b from upto (take size block)

-- a line more
pub filled_more :
    {given b block₀ block after : List ℕ} {D from n upto size to x y : ℕ} → Filling given b D from block₀ block n upto size → upto < n → size + longest ≤ length block
    → Numbers given D b upto x y → length after ≡ length block → (to ≤ size + longest) × Added x y (take size block) (take to after)
    → Filling given b D from block₀ after n (upto + 1) to
filled_more {given} {b} {D = D} {from = from} {upto = upto} h l m w k a =
    record {
      forward = omega (arith, h.forward);
      within = omega arith;
      room = omega (arith, h.room, h.forward, a.0);
      inside = omega (arith, a.0);
      long = k ∙ h.long;
      text = subst⁻¹ (Lines given D b from (upto + 1)) a.1.all (more h.text w a.1.line);
    }

-- bytes that lie within a list, as a part of it is lent by
pub counts : (n : ℕ) (l : List ℕ) → n ≤ length l → IsPrefixLen n l
counts n l h = (h, sym (length-take-le n l h))

-- what stands in the block in the end
pub filled_counts : {given b block₀ block : List ℕ} {D from n upto size : ℕ} → Filling given b D from block₀ block n upto size → IsPrefixLen size block
filled_counts {block = block} {size = size} h = counts size block h.inside
