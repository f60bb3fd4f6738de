-- The four calls that change the open panel. Only our own functions speak of it.
use Rattle.std.specs.Prelude.{List, ℕ}
use Rattle.panel.specs.Calls.{Split, Merge, Pin, Unpin}

-- on panel s, the call of this kind with node k answers n and leaves t
pub data Change (s : List ℕ) (k : ℕ) : ℕ → ℕ → List ℕ → Type 0 where
  split : {n : ℕ} {t : List ℕ} → Split s k n t → Change s k 1 n t
  merge : {n : ℕ} {t : List ℕ} → Merge s k n t → Change s k 2 n t
  pin : {n : ℕ} {t : List ℕ} → Pin s k n t → Change s k 3 n t
  unpin : {n : ℕ} {t : List ℕ} → Unpin s k n t → Change s k 4 n t
