-- One request record on a lent buffer, by "The request file" and 02, W1, W4 and W7. b is the lent buffer; D is the depth of the panel that is open
-- at the buffer's start, and 0 where none is.
use Rattle.std.specs.Prelude.{◌≢◌, List, ◌++◌, ℕ, zero, suc, ◌≤◌, ◌<◌, take, drop}
use Rattle.records.specs.Records.{kind, number, Fine}
use Rattle.panel.specs.Panels.{size_of, Fits, leaf_count}
use Rattle.panel.specs.Calls.{Open, Split, Merge, Pin, Unpin}

-- the bytes that a panel of depth D takes in the buffer, or all where they are too few
abbrev pub panel_in : ℕ → List ℕ → List ℕ
panel_in D b = take (size_of D) b

-- the buffer with these bytes changed to t
abbrev pub changed : ℕ → List ℕ → List ℕ → List ℕ
changed D b t = t ++ drop (size_of D) b

-- how many leaves the open panel has, and 0 where none is open
abbrev pub leaves_in : ℕ → List ℕ → ℕ
leaves_in zero b = 0
leaves_in (suc d) b = leaf_count (panel_in (suc d) b)

-- the call of this kind with depth or node k answers n, and leaves the panel of depth E in the buffer u. Its answer is 18, or that of the
-- call on the panel's bytes: where none is open there are no bytes, and their length is wrong for every depth
pub data Called (k D : ℕ) (b : List ℕ) : ℕ → ℕ → ℕ → List ℕ → Type 0 where
  -- an open is done over no panel, or over one of two leaves
  opened : {t : List ℕ} → Open (panel_in k b) k 0 t → leaves_in D b ≤ 2 → Called k D b 0 0 k (changed k b t)
  -- a refused open keeps the panel before it
  refused : {n : ℕ} {t : List ℕ} → Open (panel_in k b) k n t → n ≢ 0 → Called k D b 0 n D b
  -- 18 is tested after 1: the open would be done, but the open panel has more than two leaves. It is kept
  in_use : Fits (panel_in k b) k → 2 < leaves_in D b → Called k D b 0 18 D b
  split : {n : ℕ} {t : List ℕ} → Split (panel_in D b) k n t → Called k D b 1 n D (changed D b t)
  merge : {n : ℕ} {t : List ℕ} → Merge (panel_in D b) k n t → Called k D b 2 n D (changed D b t)
  pin : {n : ℕ} {t : List ℕ} → Pin (panel_in D b) k n t → Called k D b 3 n D (changed D b t)
  unpin : {n : ℕ} {t : List ℕ} → Unpin (panel_in D b) k n t → Called k D b 4 n D (changed D b t)

-- record r, of the kinds from `first` to `last`, answers n, and leaves the panel of depth E in the buffer u: refusal 9 is tested first
pub data Step (first last : ℕ) (r : List ℕ) (D : ℕ) (b : List ℕ) : ℕ → ℕ → List ℕ → Type 0 where
  bad : (Fine first last r → ⊥) → Step first last r D b 9 D b
  call : {n E : ℕ} {u : List ℕ} → Fine first last r → Called (number r) D b (kind r) n E u → Step first last r D b n E u
