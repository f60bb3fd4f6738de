-- What is printed has one text, in whatever blocks: each line's two numbers are settled, and so is the text of two numbers.
use mathlib.Core.Path.{◌≡◌, refl, ap₂, subst, subst⁻¹, subst₂}
use mathlib.Core.List.{List, ◌++◌, append_assoc, append-nil}
use Prim.Native.Nat.{ℕ, ◌+◌, ◌≤◌}
use native.Mathlib.Omega.{arith}
use Rattle.panel.specs.Calls.{LeafNumbered}
use Rattle.panel.proofs.GoodPanels.{number_once}
use Rattle.steps.specs.Steps.{panel_in}
use Rattle.steps.specs.Holding.{Holds}
use Rattle.steps.proofs.Parts.{is_open}
use Rattle.lines.specs.Lines.{Line}
use Rattle.lines.proofs.Texts.{line_one}
use Rattle.printing.specs.Printing.{Numbers, Lines}
use Rattle.printing.specs.Printing.Numbers.{answer, leaf}
use Rattle.printing.specs.Printing.Lines.{none, more}

module _ {given b : List ℕ} {D : ℕ} (h : Holds D b) where
  numbers_one : {j x y v w : ℕ} → Numbers given D b j x y → Numbers given D b j v w → (x ≡ v) × (y ≡ w)
  numbers_one (answer l) (answer m) = (refl, refl)
  numbers_one (answer l) (leaf e m q) = absurd (omega (arith, l, e))
  numbers_one (leaf e l p) (answer m) = absurd (omega (arith, m, e))
  numbers_one (leaf {i = i} {k = k} e l p) (leaf {i = o} {k = m} f r q) =
      let n : i ≡ o = omega (arith, e, f) in
      (n, number_once (panel_in D b) (h.good (is_open D i b l)) o k m (subst (λ x. LeafNumbered (panel_in D b) x k) n p) q)

  forward : {from j : ℕ} {t : List ℕ} → Lines given D b from j t → from ≤ j
  forward none = omega arith
  forward (more l n u) = omega (arith, forward l)

  -- the same lines have the same text
  pub lines_one : {from i j : ℕ} {t u : List ℕ} → Lines given D b from i t → Lines given D b from j u → i ≡ j → t ≡ u
  lines_one none none e = refl
  lines_one none (more l n u) e = absurd (omega (arith, forward l))
  lines_one (more l n u) none e = absurd (omega (arith, forward l))
  lines_one (more {j = i} {x = x} {y = y} {u = u} l n p) (more {j = j} {x = v} {y = w} m o q) e =
      let k : i ≡ j = omega (arith, e) in
      let a = numbers_one (subst (λ z. Numbers given D b z x y) k n) o in
      ap₂ (λ s z. s ++ z) (lines_one l m k) (line_one (subst₂ (λ s z. Line s z u) a.0 a.1 p) q)

-- blocks in turn are the lines from the first one's first to the last one's last
pub lines_then : {given b x y : List ℕ} {D i j k : ℕ} → Lines given D b i j x → Lines given D b j k y → Lines given D b i k (x ++ y)
lines_then {given} {b} {x} {D = D} {i = i} {j = j} l a = go a
  where
    go : {y : List ℕ} {k : ℕ} → Lines given D b j k y → Lines given D b i k (x ++ y)
    go none = subst⁻¹ (Lines given D b i j) (append-nil x) l
    go (more {j = k} {t = t} {u = u} m n p) = subst (Lines given D b i (k + 1)) (append_assoc x t u) (more (go m) n p)
