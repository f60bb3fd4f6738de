-- The step of a record, on a buffer that is one good panel and no more, is its single call on that panel: so records in turn there are the single calls in order.
use mathlib.Core.Path.{◌≡◌, refl, sym, ap, ◌∙◌, subst₂}
use mathlib.Core.Logic.{◌⊎◌, inl, inr, ⊎_elim}
use mathlib.Core.List.{List, ◌++◌, append-nil}
use Prim.Native.Nat.{ℕ, ◌+◌, ◌*◌, ◌≤◌}
use native.Mathlib.Omega.{arith}
use lib.ListN.{length, drop}
use lib.Seq.{take_all, drop-length}
use Rattle.nodes.specs.Depth.{depth_of}
use Rattle.panel.specs.Panels.{size_of, deep_of, Good}
use Rattle.panel.specs.Calls.{Split, Merge}
use Rattle.records.specs.InTurn.{InTurn}
use Rattle.records.specs.InTurn.InTurn.{none, more}
use Rattle.records.proofs.InTurn.{record_behind, turns_keep, turns_longer, turns_then}
use Rattle.steps.specs.Steps.{panel_in, changed, Called, Step}
use Rattle.steps.specs.Steps.Called.{opened, refused, in_use, split, merge, pin, unpin}
use Rattle.steps.specs.Steps.Step.{bad, call}
use Rattle.steps.proofs.Keeping.{stays}
use Rattle.turns.specs.Runs.{StepBytes}
use Rattle.rounds.specs.Rounds.{Single, InOrder}
use Rattle.rounds.specs.Rounds.Single.{bad as bad-single, split as splits, merge as merges}

-- ---- a good panel stays one, and as long

pub single_good : {r s t : List ℕ} {n : ℕ} → Good s → Single r s n t → Good t × (length t ≡ length s)
single_good g (bad-single f) = (g, refl)
single_good g (splits f e o) = stays g (λ d. (d.good, d.long)) o
single_good g (merges f e o) = stays g (λ d. (d.good, d.long)) o

pub in_order_good : {rs s given t : List ℕ} → Good s → InOrder rs s given t → Good t × (length t ≡ length s)
in_order_good {s = s} g =
    turns_keep (λ x. Good x × (length x ≡ length s)) (λ r n x y h o. let k = single_good h.0 o.0 in (k.0, k.1 ∙ h.1)) (g, refl)

-- records that are sent in two rounds come to what they come to in one
pub in_order_then : {rs p s xs ys t u : List ℕ} → InOrder rs s xs t → 8 * length xs ≡ length rs → InOrder p t ys u → InOrder (rs ++ p) s (xs ++ ys) u
in_order_then {rs} {p} {xs = xs} a e b = turns_then (turns_longer p a (omega (arith, e))) (λ j _. record_behind rs p (length xs) j e) b

-- ---- a buffer that is one good panel

good_long : {D : ℕ} {s : List ℕ} → Good s → D ≡ deep_of s → length s ≡ size_of D
good_long g d = g.fits.long ∙ ap size_of (sym d)

module _ (D : ℕ) (s : List ℕ) (l : length s ≡ size_of D) where
  panel_whole : panel_in D s ≡ s
  panel_whole = take_all (size_of D) s (omega (arith, l))

  changed_whole : (t : List ℕ) → changed D s t ≡ t
  changed_whole t = ap (λ n. t ++ drop n s) (sym l) ∙ ap (λ x. t ++ x) (drop-length s) ∙ append-nil t

  called_single : {k c n E : ℕ} {u : List ℕ} → Called k D s c n E u → 1 ≤ c → c ≤ 2 → (E ≡ D) × (((c ≡ 1) × Split s k n u) ⊎ ((c ≡ 2) × Merge s k n u))
  called_single (opened o m) a b = absurd (omega arith)
  called_single (refused o z) a b = absurd (omega arith)
  called_single (in_use f m) a b = absurd (omega arith)
  called_single {k} (split {n = n} {t = t} o) a b = (refl, inl (refl, subst₂ (λ x y. Split x k n y) panel_whole (sym (changed_whole t)) o))
  called_single {k} (merge {n = n} {t = t} o) a b = (refl, inr (refl, subst₂ (λ x y. Merge x k n y) panel_whole (sym (changed_whole t)) o))
  called_single (pin o) a b = absurd (omega arith)
  called_single (unpin o) a b = absurd (omega arith)

  step_single : {r u : List ℕ} {n E : ℕ} → Step 1 2 r D s n E u → (E ≡ D) × Single r s n u
  step_single (bad f) = (refl, bad-single f)
  step_single (call f p) = let c = called_single p f.least f.most in (c.0, ⊎_elim (λ o. splits f o.0 o.1) (λ o. merges f o.0 o.1) c.1)

-- the panel is all of the buffer after each record too
pub runs_in_order : {rs given : List ℕ} {x y : ℕ × List ℕ} → Good x.1 → x.0 ≡ deep_of x.1 → InTurn (ℕ × List ℕ) (StepBytes 1 2) rs x given y
    → (y.0 ≡ deep_of y.1) × InOrder rs x.1 given y.1
runs_in_order {rs} {x = x} g d a = go a
  where
    go : {given : List ℕ} {y : ℕ × List ℕ} → InTurn (ℕ × List ℕ) (StepBytes 1 2) rs x given y → (y.0 ≡ deep_of y.1) × InOrder rs x.1 given y.1
    go none = (d, none)
    go (more r (o, b)) =
        let i = go r in
        let h = (in_order_good g i.1).0 in
        let k = step_single _ _ (good_long h i.0) o in
        (k.0 ∙ i.0 ∙ ap (λ n. depth_of n + 1) (sym (single_good h k.1).1), more i.1 (k.1, b))
