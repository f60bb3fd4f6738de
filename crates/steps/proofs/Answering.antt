-- How each `return` of a record's call makes the outcome that `Called` names: the part that the code lends is the panel's.
use mathlib.Core.Path.{◌≡◌, refl, sym, subst, subst₂}
use mathlib.Core.Logic.{◌≢◌, inl, inr}
use mathlib.Core.List.{List, ◌++◌}
use Prim.Native.Nat.{ℕ, ◌≤◌}
use native.Mathlib.Omega.{arith}
use lib.ListN.{take, drop}
use Rattle.tables.proofs.Tables.{is_done, is_refused}
use Rattle.panel.specs.Panels.{size_of, Fits}
use Rattle.panel.specs.Calls.{Fresh}
use Rattle.panel.proofs.Lengths.{fits_small}
use Rattle.records.specs.Records.{kind, number, Fine}
use Rattle.records.specs.inner.Kinds.{kind_number}
use Rattle.records.specs.declared.Kind.{Kind}
use Rattle.records.specs.declared.Kind.TheVariants.{Open, Split, Merge, Pin, Unpin}
use Rattle.steps.specs.Steps.{panel_in, changed, leaves_in, Called, Step}
use Rattle.steps.specs.Steps.Called.{opened, refused, split, merge, pin, unpin}
use Rattle.steps.specs.Steps.Step.{call}
use Rattle.steps.specs.inner.Changing.{Change}
use Rattle.steps.specs.inner.Changing.Change.{split as splits, merge as merges, pin as pins, unpin as unpins}
use Rattle.steps.specs.Holding.{Holds}
use Rattle.steps.proofs.Parts.{none_right, held_fits}

-- ---- open

-- the bytes fit no panel of the asked depth
pub not_open : (k D : ℕ) (b : List ℕ) → (Fits (panel_in k b) k → ⊥) → Called k D b 0 1 D b
not_open k D b f = refused {t = panel_in k b} (is_refused (λ e. omega arith) (inl (f, refl)) refl) (λ e. omega arith)

-- they do, and the part that is lent is theirs
pub open_done : {k D n : ℕ} {b t : List ℕ} → n ≡ size_of k → Fits (panel_in k b) k → leaves_in D b ≤ 2 → Fresh k t → Called k D b 0 0 k (t ++ drop n b)
open_done {k} {D} {b = b} {t = t} e f l q =
    subst (λ x. Called k D b 0 0 k (t ++ drop x b)) (sym e) (opened (is_done (inr (f, refl)) q) l)

-- ---- the calls that change the open panel

called_change : {k D c m : ℕ} {b t : List ℕ} → Change (panel_in D b) k c m t → Called k D b c m D (changed D b t)
called_change (splits p) = split p
called_change (merges p) = merge p
called_change (pins p) = pin p
called_change (unpins p) = unpin p

-- no panel is open, and no bytes have no right length
pub none_called : (j : Kind) (k : ℕ) (b : List ℕ) → 1 ≤ kind_number j → Called k 0 b (kind_number j) 1 0 b
none_called Open k b h = absurd (omega arith)
none_called Split k b h = split (is_refused (λ y. omega arith) (inl (none_right, refl)) refl)
none_called Merge k b h = merge (is_refused (λ y. omega arith) (inl (none_right, refl)) refl)
none_called Pin k b h = pin (is_refused (λ y. omega arith) (inl (none_right, refl)) refl)
none_called Unpin k b h = unpin (is_refused (λ y. omega arith) (inl (none_right, refl)) refl)

-- the part that is lent is the panel's
pub lent_called : {k D c m n : ℕ} {b t : List ℕ} → n ≡ size_of D → Change (take n b) k c m t → Called k D b c m D (t ++ drop n b)
lent_called {k} {D} {c} {m} {b = b} {t = t} e p =
    subst (λ x. Change (take x b) k c m t → Called k D b c m D (t ++ drop x b)) (sym e) called_change p

pub lent_small : {D : ℕ} {b : List ℕ} → Holds D b → D ≢ 0 → D ≤ 17
lent_small h z = fits_small (held_fits h z)

-- ---- the record

pub step_call : {first last : ℕ} {r b u : List ℕ} {k D c n E : ℕ} → Fine first last r → k ≡ number r → c ≡ kind r → Called k D b c n E u → Step first last r D b n E u
step_call {r = r} {b = b} {u = u} {D = D} {n = n} {E = E} f e h p = call f (subst₂ (λ x y. Called x D b y n E u) e h p)
