-- What every record keeps: the open panel stays good, and a refusal changes nothing. Where none is open, all but an open is refused.
use mathlib.Core.Path.{◌≡◌, refl, sym, ap, ◌∙◌, subst}
use mathlib.Core.Logic.{◌≢◌, ⊎_elim}
use mathlib.Core.List.{List}
use Prim.Native.Nat.{ℕ, zero, suc, ◌+◌, ◌<◌}
use native.Mathlib.Decide.{ℕ_discrete}
use native.Mathlib.Omega.{arith}
use lib.ListN.{length}
use Rattle.nodes.specs.Depth.{depth_of}
use Rattle.tables.specs.Table.{Row, Outcome}
use Rattle.panel.specs.Panels.{size_of, Fits, deep_of, Good}
use Rattle.panel.proofs.Pinning.{put_stays}
use Rattle.records.specs.Records.{kind, number, Fine}
use Rattle.steps.specs.Steps.{panel_in, changed, Called, Step}
use Rattle.steps.specs.Steps.Called.{opened, refused, in_use, split, merge, pin, unpin}
use Rattle.steps.specs.Steps.Step.{bad, call}
use Rattle.std.proofs.Common.{Option, None, Some}
use Rattle.steps.specs.Holding.{Holds, depth_or_0, Keeps}
use Rattle.steps.proofs.Exactness.{open_answers}
use Rattle.steps.proofs.Parts.{no_room, none_right, panel_changed, same_changed, held_length}

-- ---- a refusal changes nothing

called_refused : {k D c n E : ℕ} {b u : List ℕ} → Called k D b c n E u → n ≢ 0 → (E ≡ D) × (u ≡ b)
called_refused (opened p l) z = absurd (z refl)
called_refused (refused p z) _ = (refl, refl)
called_refused (in_use f l) _ = (refl, refl)
called_refused {D = D} {b = b} (split {t = t} p) z = (refl, same_changed D b t (p.refused z))
called_refused {D = D} {b = b} (merge {t = t} p) z = (refl, same_changed D b t (p.refused z))
called_refused {D = D} {b = b} (pin {t = t} p) z = (refl, same_changed D b t (p.refused z))
called_refused {D = D} {b = b} (unpin {t = t} p) z = (refl, same_changed D b t (p.refused z))

-- a refused record keeps the panel before it, and every byte of the buffer
pub step_refused : {first last : ℕ} {r b u : List ℕ} {D n E : ℕ} → Step first last r D b n E u → n ≢ 0 → (E ≡ D) × (u ≡ b)
step_refused (bad f) z = (refl, refl)
step_refused (call f p) z = called_refused p z

-- ---- the open panel stays good

pub holds_none : (b : List ℕ) → Holds 0 b
holds_none b = record { good = λ z. absurd (z refl); deep = λ z. absurd (z refl) }

-- a good panel of depth D put at the start of the buffer
pub holds_changed : (D : ℕ) (b t : List ℕ) → Good t → deep_of t ≡ D → length t ≡ size_of D → Holds D (changed D b t)
holds_changed D b t g d l =
    let e = panel_changed D b t l in
    record { good = λ _. subst Good (sym e) g; deep = λ _. sym d ∙ ap deep_of (sym e) }

-- the panel after a call by a table is good, and as long as before
module _ {rows : List Row} {Done : List ℕ → Type 0} {s : List ℕ} {n : ℕ} {t : List ℕ} where
  pub stays : Good s → (Done t → Good t × (length t ≡ length s)) → Outcome rows (List ℕ) Done (λ x. x ≡ s) n t → Good t × (length t ≡ length s)
  stays g f o = go (ℕ_discrete n 0)
    where
      go : Dec (n ≡ 0) → Good t × (length t ≡ length s)
      go (yes z) = f (o.done z)
      go (no z) = (subst Good (sym (o.refused z)) g, ap length (o.refused z))

held_changed : {D : ℕ} {b : List ℕ} (t : List ℕ) → Holds D b → (Good (panel_in D b) → Good t × (length t ≡ length (panel_in D b))) → Holds D (changed D b t)
held_changed {D = zero} t h f = holds_none _
held_changed {D = suc d} {b = b} t h f =
    let z : suc d ≢ 0 = λ e. omega arith in
    let g = f (h.good z) in
    holds_changed (suc d) b t g.0 (ap (λ x. depth_of x + 1) g.1 ∙ sym (h.deep z)) (g.1 ∙ held_length h z)

called_holds : {k D c n E : ℕ} {b u : List ℕ} → Holds D b → Called k D b c n E u → Holds E u
called_holds {k} {b = b} h (opened {t = t} p l) =
    let f = p.done refl in
    holds_changed k b t f.good f.deep (subst (Fits t) f.deep f.good.fits).long
called_holds h (refused p z) = h
called_holds h (in_use f l) = h
called_holds h (split {t = t} p) = held_changed t h (λ g. stays g (λ d. (d.good, d.long)) p)
called_holds h (merge {t = t} p) = held_changed t h (λ g. stays g (λ d. (d.good, d.long)) p)
called_holds h (pin {t = t} p) = held_changed t h (λ g. put_stays (omega arith) g p)
called_holds h (unpin {t = t} p) = held_changed t h (λ g. put_stays (omega arith) g p)

pub step_holds : {first last : ℕ} {r b u : List ℕ} {D n E : ℕ} → Holds D b → Step first last r D b n E u → Holds E u
step_holds h (bad f) = h
step_holds h (call f p) = called_holds h p

-- ---- the same of the depth that the code holds

pub keeps_holds : (o : Option ℕ) (b : List ℕ) → Keeps o b → Holds (depth_or_0 o) b
keeps_holds None b h = holds_none b
keeps_holds (Some D) b h = record { good = λ _. h.0; deep = λ _. h.1 }

pub called_keeps : {k D c n : ℕ} {b u : List ℕ} → Called k D b c n D u → Keeps (Some D) b → Keeps (Some D) u
called_keeps {D = D} {b = b} p h =
    let z : D ≢ 0 = λ e. omega (arith, h.1) in
    let g = called_holds (keeps_holds (Some D) b h) p in
    (g.good z, g.deep z)

-- ---- where an open is refused

-- an open answers 1 where the buffer's bytes fit no panel of the asked depth ..
pub open_refused : {k D n E : ℕ} {b u : List ℕ} → Called k D b 0 n E u → (Fits (panel_in k b) k → ⊥) → n ≡ 1
open_refused p f = ⊎_elim (λ a. a.1) (λ a. absurd (f a.0)) (open_answers p)

-- .. as where the lent buffer is shorter than such a panel
pub short_refused : {k D n E : ℕ} {b u : List ℕ} → Called k D b 0 n E u → length b < size_of k → n ≡ 1
short_refused {k} {b = b} p h = open_refused p (no_room k b h)

-- ---- where no panel is open

-- all but an open answer 1
called_none : {k c n E : ℕ} {b u : List ℕ} → Called k 0 b c n E u → c ≢ 0 → n ≡ 1
called_none (opened p l) z = absurd (z refl)
called_none (refused p y) z = absurd (z refl)
called_none (in_use f l) z = absurd (z refl)
called_none (split p) z = ⊎_elim (λ a. a.1) (λ a. absurd (none_right a.0)) p.answer
called_none (merge p) z = ⊎_elim (λ a. a.1) (λ a. absurd (none_right a.0)) p.answer
called_none (pin p) z = ⊎_elim (λ a. a.1) (λ a. absurd (none_right a.0)) p.answer
called_none (unpin p) z = ⊎_elim (λ a. a.1) (λ a. absurd (none_right a.0)) p.answer

-- a record that is no accepted open is refused ..
pub step_none : {first last : ℕ} {r b u : List ℕ} {n E : ℕ} → Step first last r 0 b n E u → (Fine first last r → kind r ≡ 0 → n ≢ 0) → n ≢ 0
step_none (bad f) h = λ e. omega arith
step_none {r = r} {n = n} (call f p) h = go (ℕ_discrete (kind r) 0)
  where
    go : Dec (kind r ≡ 0) → n ≢ 0
    go (yes e) = h f e
    go (no z) = λ e. omega (arith, called_none p z)

-- .. with 1, where it asks for no open
pub step_first : {first last : ℕ} {r b u : List ℕ} {D n E : ℕ} → D ≡ 0 → Step first last r D b n E u → Fine first last r → kind r ≢ 0 → n ≡ 1
step_first e (bad g) f z = absurd (g f)
step_first {r = r} {b = b} {u = u} {n = n} {E = E} e (call g p) f z =
    called_none (subst (λ x. Called (number r) x b (kind r) n E u) e p) z
