-- A record has one outcome on one buffer: that of its call.
use mathlib.Core.Path.{◌≡◌, refl, sym, ap}
use mathlib.Core.List.{List}
use Prim.Native.Nat.{ℕ, zero, suc}
use native.Mathlib.Omega.{arith}
use lib.ListN.{drop}
use Rattle.bits.specs.Bits.{Bytes}
use Rattle.tables.proofs.Tables.{answers_one}
use Rattle.panel.specs.Panels.{size_of}
use Rattle.panel.proofs.Once.{open_one, split_one, merge_one, pin_put_one}
use Rattle.steps.specs.Steps.{panel_in, changed, Called, Step}
use Rattle.steps.specs.Steps.Called.{opened, refused, in_use, split, merge, pin, unpin}
use Rattle.steps.specs.Steps.Step.{bad, call}
use Rattle.steps.proofs.Exactness.{open_rows, open_answers}
use Rattle.steps.proofs.Parts.{bytes_front}

-- the panel put into a buffer of bytes is bytes
front : (D : ℕ) (b t : List ℕ) → Bytes (changed D b t) → Bytes t
front D b t = bytes_front t (drop (size_of D) b)

-- two opens with one answer leave the same
opens_one : {k D n m E F : ℕ} {b u v : List ℕ} → Bytes u → Bytes v → n ≡ m → Called k D b 0 n E u → Called k D b 0 m F v → (E ≡ F) × (u ≡ v)
opens_one {k} {b = b} x y e (opened {t = t} p l) (opened {t = w} q h) =
    (refl, ap (changed k b) (open_one (panel_in k b) k 0 0 t w (front k b t x) (front k b w y) p q).1)
opens_one x y e (opened p l) (refused q z) = absurd (z (sym e))
opens_one x y e (opened p l) (in_use f h) = absurd (omega arith)
opens_one x y e (refused p z) (opened q l) = absurd (z e)
opens_one x y e (refused p z) (refused q a) = (refl, refl)
opens_one x y e (refused p z) (in_use f h) = (refl, refl)
opens_one x y e (in_use f h) (opened q l) = absurd (omega arith)
opens_one x y e (in_use f h) (refused q z) = (refl, refl)
opens_one x y e (in_use f h) (in_use g l) = (refl, refl)

called_one : {k D c n m E F : ℕ} {b u v : List ℕ} → Bytes u → Bytes v → Called k D b c n E u → Called k D b c m F v → (n ≡ m) × (E ≡ F) × (u ≡ v)
called_one {k} {D} {c = zero} {n} {m} {b = b} x y p q =
    let e = answers_one (open_rows k D b) n m (open_answers p) (open_answers q) in
    let o = opens_one x y e p q in (e, o.0, o.1)
called_one {k} {D} {c = suc c} {b = b} x y (split {n = n} {t = t} p) (split {n = m} {t = w} q) =
    let e = split_one (panel_in D b) k n m t w (front D b t x) (front D b w y) p q in (e.0, refl, ap (changed D b) e.1)
called_one {k} {D} {c = suc c} {b = b} x y (merge {n = n} {t = t} p) (merge {n = m} {t = w} q) =
    let e = merge_one (panel_in D b) k n m t w (front D b t x) (front D b w y) p q in (e.0, refl, ap (changed D b) e.1)
called_one {k} {D} {c = suc c} {b = b} x y (pin {n = n} {t = t} p) (pin {n = m} {t = w} q) =
    let e = pin_put_one (panel_in D b) k 1 n m t w (front D b t x) (front D b w y) p q in (e.0, refl, ap (changed D b) e.1)
called_one {k} {D} {c = suc c} {b = b} x y (unpin {n = n} {t = t} p) (unpin {n = m} {t = w} q) =
    let e = pin_put_one (panel_in D b) k 0 n m t w (front D b t x) (front D b w y) p q in (e.0, refl, ap (changed D b) e.1)

pub step_one : {first last : ℕ} {r b u v : List ℕ} {D n m E F : ℕ} → Bytes u → Bytes v → Step first last r D b n E u → Step first last r D b m F v → (n ≡ m) × (E ≡ F) × (u ≡ v)
step_one x y (bad f) (bad g) = (refl, refl, refl)
step_one x y (bad f) (call g q) = absurd (f g)
step_one x y (call f p) (bad g) = absurd (g f)
step_one x y (call f p) (call g q) = called_one x y p q
