-- The pin over a place is that of the nearest set leaf bit, at the place or left of it. It stays, at every place, where a bit is set
-- whose pin becomes the one that lies over it: in whatever order such bits are set.
use mathlib.Core.Path.{◌≡◌, refl, sym, ap, ap₂, ◌∙◌}
use mathlib.Core.Logic.{◌≢◌}
use Prim.Native.Nat.{ℕ, zero, suc, ◌+◌, ◌≤◌, ◌<◌}
use native.Mathlib.Nat.{add-zero, add-suc}
use native.Mathlib.Decide.{ℕ_discrete}
use native.Mathlib.Omega.{arith}
use Rattle.sums.proofs.Ranks.{Bits}
use Rattle.pins.specs.inner.Over.{nearer, over}

-- ---- one row of bits

module _ (f g : ℕ → ℕ) where
  -- a set bit's own pin lies over its place
  pub over-set : (p : ℕ) → f p ≡ 1 → over f g p ≡ g p
  unfolding over
  over-set zero s = refl
  over-set (suc p) s = ap (λ (b : ℕ). nearer b (g (suc p)) (over f g p)) s

  -- over the places behind it too, up to the next set bit
  pub over_gap : (q m : ℕ) → ((i : ℕ) → i < m → f (q + suc i) ≡ 0) → over f g (q + m) ≡ over f g q
  unfolding over
  over_gap q zero z = ap (over f g) (add-zero q)
  over_gap q (suc m) z =
      ap (over f g) (add-suc q m)
      ∙ ap (λ (b : ℕ). nearer b (g (suc (q + m))) (over f g (q + m))) (ap f (sym (add-suc q m)) ∙ z m (omega arith))
      ∙ over_gap q m (λ i h. z i (omega arith))

-- ---- two rows

-- what lies over the places settles the pins, where none lies beside a leaf bit
pub over_one : (f g h : ℕ → ℕ) → Bits f → (p : ℕ) → g p ≤ f p → h p ≤ f p → over f g p ≡ over f h p → g p ≡ h p
over_one f g h small p a b e = go (ℕ_discrete (f p) 1)
  where
    go : Dec (f p ≡ 1) → g p ≡ h p
    go (yes s) = sym (over-set f g p s) ∙ e ∙ over-set f h p s
    go (no s) = omega (arith, small p)

-- the same bits and pins up to place p
pub over_same : (f g f' g' : ℕ → ℕ) (p : ℕ) → ((q : ℕ) → q ≤ p → f' q ≡ f q) → ((q : ℕ) → q ≤ p → g' q ≡ g q) → over f' g' p ≡ over f g p
unfolding over
over_same f g f' g' zero a b = b 0 (omega arith)
over_same f g f' g' (suc p) a b =
    ap (λ (x : ℕ). nearer x (g' (suc p)) (over f' g' p)) (a (suc p) (omega arith))
    ∙ ap₂ (λ (x y : ℕ). nearer (f (suc p)) x y) (b (suc p) (omega arith)) (over_same f g f' g' p (λ q h. a q (omega arith)) (λ q h. b q (omega arith)))

-- f' and g' are the n bits f and pins g with bit c set, and with it the pin that lies over it
pub record PassedOn (n : ℕ) (f g f' g' : ℕ → ℕ) (c : ℕ) : Type 0 where
  pub low : 0 < c
  pub here : f' c ≡ 1
  pub pin : g' c ≡ over f g c
  pub other : (q : ℕ) → q < n → q ≢ c → f' q ≡ f q
  pub others : (q : ℕ) → q < n → q ≢ c → g' q ≡ g q

-- then what lies over each place stays
pub over_put : {n : ℕ} {f g f' g' : ℕ → ℕ} {c : ℕ} → PassedOn n f g f' g' c → (p : ℕ) → p < n → over f' g' p ≡ over f g p
unfolding over
over_put {n} {f} {g} {f'} {g'} {c} P zero h = P.others 0 h (omega (arith, P.low))
over_put {n} {f} {g} {f'} {g'} {c} P (suc p) h = go (ℕ_discrete (suc p) c) (over_put P p (omega arith))
  where
    go : Dec (suc p ≡ c) → over f' g' p ≡ over f g p → nearer (f' (suc p)) (g' (suc p)) (over f' g' p) ≡ nearer (f (suc p)) (g (suc p)) (over f g p)
    go (yes e) ih = ap (λ (x : ℕ). nearer x (g' (suc p)) (over f' g' p)) (ap f' e ∙ P.here) ∙ ap g' e ∙ P.pin ∙ ap (over f g) (sym e)
    go (no e) ih =
        ap (λ (x : ℕ). nearer x (g' (suc p)) (over f' g' p)) (P.other (suc p) h e)
        ∙ ap₂ (λ (x y : ℕ). nearer (f (suc p)) x y) (P.others (suc p) h e) ih
