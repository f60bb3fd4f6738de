-- One leaf bit changed changes one cut: each place but 0 names one node, and different places different nodes.
use mathlib.Core.Path.{◌≡◌, refl, sym, ap, ◌∙◌, subst}
use mathlib.Core.Logic.{◌≢◌, ◌⊎◌, inl, inr, ⊎_elim, ◌↔◌}
use Prim.Native.Nat.{ℕ, suc, ◌+◌, ◌-◌, ◌*◌, ◌^◌, ◌≤◌, ◌<◌}
use native.Mathlib.Decide.{ℕ_discrete}
use native.Mathlib.Omega.{arith}
use Rattle.nodes.specs.Depth.{depth_of}
use Rattle.nodes.proofs.Depths.{at_depth, depth_right}
use Rattle.sums.proofs.Ranks.{Bits}
use Rattle.cuts.specs.Cuts.{Cut, named, place_of}
use Rattle.cuts.specs.inner.Steps.{CutPlace}
use Rattle.cuts.proofs.Places.{cut_place, cut_place_lem, cut_low, cut_depth, cut_set, named_once}
use Rattle.cuts.proofs.Following.{place_cut}

-- g is f with the bit at place p set to v
pub record OneBit (D : ℕ) (f g : ℕ → ℕ) (p v : ℕ) : Type 0 where
  pub here : g p ≡ v
  pub other : (q : ℕ) → q < 2 ^ D → q ≢ p → g q ≡ f q

-- a cut's bit in other bits
pub moved : {D : ℕ} {f g : ℕ → ℕ} {n : ℕ} (c : Cut D f n) → g c.place ≡ f c.place → Cut D g n
moved c e = record { place = c.place; low = c.low; high = c.high; set = e ∙ c.set; names = c.names }

-- the same bits, but for bit 0, have the same cuts
pub cut_same : (D : ℕ) (f g : ℕ → ℕ) → ((p : ℕ) → 0 < p → p < 2 ^ D → f p ≡ g p) → (n : ℕ) → Cut D f n ↔ Cut D g n
cut_same D f g e n = (λ c. moved c (sym (e c.place c.low c.high)), λ c. moved c (e c.place c.low c.high))

-- ---- one bit changed

module _ {D : ℕ} (l : D ≤ 32) {n p : ℕ} (at : CutPlace D n p) {f g : ℕ → ℕ} where
  cut_other : {v : ℕ} → OneBit D f g p v → (m : ℕ) → m ≢ n → Cut D g m ↔ Cut D f m
  cut_other b m z = (λ c. moved c (sym (same c)), λ c. moved c (same c))
    where
      same : {h : ℕ → ℕ} (c : Cut D h m) → g c.place ≡ f c.place
      same c = b.other c.place c.high (λ w. z (sym c.names ∙ ap (named D) w ∙ at.names))

  -- one cut more
  pub add_iff : OneBit D f g p 1 → (m : ℕ) → Cut D g m ↔ (Cut D f m ⊎ (m ≡ n))
  add_iff b m = go (ℕ_discrete m n)
    where
      go : Dec (m ≡ n) → Cut D g m ↔ (Cut D f m ⊎ (m ≡ n))
      go (yes w) = (λ c. inr w, λ c. subst (Cut D g) (sym w) ((cut_set D g l at).1 b.here))
      go (no w) = (λ c. inl ((cut_other b m w).0 c), ⊎_elim (cut_other b m w).1 (λ r. absurd (w r)))

  -- one cut less
  pub drop_iff : OneBit D f g p 0 → (m : ℕ) → Cut D g m ↔ (Cut D f m × (m ≢ n))
  drop_iff b m = go (ℕ_discrete m n)
    where
      own : m ≡ n → Cut D g m → ⊥
      own w c = omega (arith, b.here, (cut_set D g l at).0 (subst (Cut D g) w c))

      go : Dec (m ≡ n) → Cut D g m ↔ (Cut D f m × (m ≢ n))
      go (yes w) = (λ c. absurd (own w c), λ c. absurd (c.1 w))
      go (no w) = (λ c. ((cut_other b m w).0 c, w), λ c. (cut_other b m w).1 c.0)

-- ---- a place and the node that it names

-- a place is the first below the right child of the node that it names
pub named_place : (D : ℕ) → D ≤ 32 → (p : ℕ) → 0 < p → p < 2 ^ D → p ≡ place_of D (2 * named D p + 1)
named_place D l p w h =
    let c = place_cut D (λ q. 1) w h refl in
    own (named D p) (cut_low D (λ q. 1) l (named D p) c) (cut_depth D (λ q. 1) l (named D p) c) refl
  where
    own : (n : ℕ) → 1 ≤ n → depth_of n < D → named D p ≡ n → p ≡ place_of D (2 * n + 1)
    own n i d e =
        let j : ℕ = D - suc (depth_of n) in
        let c = cut_place_lem D (depth_of n) j n l (at_depth i) (omega arith) in
        named_once D p (cut_place D j n) l w h c.low c.high (e ∙ sym c.names)
        ∙ ap (λ (x : ℕ). (2 * n + 1) * 2 ^ (D - x) - 2 ^ D) (sym (depth_right n i))

-- ---- bits are settled by their cuts

-- where each cut of f is one of g, each bit but the first that is set in f is set in g
pub bits_more : (D : ℕ) → D ≤ 32 → (f g : ℕ → ℕ) → Bits f → ((n : ℕ) → 1 ≤ n → Cut D f n → Cut D g n) → (p : ℕ) → 0 < p → p < 2 ^ D → f p ≤ g p
bits_more D l f g s e p w h = go (ℕ_discrete (f p) 1)
  where
    go : Dec (f p ≡ 1) → f p ≤ g p
    go (yes a) =
        let c = place_cut D f w h a in
        omega (arith, (cut_set D g l (record { low = w; high = h; names = refl })).0 (e (named D p) (cut_low D f l (named D p) c) c))
    go (no a) = omega (arith, s p)

pub bits_same : (D : ℕ) → D ≤ 32 → (f g : ℕ → ℕ) → Bits f → Bits g → f 0 ≡ g 0
    → ((n : ℕ) → 1 ≤ n → (Cut D f n ↔ Cut D g n)) → (p : ℕ) → p < 2 ^ D → f p ≡ g p
bits_same D l f g sf sg z e p h = go (ℕ_discrete p 0)
  where
    go : Dec (p ≡ 0) → f p ≡ g p
    go (yes w) = ap f w ∙ z ∙ ap g (sym w)
    go (no w) =
        omega (arith, bits_more D l f g sf (λ n q. (e n q).0) p (omega arith) h, bits_more D l g f sg (λ n q. (e n q).1) p (omega arith) h)
