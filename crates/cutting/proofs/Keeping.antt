-- A merge writes no pin. None of the leaves that it removes is pinned, so the parents that come back are not, and no pin is left beside a
-- leaf bit.
use mathlib.Core.Path.{◌≡◌, refl, sym, ap, ◌∙◌, subst, subst⁻¹}
use mathlib.Core.Logic.Iff
use mathlib.Core.Logic.{◌≢◌, ◌⊎◌, inl, inr, ◌↔◌}
use mathlib.Core.List.{List}
use Prim.Native.Nat.{ℕ, suc, ◌-◌, ◌*◌, ◌/◌, ◌^◌, ◌≤◌, ◌<◌}
use native.Mathlib.Decide.{ℕ_discrete}
use native.Mathlib.Omega.{arith}
use Rattle.nodes.specs.Depth.{depth_of}
use Rattle.nodes.specs.Neighbours.{edge}
use Rattle.nodes.proofs.Depths.{depth_left}
use Rattle.words.specs.Words.{leaf_bit}
use Rattle.sums.proofs.Counts.{leaf_bits, first_left}
use Rattle.cuts.specs.Cuts.{Cut, place_of, named}
use Rattle.cuts.proofs.Following.{place_cut}
use Rattle.cuts.proofs.Places.{cut_low, cut_depth, cut_set}
use Rattle.cuts.proofs.OneBit.{named_place}
use Rattle.pins.specs.Pins.{pin_bit, PinsOnLeaves}
use Rattle.pins.proofs.PinBits.{pin_lt}
use Rattle.panel.specs.Panels.{deep_of, CutOf, Good, LeafOf, Pinned}
use Rattle.panel.specs.Calls.{Bare, Unpinned, PinsKept}
use Rattle.panel.proofs.GoodPanels.{dec_cuts}
use Rattle.panel.proofs.SameBytes.{deep_same}
use Rattle.cutting.proofs.AtWork.{AtWork, CutIn, shallow, work_cuts}

-- a cut node's left child has its place
pub place_child : (D n : ℕ) → 1 ≤ n → depth_of n < D → place_of D (2 * n) ≡ place_of D n
place_child D n l h =
    ap (λ (x : ℕ). x - 2 ^ D)
    (ap (λ (x : ℕ). 2 * n * 2 ^ (D - x)) (depth_left n l)
    ∙ first_left (D - suc (depth_of n)) n ∙ ap (λ (x : ℕ). n * 2 ^ x) (let e : suc (D - suc (depth_of n)) ≡ D - depth_of n = omega arith in e))

-- a cut that is not kept is one of those that are taken back
pub taken : (P : ℕ → Type 0) (q n : ℕ) → P n → (P n × (n ≢ q) × (n ≢ edge q) → ⊥) → (n ≡ q) ⊎ (n ≡ edge q)
taken P q n c f = go (ℕ_discrete n q) (ℕ_discrete n (edge q))
  where
    go : Dec (n ≡ q) → Dec (n ≡ edge q) → (n ≡ q) ⊎ (n ≡ edge q)
    go (yes i) j = inl i
    go (no i) (yes j) = inr j
    go (no i) (no j) = absurd (f (c, i, j))

-- exactly q's cut and, if q has an edge neighbour, that neighbour's cut are taken back, and every pin is as it was
pub record TakenBack (s : List ℕ) (q : ℕ) (xs : List ℕ) : Type 0 where
  pub work : AtWork s xs
  pub cuts : (n : ℕ) → CutIn s xs n ↔ (CutOf s n × (n ≢ q) × (n ≢ edge q))
  pub pins : (p : ℕ) → pin_bit (deep_of s) xs p ≡ pin_bit (deep_of s) s p

module _ {s : List ℕ} (G : Good s) {k : ℕ} (U : Unpinned s k) where
  -- of the cuts that are taken back, no child is pinned
  pub bare : (m : ℕ) → (m ≡ k / 2) ⊎ (m ≡ edge (k / 2)) → CutOf s m → Bare s m
  bare m (inl e) c = subst⁻¹ (Bare s) e U.own
  bare m (inr e) c = subst⁻¹ (Bare s) e (U.across (λ z. omega (arith, cut_low (deep_of s) (leaf_bit (deep_of s) s) (shallow G) m c)))

  module _ {t : List ℕ} (b : TakenBack s (k / 2) t) where
    -- the cuts that are left
    pub left_cuts : (n : ℕ) → CutOf t n ↔ (CutOf s n × (n ≢ k / 2) × (n ≢ edge (k / 2)))
    left_cuts n = Iff.trans (work_cuts G b.work n) (b.cuts n)

    -- no pin lies beside a leaf bit
    pub kept_on : PinsOnLeaves (deep_of s) t
    kept_on p h = go (ℕ_discrete (pin_bit (deep_of s) s p) 1)
      where
        mine : 0 < p → pin_bit (deep_of s) s p ≡ 1 → Cut (deep_of s) (leaf_bit (deep_of s) s) (named (deep_of s) p) → leaf_bit (deep_of s) t p ≡ 1
        mine l x c = (cut_set (deep_of s) (leaf_bit (deep_of s) t) (shallow G) (record { low = l; high = h; names = refl })).0
            ((b.cuts (named (deep_of s) p)).1 (c, (λ e. gone (inl e)), (λ e. gone (inr e))))
          where
            gone : (named (deep_of s) p ≡ k / 2) ⊎ (named (deep_of s) p ≡ edge (k / 2)) → ⊥
            gone o = (bare (named (deep_of s) p) o c).right (ap (pin_bit (deep_of s) s) (sym (named_place (deep_of s) (shallow G) p l h)) ∙ x)

        set : pin_bit (deep_of s) s p ≡ 1 → Dec (p ≡ 0) → leaf_bit (deep_of s) t p ≡ 1
        set x (yes z) = ap (leaf_bit (deep_of s) t) z ∙ b.work.first
        set x (no z) =
            mine (omega arith) x (place_cut (deep_of s) (leaf_bit (deep_of s) s) (omega arith) h (omega (arith, G.pins p h, leaf_bits (deep_of s) s p)))

        go : Dec (pin_bit (deep_of s) s p ≡ 1) → pin_bit (deep_of s) t p ≤ leaf_bit (deep_of s) t p
        go (yes x) = omega (arith, b.pins p, set x (ℕ_discrete p 0))
        go (no x) = omega (arith, b.pins p, pin_lt (deep_of s) s p)

    same : (m : ℕ) → pin_bit (deep_of t) t (place_of (deep_of t) m) ≡ pin_bit (deep_of s) s (place_of (deep_of s) m)
    same m = subst (λ (x : ℕ). pin_bit x t (place_of x m) ≡ pin_bit (deep_of s) s (place_of (deep_of s) m)) (sym (deep_same s t b.work.long)) (b.pins (place_of (deep_of s) m))

    -- the leaves that stay keep their pins, and those that come back have none
    pub pins_kept : PinsKept s t
    pins_kept m K = go (dec_cuts G m)
      where
        gone : CutOf s m → Pinned t m → ⊥
        gone c p =
            (bare m (taken (CutOf s) (k / 2) m c (λ x. K.uncut ((left_cuts m).1 x))) c).left
            (ap (pin_bit (deep_of s) s) (place_child (deep_of s) m (cut_low (deep_of s) (leaf_bit (deep_of s) s) (shallow G) m c) (cut_depth (deep_of s) (leaf_bit (deep_of s) s) (shallow G) m c))
            ∙ sym (same m) ∙ p)

        go : Dec (CutOf s m) → Pinned t m ↔ (LeafOf s m × Pinned s m)
        go (yes c) = (λ p. absurd (gone c p), λ (l, p). absurd (l.uncut c))
        go (no c) = (
          λ p. (record { low = K.low; uncut = c; parent = ((left_cuts (m / 2)).0 K.parent).0 }, sym (same m) ∙ p),
          λ (l, p). same m ∙ p,
        )
