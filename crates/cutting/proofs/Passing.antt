-- A cut made below a leaf of the old panel gets that leaf's pin: then the pin over each place stays, in whatever order the cuts are made.
-- So at the end each new leaf has the pin of the old leaf that it is or lies below.
use mathlib.Core.Path.{◌≡◌, refl, sym, ap, ◌∙◌, subst}
use mathlib.Core.List.{List}
use Prim.Native.Nat.{ℕ, ◌/◌, ◌^◌, ◌≤◌, ◌<◌}
use native.Mathlib.Decide.{ℕ_discrete}
use native.Mathlib.Omega.{arith}
use lib.ListN.{length}
use Rattle.words.specs.Words.{leaf_bit}
use Rattle.cuts.specs.Cuts.{Cut, Leaf, place_of, named}
use Rattle.cuts.proofs.Following.{place_cut}
use Rattle.cuts.proofs.Places.{cut_set}
use Rattle.cuts.proofs.OneBit.{OneBit}
use Rattle.cuts.proofs.Leaves.{GoodBits, leaf_depth, leaf_place, leaf_set}
use Rattle.pins.specs.Pins.{pin_bit, PinsOnLeaves}
use Rattle.pins.specs.inner.Over.{over}
use Rattle.pins.proofs.Overs.{over-set, PassedOn, over_put}
use Rattle.pins.proofs.Beneath.{over_node, over_cut}
use Rattle.pins.proofs.PinBits.{pin_lt, pin_put_same, pin_put_other}
use Rattle.panel.specs.Panels.{deep_of, CutOf, Good, LeafOf}
use Rattle.panel.specs.Calls.{PinsPassed}
use Rattle.cutting.specs.inner.Changing.{CutUnder}
use Rattle.panel.proofs.Lengths.{fits_small}
use Rattle.panel.proofs.SameBytes.{deep_same}
use Rattle.panel.proofs.GoodPanels.{good_bits}
use Rattle.cutting.proofs.AtWork.{AtWork, CutIn, work_pins, one_bit, put_pins, work_half, under_leaf}

-- the pin that lies over a place is at every place that of panel s, and none lies beside a leaf bit
pub record PinsStay (s xs : List ℕ) : Type 0 where
  pub over : (p : ℕ) → p < 2 ^ deep_of s → over (leaf_bit (deep_of s) xs) (pin_bit (deep_of s) xs) p ≡ over (leaf_bit (deep_of s) s) (pin_bit (deep_of s) s) p
  pub on : PinsOnLeaves (deep_of s) xs

module _ {s : List ℕ} (G : Good s) where
  pub stay_start : PinsStay s s
  stay_start = record { over = λ p h. refl; on = G.pins }

  -- ---- a cut below leaf l

  module _ {bs : List ℕ} (w : AtWork s bs) (old : (n : ℕ) → CutOf s n → CutIn s bs n) (stay : PinsStay s bs) where
    -- a set bit stays set
    kept : (p : ℕ) → p < 2 ^ deep_of s → leaf_bit (deep_of s) s p ≡ 1 → leaf_bit (deep_of s) bs p ≡ 1
    kept p h b = go (ℕ_discrete p 0)
      where
        go : Dec (p ≡ 0) → leaf_bit (deep_of s) bs p ≡ 1
        go (yes z) = ap (leaf_bit (deep_of s) bs) z ∙ w.first
        go (no z) =
            let l : 0 < p = omega arith in
            (cut_set (deep_of s) (leaf_bit (deep_of s) bs) (omega (arith, fits_small G.fits)) (record { low = l; high = h; names = refl })).0
            (old (named (deep_of s) p) (place_cut (deep_of s) (leaf_bit (deep_of s) s) l h b))

    -- an old leaf keeps its pin
    leaf_pin : (l : ℕ) → LeafOf s l → pin_bit (deep_of s) bs (place_of (deep_of s) l) ≡ pin_bit (deep_of s) s (place_of (deep_of s) l)
    leaf_pin l L =
        let g = good_bits s G in
        let h = leaf_place (deep_of s) (leaf_bit (deep_of s) s) g l L in
        let b = leaf_set (deep_of s) (leaf_bit (deep_of s) s) g l L in
        sym (over-set (leaf_bit (deep_of s) bs) (pin_bit (deep_of s) bs) (place_of (deep_of s) l) (kept (place_of (deep_of s) l) h b))
        ∙ stay.over (place_of (deep_of s) l) h ∙ over-set (leaf_bit (deep_of s) s) (pin_bit (deep_of s) s) (place_of (deep_of s) l) b

    module _ {n l : ℕ} (i : ℕ) (L : LeafOf s l) (up : n / 2 ^ i ≡ l) {ys : List ℕ} (c : CutUnder (deep_of s) bs n l ys) where
      v_lt : pin_bit (deep_of s) bs (place_of (deep_of s) l) < 2
      v_lt = pin_lt (deep_of s) bs (place_of (deep_of s) l)

      set-bit : OneBit (deep_of s) (leaf_bit (deep_of s) bs) (leaf_bit (deep_of s) c.half) c.cut.place 1
      set-bit = one_bit G w c.cut (omega arith)

      passed_on : PassedOn (2 ^ deep_of s) (leaf_bit (deep_of s) bs) (pin_bit (deep_of s) bs) (leaf_bit (deep_of s) ys) (pin_bit (deep_of s) ys) c.cut.place
      passed_on = record {
        low = c.cut.at.low;
        here = under_leaf G w c c.cut.place c.cut.at.high ∙ set-bit.here;
        pin =
            rw c.put (pin_put_same (deep_of s) c.half c.cut.place (pin_bit (deep_of s) bs (place_of (deep_of s) l)) v_lt (work_pins G (work_half G w c)) c.cut.at.high)
            ∙ leaf_pin l L ∙ sym (over_cut (deep_of s) (leaf_bit (deep_of s) s) (good_bits s G) l L (pin_bit (deep_of s) s) i n c.cut.place up c.cut.at)
            ∙ sym (stay.over c.cut.place c.cut.at.high);
        other = λ q h z. under_leaf G w c q h ∙ set-bit.other q h z;
        others = λ q h z.
            rw c.put (pin_put_other (deep_of s) c.half c.cut.place (pin_bit (deep_of s) bs (place_of (deep_of s) l)) v_lt q z)
            ∙ put_pins G w c.cut (omega arith) q;
      }

      pub stay_under : PinsStay s ys
      stay_under = record { over = λ p h. over_put passed_on p h ∙ stay.over p h; on = λ p h. on p h (ℕ_discrete p c.cut.place) }
        where
          on : (p : ℕ) → p < 2 ^ deep_of s → Dec (p ≡ c.cut.place) → pin_bit (deep_of s) ys p ≤ leaf_bit (deep_of s) ys p
          on p h (yes e) = omega (arith, pin_lt (deep_of s) ys p, ap (leaf_bit (deep_of s) ys) e, passed_on.here)
          on p h (no e) = omega (arith, passed_on.other p h e, passed_on.others p h e, stay.on p h)

  -- ---- the panel that is left

  -- each new leaf has the pin of the old leaf above it
  pub stay_passed : {t : List ℕ} → PinsStay s t → Good t → length t ≡ length s → PinsPassed s t
  stay_passed {t} stay T e l k j L K up = (λ p. sym same ∙ p, λ p. same ∙ p)
    where
      new : GoodBits (deep_of s) (leaf_bit (deep_of s) t) → Leaf (Cut (deep_of s) (leaf_bit (deep_of s) t)) k
          → pin_bit (deep_of s) t (place_of (deep_of s) k) ≡ pin_bit (deep_of s) s (place_of (deep_of s) l)
      new g M =
          sym (over-set (leaf_bit (deep_of s) t) (pin_bit (deep_of s) t) (place_of (deep_of s) k) (leaf_set (deep_of s) (leaf_bit (deep_of s) t) g k M))
          ∙ stay.over (place_of (deep_of s) k) (leaf_place (deep_of s) (leaf_bit (deep_of s) t) g k M)
          ∙ over_node (deep_of s) (leaf_bit (deep_of s) s) (good_bits s G) l L (pin_bit (deep_of s) s) j k up (leaf_depth (deep_of s) (leaf_bit (deep_of s) t) g k M)

      same : pin_bit (deep_of t) t (place_of (deep_of t) k) ≡ pin_bit (deep_of s) s (place_of (deep_of s) l)
      same =
          subst (λ (x : ℕ). GoodBits x (leaf_bit x t) → Leaf (Cut x (leaf_bit x t)) k → pin_bit x t (place_of x k) ≡ pin_bit (deep_of s) s (place_of (deep_of s) l))
          (sym (deep_same s t e)) new (good_bits t T) K
