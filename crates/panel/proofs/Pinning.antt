-- A pin set or cleared on a leaf leaves a good panel with the same cuts, and every other leaf's pin.
use mathlib.Core.Path.{◌≡◌, sym, ap, ◌∙◌, subst}
use mathlib.Core.Logic.Iff
use mathlib.Core.Logic.{◌≢◌, ◌↔◌}
use mathlib.Core.List.{List, []}
use Prim.Native.Nat.{ℕ, ◌+◌, ◌*◌, ◌^◌, ◌≤◌, ◌<◌}
use native.Mathlib.Decide.{ℕ_discrete}
use native.Mathlib.Omega.{arith}
use lib.ListN.{length}
use lib.Pow.{pow_pos, pow-add}
use Rattle.bits.specs.Bits.{bit}
use Rattle.nodes.proofs.Depths.{pow_next}
use Rattle.words.specs.Words.{word, leaf_bit}
use Rattle.words.proofs.Slots.{words_same}
use Rattle.sums.specs.Sums.{Right}
use Rattle.sums.proofs.Unique.{right_same}
use Rattle.tables.specs.Table.{Answers}
use Rattle.cuts.specs.Cuts.{place_of}
use Rattle.cuts.proofs.ForcedCuts.{good_iff}
use Rattle.cuts.proofs.OneBit.{cut_same}
use Rattle.cuts.proofs.Leaves.{leaf_set, place_once}
use Rattle.pins.specs.Pins.{pin_place, pin_bit, PinsOnLeaves}
use Rattle.panel.specs.Panels.{Fits, deep_of, CutOf, Good, LeafOf, pin_of, leaf_count}
use Rattle.panel.specs.Calls.{leaf_rows, PinAt, PinPut}
use Rattle.panel.proofs.GoodPanels.{good_bits}
use Rattle.panel.proofs.LeafRows.{leaf_past}
use Rattle.panel.proofs.SameBytes.{deep_same, cut_of}

module _ {s : List ℕ} (G : Good s) {k v : ℕ} (L : LeafOf s k) (hv : v < 2) {t : List ℕ} (P : PinAt s k v t) where
  deep : deep_of t ≡ deep_of s
  deep = deep_same s t P.long

  -- the words are as they were
  same_bit : (q : ℕ) → q < 2 ^ (deep_of s + 2) → bit t q ≡ bit s q
  same_bit q h = P.rest q (λ e. omega (arith, pow-add 2 (deep_of s) 2))

  same_leaf : (p : ℕ) → p < 2 ^ deep_of s → leaf_bit (deep_of s) t p ≡ leaf_bit (deep_of s) s p
  unfolding leaf_bit
  same_leaf p h = same_bit (3 * 2 ^ deep_of s + p) (omega (arith, pow-add 2 (deep_of s) 2))

  pub pinned_count : leaf_count t ≡ leaf_count s
  pinned_count = ap (λ D. word D t 1) deep ∙ words_same (deep_of s) s t same_bit 1 (omega (arith, pow_next (deep_of s), pow_pos (deep_of s)))

  pub pinned_cuts : (n : ℕ) → CutOf t n ↔ CutOf s n
  pinned_cuts n = Iff.trans (cut_of s t P.long n) (cut_same (deep_of s) (leaf_bit (deep_of s) t) (leaf_bit (deep_of s) s) (λ p _. same_leaf p) n)

  -- the pins beside k's are as they were
  other_pin : (p : ℕ) → p ≢ place_of (deep_of s) k → pin_bit (deep_of s) t p ≡ pin_bit (deep_of s) s p
  unfolding pin_bit
  other_pin p z = P.rest (pin_place (deep_of s) p) (λ e. z (omega arith))

  on : PinsOnLeaves (deep_of s) t
  on p h = go (ℕ_discrete p (place_of (deep_of s) k))
    where
      go : Dec (p ≡ place_of (deep_of s) k) → pin_bit (deep_of s) t p ≤ leaf_bit (deep_of s) t p
      go (yes e) =
          let own : pin_bit (deep_of s) t (place_of (deep_of s) k) ≡ v = subst (λ x. pin_bit x t (place_of x k) ≡ v) deep P.pin in
          let set = leaf_set (deep_of s) (leaf_bit (deep_of s) s) (good_bits s G) k L in
          omega (arith, ap (pin_bit (deep_of s) t) e, same_leaf p h, ap (leaf_bit (deep_of s) s) e)
      go (no z) = omega (arith, other_pin p z, same_leaf p h, G.pins p h)

  pub pinned_good : Good t
  pinned_good = record {
    fits = subst (Fits t) (sym deep) (record { low = G.fits.low; high = G.fits.high; long = P.long ∙ G.fits.long });
    right = subst (λ D. Right D t) (sym deep) (right_same same_bit G.right);
    first = subst (λ D. leaf_bit D t 0 ≡ 1) (sym deep) (same_leaf 0 (pow_pos (deep_of s)) ∙ G.first);
    cuts = good_iff (λ n h. Iff.symm (pinned_cuts n)) G.cuts;
    pins = subst (λ D. PinsOnLeaves D t) (sym deep) on;
  }

  pub pinned_other : (m : ℕ) → LeafOf s m → m ≢ k → pin_of t m ≡ pin_of s m
  pinned_other m l z =
      subst (λ D. pin_bit D t (place_of D m) ≡ pin_of s m) (sym deep)
      (other_pin (place_of (deep_of s) m) (λ e. z (place_once (deep_of s) (leaf_bit (deep_of s) s) (good_bits s G) m k l L e)))

-- ---- the same of a call that puts a pin

-- where it is done, its node is a leaf
pub put_leaf : {s t : List ℕ} {k v n : ℕ} → PinPut s k v n t → n ≡ 0 → LeafOf s k
put_leaf {s} {k = k} o z = (leaf_past [] (subst (Answers (leaf_rows s k)) z o.answer)).1

-- what it leaves is good, and as long as before
pub put_stays : {s t : List ℕ} {k v n : ℕ} → v < 2 → Good s → PinPut s k v n t → Good t × (length t ≡ length s)
put_stays {s} {t} {n = n} h g o = go (ℕ_discrete n 0)
  where
    go : Dec (n ≡ 0) → Good t × (length t ≡ length s)
    go (yes z) = (pinned_good g (put_leaf o z) h (o.done z), (o.done z).long)
    go (no z) = (subst Good (sym (o.refused z)) g, ap length (o.refused z))
