-- Tests of a panel's bytes. A node is cut where the one bit that names it is set, so all else is told by finitely many bits.
use mathlib.Core.Path.{◌≡◌}
use mathlib.Core.Bool.{Bool, false, not, ◌&&◌, ◌||◌, So}
use mathlib.Core.Logic.{◌↔◌}
use mathlib.Core.List.{List}
use Prim.Native.Nat.{ℕ, zero, suc, ◌+◌, ◌-◌, ◌*◌, ◌/◌, ◌^◌, ◌≤◌, ◌<◌}
use native.Mathlib.Omega.{arith}
use lib.ListN.{length}
use lib.Dec.{leb, ltb, eqb}
use borrow.Author.Tests.{leb-true, eqb-true}
use Rattle.bits.specs.Bits.{bit}
use Rattle.nodes.specs.Depth.{depth_of}
use Rattle.nodes.specs.Limits.{least_depth, greatest_depth}
use Rattle.nodes.specs.Neighbours.{edge}
use Rattle.tables.specs.inner.Says.{Says}
use Rattle.tables.proofs.Tables.{says_no}
use Rattle.words.specs.Words.{word, leaf_bit}
use Rattle.sums.specs.Sums.{SumsRight, Right}
use Rattle.cuts.specs.Cuts.{Cut, GoodCuts, Leaf}
use Rattle.pins.specs.Pins.{pin_bit, PinsOnLeaves}
use Rattle.panel.specs.Panels.{size_of, Fits, deep_of, RightLength, CutOf, Good}
use Rattle.cuts.proofs.Places.{cut_place, cut_low, cut_depth, cut_range, cut_set}
use Rattle.cuts.proofs.Naming.{placed}
use Rattle.cuts.proofs.ForcedCuts.{Forced}
use Rattle.panel.proofs.Lengths.{fits_small}
use Rattle.evidence.proofs.Saying.{says_same, says_le, says_lt, imply, says_iff, says_and, says_or, says_imply, says_not, ◌and◌, up_to, shows_all, Decided}

-- ---- cuts

-- the place of the bit that names n
abbrev bit_of : ℕ → ℕ → ℕ
bit_of D n = cut_place D (D - 1 - depth_of n) n

-- node n is cut, by the bits f of a panel of depth D
unfoldable pub cut_in : ℕ → (ℕ → ℕ) → ℕ → Bool
cut_in D f n = leb 1 n && ltb (depth_of n) D && eqb (f (bit_of D n)) 1

module _ (D : ℕ) (f : ℕ → ℕ) (l : D ≤ 17) where
  pub decided_cuts : Decided (2 ^ D) (Cut D f) (cut_in D f)
  unfolding cut_in
  decided_cuts = record {
    says = λ n. says_iff (λ x. (at n x.0.0 x.0.1).1 x.1) (from n) (says_and (says_and (says_le 1 n) (says_lt (depth_of n) D)) (says_same (f (bit_of D n)) 1));
    high = cut_range D f (omega arith);
  }
    where
      at : (n : ℕ) → 1 ≤ n → depth_of n < D → Cut D f n ↔ (f (bit_of D n) ≡ 1)
      at n low deep = cut_set D f (omega arith) (placed D n (D - 1 - depth_of n) l low (omega arith)).found

      from : (n : ℕ) → Cut D f n → ((1 ≤ n) × (depth_of n < D)) × (f (bit_of D n) ≡ 1)
      from n c =
          let low : 1 ≤ n = cut_low D f (omega arith) n c in
          let deep : depth_of n < D = cut_depth D f (omega arith) n c in
          ((low, deep), (at n low deep).0 c)

-- a set c of cuts below m is good
unfoldable pub good_in : ℕ → (ℕ → Bool) → Bool
good_in m c = c 1 && up_to m (λ n. imply (leb 2 n) (imply (c n) (c (n / 2) && imply (not (eqb (edge n) 0)) (c (edge n)))))

pub good_cuts : {m : ℕ} {P : ℕ → Type 0} {c : ℕ → Bool} → Decided m P c → So (good_in m c) → GoodCuts P
unfolding good_in
good_cuts {m} d e =
    let (r, f) = ((d.says 1).yes and shows_all m (λ n. (says_imply (says_le 2 n) (says_imply (d.says n) (says_and (d.says (n / 2)) (says_imply (says_not (says_same (edge n) 0)) (d.says (edge n)))))).yes)) e in
    record { root = r; up = λ n h p. (f n (d.high n p) h p).0; over = λ n h p. (f n (d.high n p) h p).1 }

-- node k is a leaf
unfoldable pub leaf_in : (ℕ → Bool) → ℕ → Bool
leaf_in c k = leb 2 k && not (c k) && c (k / 2)

pub says_leaf : {m : ℕ} {P : ℕ → Type 0} {c : ℕ → Bool} → Decided m P c → (k : ℕ) → Says (Leaf P k) (leaf_in c k)
unfolding leaf_in
says_leaf d k =
    says_iff (λ x. record { low = x.0.0; uncut = x.0.1; parent = x.1 }) (λ x. ((x.low, x.uncut), x.parent))
    (says_and (says_and (says_le 2 k) (says_not (d.says k))) (d.says (k / 2)))

-- node k, of depth d, forces the cut of n
unfoldable pub forced_in : ℕ → ℕ → ℕ → Bool
forced_in zero k n = false
forced_in (suc d) k n = eqb n k || (not (eqb (edge k) 0) && (eqb n (edge k) || forced_in d (edge k / 2) n))

pub says_forced : (d k n : ℕ) → Says (Forced d k n) (forced_in d k n)
unfolding forced_in
says_forced zero k n = says_no (λ h. h)
says_forced (suc d) k n =
    says_or (says_same n k) (says_and (says_not (says_same (edge k) 0)) (says_or (says_same n (edge k)) (says_forced d (edge k / 2) n)))

-- ---- panels

unfoldable pub fits_in : List ℕ → ℕ → Bool
fits_in s D = leb least_depth D && leb D greatest_depth && eqb (length s) (size_of D)

pub says_fits : (s : List ℕ) (D : ℕ) → Says (Fits s D) (fits_in s D)
unfolding fits_in
says_fits s D =
    says_iff (λ x. record { low = x.0.0; high = x.0.1; long = x.1 }) (λ x. ((x.low, x.high), x.long))
    (says_and (says_and (says_le least_depth D) (says_le D greatest_depth)) (says_same (length s) (size_of D)))

unfoldable pub sums_in : ℕ → List ℕ → Bool
sums_in D s = up_to (2 ^ D - 1) (λ k. eqb (word D s (suc k)) (word D s (2 * suc k) + word D s (2 * suc k + 1)))

sums_shown : (D : ℕ) (s : List ℕ) → So (sums_in D s) → SumsRight D s
unfolding sums_in
sums_shown D s e zero l h = absurd (omega arith)
sums_shown D s e (suc k) l h =
    shows_all (2 ^ D - 1) (λ k. eqb-true (word D s (suc k)) (word D s (2 * suc k) + word D s (2 * suc k + 1))) e k (omega arith)

unfoldable pub right_in : ℕ → List ℕ → Bool
right_in D s = eqb (bit s 0) 0 && eqb (bit s 1) 0 && eqb (word D s 0) D && sums_in D s

right_shown : (D : ℕ) (s : List ℕ) → So (right_in D s) → Right D s
unfolding right_in
right_shown D s e =
    let (((a, b), d), r) = (eqb-true (bit s 0) 0 and eqb-true (bit s 1) 0 and eqb-true (word D s 0) D and sums_shown D s) e in
    record { bit_0 = a; bit_1 = b; depth = d; sums = r }

-- the cuts of a panel of the right length
abbrev pub cut_of : List ℕ → ℕ → Bool
cut_of s = cut_in (deep_of s) (leaf_bit (deep_of s) s)

pub decided : {s : List ℕ} → RightLength s → Decided (2 ^ deep_of s) (CutOf s) (cut_of s)
decided {s} r = decided_cuts (deep_of s) (leaf_bit (deep_of s) s) (fits_small r)

unfoldable pub pins_in : ℕ → List ℕ → Bool
pins_in D s = up_to (2 ^ D) (λ p. leb (pin_bit D s p) (leaf_bit D s p))

pins_shown : (D : ℕ) (s : List ℕ) → So (pins_in D s) → PinsOnLeaves D s
unfolding pins_in
pins_shown D s = shows_all (2 ^ D) (λ p. leb-true (pin_bit D s p) (leaf_bit D s p))

unfoldable pub good_panel : List ℕ → Bool
good_panel s = fits_in s (deep_of s) && right_in (deep_of s) s && eqb (leaf_bit (deep_of s) s 0) 1 && good_in (2 ^ deep_of s) (cut_of s) && pins_in (deep_of s) s

pub good_shown : (s : List ℕ) → So (good_panel s) → Good s
unfolding good_panel
good_shown s e =
    let ((((f, r), b), c), p) = ((says_fits s (deep_of s)).yes and right_shown (deep_of s) s and eqb-true (leaf_bit (deep_of s) s 0) 1 and (λ x. x) and pins_shown (deep_of s) s) e in
    record { fits = f; right = r; first = b; cuts = good_cuts (decided f) c; pins = p }
