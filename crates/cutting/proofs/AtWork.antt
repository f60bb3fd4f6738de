-- Split and merge change leaf bits and pins, one cut after the other, and the sums stay right. What the bytes at work keep of the panel, and
-- when they are a good one.
use mathlib.Core.Path.{◌≡◌, refl, sym, ◌∙◌, subst}
use mathlib.Core.Logic.Iff
use mathlib.Core.Logic.{◌≢◌, ◌⊎◌, ◌↔◌}
use mathlib.Core.List.{List}
use Prim.Native.Nat.{ℕ, ◌+◌, ◌^◌, ◌≤◌, ◌<◌}
use native.Mathlib.Omega.{arith}
use lib.ListN.{length}
use lib.Pow.{pow_pos}
use Rattle.nodes.specs.Depth.{depth_of}
use Rattle.words.specs.Words.{leaf_bit}
use Rattle.words.specs.inner.Working.{Room}
use Rattle.words.proofs.Rooms.{room_same}
use Rattle.sums.specs.Sums.{SumsRight, Right}
use Rattle.sums.proofs.Changes.{put_long, put_here, put_other, put_right}
use Rattle.cuts.specs.Cuts.{Cut, GoodCuts, place_of}
use Rattle.cuts.proofs.ForcedCuts.{good_iff}
use Rattle.cuts.proofs.OneBit.{OneBit, cut_same, add_iff, drop_iff}
use Rattle.pins.specs.Pins.{pin_bit, PinsOnLeaves}
use Rattle.pins.specs.inner.Steps.{PinRoom}
use Rattle.pins.proofs.PinBits.{pin_lt, pin_room_same, length_put_pin, leaf_put_pin, right_put_pin, pin_put_leaf, summed_pin}
use Rattle.panel.specs.Panels.{Fits, deep_of, CutOf, Good}
use Rattle.panel.proofs.Lengths.{fits_small, fits_room, fits_pins}
use Rattle.panel.proofs.SameBytes.{cut_of, deep_same}
use Rattle.cutting.specs.inner.Changing.{CutPut, Cuttable, CutUnder}

-- xs are the bytes of panel s with leaf bits and pins changed, but for the first leaf bit, and right sums
pub record AtWork (s xs : List ℕ) : Type 0 where
  pub long : length xs ≡ length s
  pub right : Right (deep_of s) xs
  pub first : leaf_bit (deep_of s) xs 0 ≡ 1

-- the cuts of bytes at work on panel s
abbrev pub CutIn : List ℕ → List ℕ → ℕ → Type 0
CutIn s xs = Cut (deep_of s) (leaf_bit (deep_of s) xs)

module _ {s : List ℕ} (G : Good s) where
  pub shallow : deep_of s ≤ 32
  shallow = omega (arith, fits_small G.fits)

  pub work_start : AtWork s s
  work_start = record { long = refl; right = G.right; first = G.first }

  pub work_room : {bs : List ℕ} → AtWork s bs → Room (deep_of s) bs
  work_room w = room_same w.long (fits_room s (deep_of s) G.fits)

  pub work_pins : {bs : List ℕ} → AtWork s bs → PinRoom (deep_of s) bs
  work_pins w = pin_room_same w.long (fits_pins s (deep_of s) G.fits)

  -- ---- the bit that names n is put

  module _ {bs ys : List ℕ} {n v : ℕ} (w : AtWork s bs) (c : CutPut (deep_of s) bs n v ys) (h : v < 2) where
    pub one_bit : OneBit (deep_of s) (leaf_bit (deep_of s) bs) (leaf_bit (deep_of s) ys) c.place v
    one_bit = record {
      here = put_here (work_room w) c.at.high h c.put;
      other = λ q l z. put_other (work_room w) c.at.high h c.put q z;
    }

    pub work_put : AtWork s ys
    work_put = record {
      long = put_long (work_room w) c.at.high h c.put ∙ w.long;
      right = put_right (work_room w) c.at.high h c.put w.right;
      first = put_other (work_room w) c.at.high h c.put 0 (omega (arith, c.at.low)) ∙ w.first;
    }

    -- the pins stay
    pub put_pins : (p : ℕ) → pin_bit (deep_of s) ys p ≡ pin_bit (deep_of s) bs p
    put_pins p = summed_pin c.put p ∙ pin_put_leaf (deep_of s) bs c.place v h c.at.high p

  -- set, it adds n's cut
  pub work_add : {bs ys : List ℕ} {n : ℕ} → AtWork s bs → CutPut (deep_of s) bs n 1 ys → (m : ℕ) → CutIn s ys m ↔ (CutIn s bs m ⊎ (m ≡ n))
  work_add w c = add_iff shallow c.at (one_bit w c (omega arith))

  -- cleared, it takes n's cut back
  pub work_drop : {bs ys : List ℕ} {n : ℕ} → AtWork s bs → CutPut (deep_of s) bs n 0 ys → (m : ℕ) → CutIn s ys m ↔ (CutIn s bs m × (m ≢ n))
  work_drop w c = drop_iff shallow c.at (one_bit w c (omega arith))

  -- ---- n is cut, with its pin

  module _ {bs ys : List ℕ} {n l : ℕ} (w : AtWork s bs) (c : CutUnder (deep_of s) bs n l ys) where
    v_lt : pin_bit (deep_of s) bs (place_of (deep_of s) l) < 2
    v_lt = pin_lt (deep_of s) bs (place_of (deep_of s) l)

    pub work_half : AtWork s c.half
    work_half = work_put w c.cut (omega arith)

    -- the pin's write leaves the leaf bits
    pub under_leaf : (p : ℕ) → p < 2 ^ deep_of s → leaf_bit (deep_of s) ys p ≡ leaf_bit (deep_of s) c.half p
    under_leaf = rw c.put (leaf_put_pin (deep_of s) c.half c.cut.place (pin_bit (deep_of s) bs (place_of (deep_of s) l)) v_lt)

    pub work_under : AtWork s ys
    work_under = record {
      long = rw c.put (length_put_pin (deep_of s) c.half c.cut.place (pin_bit (deep_of s) bs (place_of (deep_of s) l)) ∙ work_half.long);
      right = rw c.put (right_put_pin (deep_of s) c.half c.cut.place (pin_bit (deep_of s) bs (place_of (deep_of s) l)) v_lt work_half.right);
      first = under_leaf 0 (pow_pos (deep_of s)) ∙ work_half.first;
    }

    -- it adds n's cut
    pub under_add : (m : ℕ) → CutIn s ys m ↔ (CutIn s bs m ⊎ (m ≡ n))
    under_add m = Iff.trans (cut_same (deep_of s) (leaf_bit (deep_of s) ys) (leaf_bit (deep_of s) c.half) (λ p _. under_leaf p) m) (work_add w c.cut m)

  -- ---- the panel that is left

  module _ {t : List ℕ} (w : AtWork s t) where
    pub work_cuts : (n : ℕ) → CutOf t n ↔ CutIn s t n
    work_cuts n = cut_of s t w.long n

    pub work_good : GoodCuts (CutIn s t) → PinsOnLeaves (deep_of s) t → Good t
    work_good c o = record {
      fits = subst (Fits t) (sym e) (record { low = G.fits.low; high = G.fits.high; long = w.long ∙ G.fits.long });
      right = subst (λ D. Right D t) (sym e) w.right;
      first = subst (λ D. leaf_bit D t 0 ≡ 1) (sym e) w.first;
      cuts = good_iff (λ n h. Iff.symm (work_cuts n)) c;
      pins = subst (λ D. PinsOnLeaves D t) (sym e) o;
    }
      where
        e : deep_of t ≡ deep_of s
        e = deep_same s t w.long

-- ---- as the code asks: D is the panel's depth

module _ {s : List ℕ} (G : Good s) {D : ℕ} (e : D ≡ deep_of s) where
  pub room_at : {bs : List ℕ} → AtWork s bs → Room D bs
  room_at {bs} w = subst (λ x. Room x bs) (sym e) (work_room G w)

  pub sums_at : {bs : List ℕ} → AtWork s bs → SumsRight D bs
  sums_at {bs} w = subst (λ x. SumsRight x bs) (sym e) w.right.sums

  pub cuttable_at : {bs : List ℕ} {n i : ℕ} → AtWork s bs → PinsOnLeaves (deep_of s) bs → 1 ≤ n → depth_of n + 1 + i ≡ deep_of s → (CutIn s bs n → ⊥) → Cuttable D bs n i
  cuttable_at {bs} {n} {i} w o l h z =
      subst (λ x. Cuttable x bs n i) (sym e) (record { room = work_pins G w; sums = w.right.sums; pins = o; low = l; deep = h; uncut = z })

  pub under_at : {xs ys : List ℕ} {n l : ℕ} → CutUnder D xs n l ys → CutUnder (deep_of s) xs n l ys
  under_at {xs} {ys} {n} {l} c = subst (λ x. CutUnder x xs n l ys) e c

  pub put_at : {xs ys : List ℕ} {n v : ℕ} → CutPut D xs n v ys → CutPut (deep_of s) xs n v ys
  put_at {xs} {ys} {n} {v} c = subst (λ x. CutPut x xs n v ys) e c

  pub cut_at : (bs : List ℕ) (n : ℕ) → Cut D (leaf_bit D bs) n ↔ CutIn s bs n
  cut_at bs n = subst (λ x. Cut D (leaf_bit D bs) n ↔ Cut x (leaf_bit x bs) n) e (λ c. c, λ c. c)
