-- A right length is the one that belongs to a depth within the limits, that depth comes from it, and it has room for the words and the pins.
use mathlib.Core.Path.{◌≡◌, sym, ap, ◌∙◌, subst, subst⁻¹}
use mathlib.Core.Logic.{◌↔◌}
use mathlib.Core.List.{List}
use Prim.Native.Nat.{ℕ, zero, suc, ◌+◌, ◌-◌, ◌*◌, ◌/◌, ◌^◌, ◌≤◌, ◌<◌}
use native.Mathlib.Nat.{pow-suc, mul-div_left}
use native.Mathlib.Decide.{dec_le}
use native.Mathlib.Omega.{arith}
use lib.ListN.{length}
use lib.Pow.{pow-add, pow_mono, pow_pos}
use Rattle.nodes.specs.Depth.{depth_of}
use Rattle.nodes.specs.Limits.{least_depth, greatest_depth}
use Rattle.nodes.proofs.Depths.{depth_is}
use Rattle.nodes.proofs.Limits.{greatest_small}
use Rattle.words.specs.inner.Working.{Room}
use Rattle.words.proofs.Rooms.{whole_bytes}
use Rattle.pins.specs.inner.Steps.{PinRoom}
use Rattle.panel.specs.Panels.{size_of, Fits, deep_of, RightLength, Good}

-- ---- the length of a panel of depth D

pub size_five : (D : ℕ) → 5 * 2 ^ D / 8 ≡ size_of D
size_five D = ap (λ x. x / 8) (omega (arith, pow-add 2 D 2))

pub size_is : (D : ℕ) → 3 ≤ D → size_of D ≡ 5 * 2 ^ (D - 3)
size_is D l =
    let e : 5 * 2 ^ D ≡ 5 * 2 ^ (D - 3) * 8 = omega (arith, whole_bytes D l) in
    sym (size_five D) ∙ ap (λ x. x / 8) e ∙ mul-div_left (5 * 2 ^ (D - 3)) (omega arith)

-- its bytes are all the bits of words and pins, and no more
pub size_bits : (D : ℕ) → 3 ≤ D → 8 * size_of D ≡ 5 * 2 ^ D
size_bits D l = omega (arith, size_is D l, whole_bytes D l)

-- so many are of words, and so many of pins
pub size_parts : (D : ℕ) → 3 ≤ D → size_of D ≡ 2 ^ (D - 1) + 2 ^ (D - 3)
size_parts D l =
    let e : 2 ^ (D - 1) ≡ 4 * 2 ^ (D - 3) = ap (λ x. 2 ^ x) (let f : D - 1 ≡ D - 3 + 2 = omega arith in f) ∙ pow-add 2 (D - 3) 2 ∙ omega arith in
    size_is D l ∙ omega arith

-- its depth is one less than D
pub size_deep : (D : ℕ) → 3 ≤ D → depth_of (size_of D) + 1 ≡ D
size_deep zero l = absurd (omega arith)
size_deep (suc d) l =
    omega (arith, depth_is {d = d} {n = size_of (suc d)} (let p = pow-suc 2 d in let q = size_bits (suc d) l in let r = pow_pos d in record { low = omega arith; high = omega arith }))

size_next : (D : ℕ) → size_of D < size_of (suc D)
size_next zero = omega arith
size_next (suc zero) = omega arith
size_next (suc (suc zero)) = omega arith
size_next (suc (suc (suc d))) = omega (arith, size_bits (suc (suc (suc d))) (omega arith), size_bits (suc (suc (suc (suc d)))) (omega arith), pow-suc 2 (suc (suc (suc d))), pow_pos (suc (suc (suc d))))

size_mono : (D E : ℕ) → D ≤ E → size_of D ≤ size_of E
size_mono D E l = omega (arith, size_five D, size_five E, pow_mono {i = D} {j = E} l)

-- deeper is longer
pub size_order : (D E : ℕ) → (D ≤ E) ↔ (size_of D ≤ size_of E)
size_order D E = (size_mono D E, λ l. go l (dec_le D E))
  where
    go : size_of D ≤ size_of E → Dec (D ≤ E) → D ≤ E
    go l (yes h) = h
    go l (no h) = absurd (omega (arith, size_next E, size_mono (suc E) D (omega arith)))

-- ---- bytes of that length

pub fits_small : {s : List ℕ} {D : ℕ} → Fits s D → D ≤ 17
fits_small f = omega (arith, f.high, greatest_small)

-- a length that fits a depth fits no other
pub fits_deep : (s : List ℕ) (D : ℕ) → Fits s D → deep_of s ≡ D
fits_deep s D f = ap (λ n. depth_of n + 1) f.long ∙ size_deep D f.low

pub fits_right : (s : List ℕ) (D : ℕ) → Fits s D → RightLength s
fits_right s D f = subst (Fits s) (sym (fits_deep s D f)) f

-- what is as long has a right length too
pub right_as_long : {s t : List ℕ} → length t ≡ length s → RightLength s → RightLength t
right_as_long {s} {t} e f = fits_right t (deep_of s) (record { low = f.low; high = f.high; long = e ∙ f.long })

pub fits_bits : (s : List ℕ) (D : ℕ) → Fits s D → 8 * length s ≡ 5 * 2 ^ D
fits_bits s D f = ap (λ n. 8 * n) f.long ∙ size_bits D f.low

pub fits_room : (s : List ℕ) (D : ℕ) → Fits s D → Room D s
fits_room s D f = record { low = f.low; high = fits_small f; long = omega (arith, fits_bits s D f, pow-add 2 D 2) }

pub fits_pins : (s : List ℕ) (D : ℕ) → Fits s D → PinRoom D s
fits_pins s D f = record { words = fits_room s D f; pins = omega (arith, fits_bits s D f) }

pub good_room : (s : List ℕ) → Good s → {D : ℕ} → D ≡ deep_of s → Room D s
good_room s G deep = subst⁻¹ (λ x. Room x s) deep (fits_room s (deep_of s) G.fits)

pub good_pins : (s : List ℕ) → Good s → {D : ℕ} → D ≡ deep_of s → PinRoom D s
good_pins s G deep = subst⁻¹ (λ x. PinRoom x s) deep (fits_pins s (deep_of s) G.fits)

-- ---- what the code tests

pub length_least : (s : List ℕ) → RightLength s → size_of least_depth ≤ length s
length_least s r = omega (arith, r.long, (size_order least_depth (deep_of s)).0 r.low)

pub length_greatest : (s : List ℕ) → RightLength s → length s ≤ size_of greatest_depth
length_greatest s r = omega (arith, r.long, (size_order (deep_of s) greatest_depth).0 r.high)

pub length_right : (s : List ℕ) → size_of least_depth ≤ length s → length s ≤ size_of greatest_depth → length s ≡ size_of (deep_of s) → RightLength s
length_right s l h e = record {
  low = (size_order least_depth (deep_of s)).1 (omega arith);
  high = (size_order (deep_of s) greatest_depth).1 (omega arith);
  long = e;
}
