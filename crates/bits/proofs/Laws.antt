-- Laws of bits and fields: what a write changes and what it leaves, over any width; two lists of bytes with the same bits are equal.
use mathlib.Core.Path.{◌≡◌, refl, sym, ap, ap₂, ◌∙◌, subst}
use mathlib.Core.Logic.{◌⊎◌, inl, inr, ⊎_elim}
use mathlib.Core.List.{List, [], ◌∷◌}
use Prim.Native.Nat.{ℕ, zero, suc, ◌+◌, ◌-◌, ◌*◌, ◌/◌, ◌%◌, ◌^◌, ◌≤◌, ◌<◌, suc-le-suc}
use native.Mathlib.Nat.{one-mul, le_dest, le_of_suc-le-suc, not-suc-le-zero, mod-lt, mod-one, div-one, mod-eq_of_lt, add-zero, add_assoc, pow-suc}
use native.Mathlib.Numerals.{add-one, one-add}
use native.Mathlib.Omega.{arith}
use lib.ListN.{length, get_or, set, length-set}
use lib.Seq.{get_or-set_same, get_or-set_other, set-get_or, set_out, ext_get_or}
use lib.Arith.{digits_lt}
use lib.Pow.{shr_lt, pow_pos, pow-add, shr-shr, split, high, low, mod-pow-add, mod-mod-pow}
use lib.Pow as P
use Rattle.bits.specs.Bits.{digit, bit, run, field}
use Rattle.bits.specs.inner.Puts.{with_digit, put_bit, put_field}
use Rattle.bits.specs.Little.{little}
pub use Rattle.bits.specs.Bits.{Bytes}

-- ---- digits of a number

pub digit_lt : (n k : ℕ) → digit n k < 2
digit_lt n k = omega arith

pub digit_shift : (n j k : ℕ) → digit (n / 2 ^ j) k ≡ digit n (j + k)
digit_shift n j k = ap (λ (x : ℕ). x % 2) (shr-shr n j k)

pub digit-mod : (n j k : ℕ) → j < k → digit (n % 2 ^ k) j ≡ digit n j
digit-mod n j k h =
    let d = le_dest h in
    let e : (d.0 + 1) + j ≡ k = omega (arith, d.1) in
    ap (λ (x : ℕ). n % 2 ^ x / 2 ^ j % 2) (sym e) ∙ ap (λ (x : ℕ). x % 2) (P.field n (d.0 + 1) j) ∙ mod-mod-pow (n / 2 ^ j) d.0 1

pub digit_high : (a k j : ℕ) {r : ℕ} → r < 2 ^ k → digit (a * 2 ^ k + r) (k + j) ≡ digit a j
digit_high a k j {r} h = sym (digit_shift (a * 2 ^ k + r) k j) ∙ ap (λ (x : ℕ). digit x j) (high a k h)

pub digit_low : (a k j : ℕ) {r : ℕ} → r < 2 ^ k → j < k → digit (a * 2 ^ k + r) j ≡ digit r j
digit_low a k j {r} h l = sym (digit-mod (a * 2 ^ k + r) j k l) ∙ ap (λ (x : ℕ). digit x j) (low a k h)

-- ---- one digit replaced

module _ (n k v : ℕ) (hv : v < 2) where
  pub with_same : digit (with_digit n k v) k ≡ v
  with_same =
      let e : with_digit n k v / 2 ^ k ≡ n / 2 ^ k / 2 * 2 + v = high (n / 2 ^ k / 2 * 2 + v) k (mod-lt n (pow_pos k)) in
      omega (arith, e)

  pub with_below : (j : ℕ) → j < k → digit (with_digit n k v) j ≡ digit n j
  with_below j h = digit_low (n / 2 ^ k / 2 * 2 + v) k j (mod-lt n (pow_pos k)) h ∙ digit-mod n j k h

  pub with_above : (j : ℕ) → k < j → digit (with_digit n k v) j ≡ digit n j
  with_above j h =
      let d = le_dest h in
      let e : k + (1 + d.0) ≡ j = omega (arith, d.1) in
      let half : (n / 2 ^ k / 2 * 2 + v) / 2 ≡ n / 2 ^ k / 2 = omega arith in
      subst (λ (x : ℕ). digit (with_digit n k v) x ≡ digit n x) e
      (digit_high (n / 2 ^ k / 2 * 2 + v) k (1 + d.0) (mod-lt n (pow_pos k))
      ∙ sym (digit_shift (n / 2 ^ k / 2 * 2 + v) 1 d.0) ∙ ap (λ (x : ℕ). digit x d.0) half
      ∙ digit_shift (n / 2 ^ k) 1 d.0 ∙ digit_shift n k (1 + d.0))

-- ---- runs

pub run_ext : (f g : ℕ → ℕ) (s t w : ℕ) → ((i : ℕ) → i < w → f (s + i) ≡ g (t + i)) → run f s w ≡ run g t w
unfolding run
run_ext f g s t zero h = refl
run_ext f g s t (suc w) h =
    ap₂ (λ (x y : ℕ). x + 2 * y)
    (ap f (sym (add-zero s)) ∙ h zero (omega arith) ∙ ap g (add-zero t))
    (run_ext f g (s + 1) (t + 1) w
    (λ i l. ap f (add_assoc s 1 i) ∙ h (1 + i) (omega arith) ∙ ap g (sym (add_assoc t 1 i))))

-- the run of a number's own digits
pub run_digits : (n s w : ℕ) → run (digit n) s w ≡ n / 2 ^ s % 2 ^ w
unfolding run
run_digits n s zero = sym (mod-one (n / 2 ^ s))
run_digits n s (suc w) =
    ap (λ (x : ℕ). digit n s + 2 * x) (run_digits n (s + 1) w ∙ ap (λ (x : ℕ). x % 2 ^ w) (sym (shr-shr n s 1)))
    ∙ omega (arith, mod-pow-add (n / 2 ^ s) w 1)
    ∙ ap (λ (x : ℕ). n / 2 ^ s % 2 ^ x) (add-one w)

module _ (f : ℕ → ℕ) (two : (i : ℕ) → f i < 2) where
  pub run_lt : (s w : ℕ) → run f s w < 2 ^ w
  unfolding run
  run_lt s zero = omega arith
  run_lt s (suc w) = omega (arith, run_lt (s + 1) w, two s, pow-suc 2 w)

  pub run-digit : (s w i : ℕ) → i < w → digit (run f s w) i ≡ f (s + i)
  unfolding run
  run-digit s zero i h = absurd (not-suc-le-zero h)
  run-digit s (suc w) zero h =
      omega (arith, two s, div-one (f s + 2 * run f (s + 1) w)) ∙ ap f (sym (add-zero s))
  run-digit s (suc w) (suc i) h =
      let half : (f s + 2 * run f (s + 1) w) / 2 ≡ run f (s + 1) w = omega (arith, two s) in
      ap (digit (f s + 2 * run f (s + 1) w)) (sym (one-add i)) ∙ sym (digit_shift (f s + 2 * run f (s + 1) w) 1 i)
      ∙ ap (λ (x : ℕ). digit x i) half ∙ run-digit (s + 1) w i (le_of_suc-le-suc h)
      ∙ ap f (omega arith)

-- two runs of bits are equal only if each bit is
pub run_inj : (f g : ℕ → ℕ) → ((i : ℕ) → f i < 2) → ((i : ℕ) → g i < 2) → (s t w : ℕ) → run f s w ≡ run g t w
    → (i : ℕ) → i < w → f (s + i) ≡ g (t + i)
run_inj f g hf hg s t w e i h = sym (run-digit f hf s w i h) ∙ ap (λ (x : ℕ). digit x i) e ∙ run-digit g hg t w i h

-- ---- bits of bytes

pub bit_lt : (bs : List ℕ) (p : ℕ) → bit bs p < 2
bit_lt bs p = digit_lt (get_or bs (p / 8) 0) (p % 8)

pub field_lt : (bs : List ℕ) (s w : ℕ) → field bs s w < 2 ^ w
field_lt bs s w = run_lt (bit bs) (bit_lt bs) s w

pub length_put_bit : (bs : List ℕ) (p v : ℕ) → length (put_bit bs p v) ≡ length bs
length_put_bit bs p v = length-set bs (p / 8) _

pub bit_put_same : (bs : List ℕ) (p v : ℕ) → p / 8 < length bs → v < 2 → bit (put_bit bs p v) p ≡ v
bit_put_same bs p v h hv =
    ap (λ (x : ℕ). digit x (p % 8)) (get_or-set_same bs (p / 8) _ 0 h) ∙ with_same (get_or bs (p / 8) 0) (p % 8) v hv

pub order : (a b : ℕ) → (a < b) ⊎ ((a ≡ b) ⊎ (b < a))
order zero zero = inr (inl refl)
order zero (suc b) = inl (omega arith)
order (suc a) zero = inr (inr (omega arith))
order (suc a) (suc b) =
    ⊎_elim (λ l. inl (suc-le-suc l)) (λ r. inr (⊎_elim (λ e. inl (ap suc e)) (λ l. inr (suc-le-suc l)) r)) (order a b)

pub le_or_lt : (a b : ℕ) → (a ≤ b) ⊎ (b < a)
le_or_lt a b = ⊎_elim (λ l. inl (omega arith)) (λ r. ⊎_elim (λ e. inl (omega arith)) (λ l. inr l) r) (order a b)

-- what stands at j after a store at i whose value f cannot tell from the old one
at_set : (f : ℕ → ℕ) (bs : List ℕ) (i j x : ℕ) → (j ≡ i → f x ≡ f (get_or bs i 0)) → f (get_or (set bs i x) j 0) ≡ f (get_or bs j 0)
at_set f bs i j x h = ⊎_elim (λ l. other (omega arith)) (λ r. ⊎_elim same (λ l. other (omega arith)) r) (order j i)
  where
    other : (j ≡ i → ⊥) → f (get_or (set bs i x) j 0) ≡ f (get_or bs j 0)
    other n = ap f (get_or-set_other bs i j x 0 n)

    same : j ≡ i → f (get_or (set bs i x) j 0) ≡ f (get_or bs j 0)
    same e =
        ⊎_elim (λ out. ap (λ (l : List ℕ). f (get_or l j 0)) (set_out bs i x out))
        (λ l. ap (λ (k : ℕ). f (get_or (set bs i x) k 0)) e ∙ ap f (get_or-set_same bs i x 0 l) ∙ h e ∙ ap (λ (k : ℕ). f (get_or bs k 0)) (sym e))
        (le_or_lt (length bs) i)

-- a bit that is v already: the bytes stay
pub put_none : (bs : List ℕ) (p v : ℕ) → bit bs p ≡ v → put_bit bs p v ≡ bs
put_none bs p v e =
    let n : ℕ = get_or bs (p / 8) 0 in
    let k : ℕ = p % 8 in
    let h : n / 2 ^ k / 2 * 2 + v ≡ n / 2 ^ k = omega arith in
    ap (set bs (p / 8)) (ap (λ (x : ℕ). x * 2 ^ k + n % 2 ^ k) h ∙ split n k) ∙ set-get_or bs (p / 8) 0

pub bit_put_other : (bs : List ℕ) (p q v : ℕ) → v < 2 → (q ≡ p → ⊥) → bit (put_bit bs p v) q ≡ bit bs q
bit_put_other bs p q v hv h =
    at_set (λ (x : ℕ). digit x (q % 8)) bs (p / 8) (q / 8) _
    (λ e. ⊎_elim (with_below (get_or bs (p / 8) 0) (p % 8) v hv (q % 8))
    (λ r. ⊎_elim (λ t. absurd (h (omega arith))) (with_above (get_or bs (p / 8) 0) (p % 8) v hv (q % 8)) r)
    (order (q % 8) (p % 8)))

-- ---- every element is a byte

-- a digit below m replaced, in a number of m digits
pub with_lt : (n k m v : ℕ) → v < 2 → k < m → n < 2 ^ m → with_digit n k v < 2 ^ m
with_lt n k m v hv h hn =
    let d = le_dest h in
    let e : (d.0 + 1) + k ≡ m = omega (arith, d.1) in
    let top : n / 2 ^ k < 2 ^ (d.0 + 1) = shr_lt (d.0 + 1) k (subst (λ (x : ℕ). n < 2 ^ x) (sym e) hn) in
    let q : n / 2 ^ k / 2 * 2 + v < 2 ^ (d.0 + 1) = omega (arith, pow-add 2 d.0 1) in
    subst (λ (x : ℕ). with_digit n k v < x) (sym (pow-add 2 (d.0 + 1) k) ∙ ap (λ (x : ℕ). 2 ^ x) e)
    (digits_lt q (mod-lt n (pow_pos k)))

pub all_set : (P : ℕ → Type 0) (bs : List ℕ) (i x j : ℕ) → P x → P (get_or bs j 0) → P (get_or (set bs i x) j 0)
all_set P [] i x j hx h = h
all_set P (y ∷ ys) zero x zero hx h = hx
all_set P (y ∷ ys) zero x (suc j) hx h = h
all_set P (y ∷ ys) (suc i) x zero hx h = h
all_set P (y ∷ ys) (suc i) x (suc j) hx h = all_set P ys i x j hx h

pub bytes_put : (bs : List ℕ) (p v : ℕ) → v < 2 → Bytes bs → Bytes (put_bit bs p v)
bytes_put bs p v hv hb i =
    all_set (λ (x : ℕ). x < 256) bs (p / 8) _ i (with_lt (get_or bs (p / 8) 0) (p % 8) 8 v hv (omega arith) (hb (p / 8))) (hb i)

-- ---- two lists of bytes with the same bits

pub bit_at : (bs : List ℕ) (i k : ℕ) → k < 8 → bit bs (8 * i + k) ≡ digit (get_or bs i 0) k
bit_at bs i k h =
    let a : (8 * i + k) / 8 ≡ i = omega arith in
    let b : (8 * i + k) % 8 ≡ k = omega arith in
    ap₂ (λ (x y : ℕ). digit (get_or bs x 0) y) a b

byte_run : (n : ℕ) → n < 256 → n ≡ run (digit n) 0 8
byte_run n h = sym (run_digits n 0 8 ∙ omega arith)

-- a byte is the field of its eight bits
pub field_byte : (bs : List ℕ) (i : ℕ) → get_or bs i 0 < 256 → field bs (8 * i) 8 ≡ get_or bs i 0
field_byte bs i h =
    run_ext (bit bs) (digit (get_or bs i 0)) (8 * i) 0 8 (λ k l. bit_at bs i k l ∙ ap (digit (get_or bs i 0)) (omega arith))
    ∙ sym (byte_run (get_or bs i 0) h)

pub ext_bits : (xs ys : List ℕ) → Bytes xs → Bytes ys → length xs ≡ length ys → ((p : ℕ) → p / 8 < length xs → bit xs p ≡ bit ys p) → xs ≡ ys
ext_bits xs ys hx hy e h =
    ext_get_or 0 xs ys e (λ i l. byte_run (get_or xs i 0) (hx i)
    ∙ run_ext (digit (get_or xs i 0)) (digit (get_or ys i 0)) 0 0 8 (λ k b. same i l (0 + k) (omega arith))
    ∙ sym (byte_run (get_or ys i 0) (hy i)))
  where
    same : (i : ℕ) → i < length xs → (k : ℕ) → k < 8 → digit (get_or xs i 0) k ≡ digit (get_or ys i 0) k
    same i l k b = sym (bit_at xs i k b) ∙ h (8 * i + k) (omega arith) ∙ bit_at ys i k b

-- ---- a field is put

pub length-put_field : (bs : List ℕ) (s w v : ℕ) → length (put_field bs s w v) ≡ length bs
unfolding put_field
length-put_field bs s zero v = refl
length-put_field bs s (suc w) v = length-put_field (put_bit bs s (v % 2)) (s + 1) w (v / 2) ∙ length_put_bit bs s (v % 2)

pub bytes_put_field : (bs : List ℕ) (s w v : ℕ) → Bytes bs → Bytes (put_field bs s w v)
unfolding put_field
bytes_put_field bs s zero v hb = hb
bytes_put_field bs s (suc w) v hb = bytes_put_field (put_bit bs s (v % 2)) (s + 1) w (v / 2) (bytes_put bs s (v % 2) (omega arith) hb)

-- p is outside of the w bits from s
abbrev pub Out : ℕ → ℕ → ℕ → Type 0
Out s w p = (p < s) ⊎ (s + w ≤ p)

pub bit_out : (bs : List ℕ) (s w v p : ℕ) → Out s w p → bit (put_field bs s w v) p ≡ bit bs p
unfolding put_field
bit_out bs s zero v p h = refl
bit_out bs s (suc w) v p h =
    bit_out (put_bit bs s (v % 2)) (s + 1) w (v / 2) p (⊎_elim (λ l. inl (omega arith)) (λ l. inr (omega arith)) h)
    ∙ bit_put_other bs s p (v % 2) (omega arith) (⊎_elim (λ l e. omega arith) (λ l e. omega arith) h)

pub bit_in : (bs : List ℕ) (s w v i : ℕ) → i < w → s + w ≤ 8 * length bs → bit (put_field bs s w v) (s + i) ≡ digit v i
unfolding put_field
bit_in bs s zero v i h l = absurd (not-suc-le-zero h)
bit_in bs s (suc w) v zero h l =
    ap (bit (put_field (put_bit bs s (v % 2)) (s + 1) w (v / 2))) (add-zero s)
    ∙ bit_out (put_bit bs s (v % 2)) (s + 1) w (v / 2) s (inl (omega arith))
    ∙ bit_put_same bs s (v % 2) (omega arith) (omega arith) ∙ ap (λ (x : ℕ). x % 2) (sym (div-one v))
bit_in bs s (suc w) v (suc i) h l =
    ap (bit (put_field (put_bit bs s (v % 2)) (s + 1) w (v / 2))) (omega arith)
    ∙ bit_in (put_bit bs s (v % 2)) (s + 1) w (v / 2) i (le_of_suc-le-suc h) (omega (arith, length_put_bit bs s (v % 2)))
    ∙ digit_shift v 1 i ∙ ap (digit v) (one-add i)

pub field_put_same : (bs : List ℕ) (s w v : ℕ) → v < 2 ^ w → s + w ≤ 8 * length bs → field (put_field bs s w v) s w ≡ v
field_put_same bs s w v hv l =
    run_ext (bit (put_field bs s w v)) (digit v) s 0 w (λ i h. bit_in bs s w v i h l ∙ ap (digit v) (omega arith))
    ∙ run_digits v 0 w ∙ ap (λ (x : ℕ). x % 2 ^ w) (div-one v) ∙ mod-eq_of_lt hv

-- a part of it
pub field_put_part : (bs : List ℕ) (t u v s w : ℕ) → t ≤ s → s + w ≤ t + u → t + u ≤ 8 * length bs → field (put_field bs t u v) s w ≡ v / 2 ^ (s - t) % 2 ^ w
field_put_part bs t u v s w a b l =
    run_ext (bit (put_field bs t u v)) (digit v) s (s - t) w (λ i h. ap (bit (put_field bs t u v)) (omega arith) ∙ bit_in bs t u v (s - t + i) (omega arith) l)
    ∙ run_digits v (s - t) w

pub field_put_other : (bs : List ℕ) (s w v t u : ℕ) → (t + u ≤ s) ⊎ (s + w ≤ t) → field (put_field bs s w v) t u ≡ field bs t u
field_put_other bs s w v t u h =
    run_ext (bit (put_field bs s w v)) (bit bs) t t u (λ i l. bit_out bs s w v (t + i)
    (⊎_elim (λ x. inl (omega arith)) (λ x. inr (omega arith)) h))

-- ---- a window of bytes

little_step : (b m k : ℕ) → b < 256 → (bit-k : ℕ) → (k < 8 → digit b k ≡ bit-k) → ((j : ℕ) → 8 + j ≡ k → digit m j ≡ bit-k) → digit (b + 256 * m) k ≡ bit-k
little_step b m k hb x lo hi =
    let e : b + 256 * m ≡ m * 2 ^ 8 + b = omega arith in
    ap (λ (n : ℕ). digit n k) e
    ∙ ⊎_elim (λ l. let d = le_dest l in ap (digit (m * 2 ^ 8 + b)) (sym d.1) ∙ digit_high m 8 d.0 hb ∙ hi d.0 d.1)
    (λ l. digit_low m 8 k hb l ∙ lo l) (le_or_lt 8 k)

pub little-digit : (bs : List ℕ) → Bytes bs → (i n k : ℕ) → k < 8 * n → digit (little bs i n) k ≡ bit bs (8 * i + k)
unfolding little
little-digit bs hb i zero k h = omega arith
little-digit bs hb i (suc n) k h =
    little_step (get_or bs i 0) (little bs (i + 1) n) k (hb i) (bit bs (8 * i + k)) (λ l. sym (bit_at bs i k l))
    (λ j e. little-digit bs hb (i + 1) n j (omega arith) ∙ ap (bit bs) (omega arith))

-- the machine's `1 << k` at b bits
pub one_shl : (k b : ℕ) → k < b → 1 * 2 ^ k % 2 ^ b ≡ 2 ^ k
one_shl k b h = ap (λ (x : ℕ). x % 2 ^ b) (one-mul (2 ^ k)) ∙ mod-eq_of_lt (P.pow-lt h)
