-- A field lies in any window of bits that holds its own, and is read and put through it.
use mathlib.Core.Path.{◌≡◌, sym, ap, ap₂, ◌∙◌, subst}
use mathlib.Core.Logic.{inl, inr, ⊎_elim}
use mathlib.Core.List.{List}
use Prim.Native.Nat.{ℕ, ◌+◌, ◌-◌, ◌*◌, ◌/◌, ◌%◌, ◌^◌, ◌≤◌, ◌<◌}
use native.Mathlib.Nat.{add-mul, div-add-mod', le_dest, mod-lt, mod-eq_of_lt, div-mul-le_self}
use native.Mathlib.Omega.{arith}
use lib.ListN.{length, get_or, drop}
use lib.Seq.{get_or-drop}
use lib.Arith.{digits_lt}
use lib.Bits.{bit_or, or_shifted}
use lib.Pow.{pow_pos, pow-add, shr_lt, shr_le}
use Rattle.bits.specs.Bits.{digit, bit, run, field}
use Rattle.bits.specs.inner.Puts.{put_field}
use Rattle.bits.proofs.Laws.{Out, run_ext, run-digit, run_digits, digit_shift, digit-mod, digit_high, digit_low, bit_lt, Bytes, le_or_lt, ext_bits, length-put_field, bytes_put_field, bit_in, bit_out, one_shl}

-- n with its w digits from k on set to v
abbrev pub with_field : ℕ → ℕ → ℕ → ℕ → ℕ
with_field n k w v = (n / 2 ^ k / 2 ^ w * 2 ^ w + v) * 2 ^ k + n % 2 ^ k

module _ (n k w v : ℕ) (hv : v < 2 ^ w) where
  pub wf_below : (j : ℕ) → j < k → digit (with_field n k w v) j ≡ digit n j
  wf_below j h = digit_low (n / 2 ^ k / 2 ^ w * 2 ^ w + v) k j (mod-lt n (pow_pos k)) h ∙ digit-mod n j k h

  pub wf_in : (j : ℕ) → j < w → digit (with_field n k w v) (k + j) ≡ digit v j
  wf_in j h = digit_high (n / 2 ^ k / 2 ^ w * 2 ^ w + v) k j (mod-lt n (pow_pos k)) ∙ digit_low (n / 2 ^ k / 2 ^ w) w j hv h

  pub wf_above : (j : ℕ) → digit (with_field n k w v) (k + (w + j)) ≡ digit n (k + (w + j))
  wf_above j =
      digit_high (n / 2 ^ k / 2 ^ w * 2 ^ w + v) k (w + j) (mod-lt n (pow_pos k)) ∙ digit_high (n / 2 ^ k / 2 ^ w) w j hv
      ∙ digit_shift (n / 2 ^ k) w j ∙ digit_shift n k (w + j)

  pub wf_lt : (m : ℕ) → k + w ≤ m → n < 2 ^ m → with_field n k w v < 2 ^ m
  wf_lt m h hn =
      let d = le_dest h in
      let e : (d.0 + w) + k ≡ m = omega (arith, d.1) in
      let top : n / 2 ^ k / 2 ^ w < 2 ^ d.0 = shr_lt d.0 w (shr_lt (d.0 + w) k (subst (λ (x : ℕ). n < 2 ^ x) (sym e) hn)) in
      subst (λ (x : ℕ). with_field n k w v < x) (sym (pow-add 2 (d.0 + w) k) ∙ ap (λ (x : ℕ). 2 ^ x) e)
      (digits_lt (subst (λ (x : ℕ). n / 2 ^ k / 2 ^ w * 2 ^ w + v < x) (sym (pow-add 2 d.0 w)) (digits_lt top hv)) (mod-lt n (pow_pos k)))

-- a field is in the window of the u bits from bit t on ..
pub field_window : (bs : List ℕ) (s w t u : ℕ) → t ≤ s → s + w ≤ t + u → field bs s w ≡ field bs t u / 2 ^ (s - t) % 2 ^ w
field_window bs s w t u l h =
    run_ext (bit bs) (digit (field bs t u)) s (s - t) w (λ j k. sym (run-digit (bit bs) (bit_lt bs) t u (s - t + j) (omega arith) ∙ ap (bit bs) (omega arith)))
    ∙ run_digits (field bs t u) (s - t) w

-- .. and to put the field is to put that window
module _ (bs : List ℕ) (hb : Bytes bs) (s w v t u : ℕ) (hv : v < 2 ^ w) (lo : t ≤ s) (hi : s + w ≤ t + u) (hl : t + u ≤ 8 * length bs) where
  abbrev k : ℕ
  k = s - t

  abbrev old : ℕ
  old = field bs t u

  abbrev new : ℕ
  new = with_field old k w v

  -- bit j of the window
  inside : (j : ℕ) → j < u → digit new j ≡ bit (put_field bs s w v) (t + j)
  inside j h =
      ⊎_elim (λ a. let d = le_dest a in
      ⊎_elim (λ b. let f = le_dest b in
      let e : k + (w + f.0) ≡ j = omega (arith, d.1, f.1) in
      ap (digit new) (sym e) ∙ wf_above old k w v hv f.0 ∙ ap (digit old) e ∙ run-digit (bit bs) (bit_lt bs) t u j h ∙ sym (bit_out bs s w v (t + j) (inr (omega arith))))
      (λ b.
      ap (digit new) (sym d.1) ∙ wf_in old k w v hv d.0 b ∙ sym (bit_in bs s w v d.0 b (omega arith)) ∙ ap (bit (put_field bs s w v)) (omega (arith, d.1)))
      (le_or_lt w d.0))
      (λ a. wf_below old k w v hv j a ∙ run-digit (bit bs) (bit_lt bs) t u j h ∙ sym (bit_out bs s w v (t + j) (inl (omega arith))))
      (le_or_lt k j)

  outside : (p : ℕ) → Out t u p → bit (put_field bs t u new) p ≡ bit (put_field bs s w v) p
  outside p o = bit_out bs t u new p o ∙ sym (bit_out bs s w v p (⊎_elim (λ l. inl (omega arith)) (λ l. inr (omega arith)) o))

  pub put_window : put_field bs t u new ≡ put_field bs s w v
  put_window =
      ext_bits (put_field bs t u new) (put_field bs s w v) (bytes_put_field bs t u new hb) (bytes_put_field bs s w v hb)
      (length-put_field bs t u new ∙ sym (length-put_field bs s w v))
      (λ p l. ⊎_elim (λ a. let d = le_dest a in
      ⊎_elim (λ b. outside p (inr b))
      (λ b. ap (bit (put_field bs t u new)) (sym d.1) ∙ bit_in bs t u new d.0 (omega (arith, d.1)) hl ∙ inside d.0 (omega (arith, d.1)) ∙ ap (bit (put_field bs s w v)) d.1)
      (le_or_lt (t + u) p))
      (λ a. outside p (inl a))
      (le_or_lt t p))

-- a window with another number in its field, made of its parts: the machine's shifts lose nothing
pub placed : (n k w v : ℕ) → n < 2 ^ 32 → k < 32 → k + w ≤ 32 → v < 2 ^ w
    → bit_or (bit_or (n / 2 ^ k / 2 ^ w * 2 ^ w % 2 ^ 32) v * 2 ^ k % 2 ^ 32) (n % (1 * 2 ^ k % 2 ^ 32)) ≡ with_field n k w v
placed n k w v hn hk hw hv =
    let high : ℕ = n / 2 ^ k / 2 ^ w in
    let l = wf_lt n k w v hv 32 hw hn in
    let a : bit_or (high * 2 ^ w % 2 ^ 32) v ≡ high * 2 ^ w + v =
    ap (λ (x : ℕ). bit_or x v) (mod-eq_of_lt (omega (arith, div-mul-le_self (n / 2 ^ k) (2 ^ w), shr_le n k))) ∙ or_shifted high w v hv in
    ap₂ (λ (x y : ℕ). bit_or (x * 2 ^ k % 2 ^ 32) (n % y)) a (one_shl k 32 hk)
    ∙ ap (λ (x : ℕ). bit_or x (n % 2 ^ k)) (mod-eq_of_lt (omega (arith, l))) ∙ or_shifted (high * 2 ^ w + v) k (n % 2 ^ k) (mod-lt n (pow_pos k))

-- a window that is x times 2 ^ k more has x more in the field from digit k on
module _ (n k w : ℕ) where
  own_field : with_field n k w (n / 2 ^ k % 2 ^ w) ≡ n
  own_field = ap (λ (x : ℕ). x * 2 ^ k + n % 2 ^ k) (div-add-mod' (n / 2 ^ k) (2 ^ w)) ∙ div-add-mod' n (2 ^ k)

  more_field : (v x : ℕ) → with_field n k w (v + x) ≡ with_field n k w v + x * 2 ^ k
  more_field v x = omega (arith, add-mul (n / 2 ^ k / 2 ^ w * 2 ^ w + v) x (2 ^ k))

-- so it is for a field that gains up and loses down, and the machine's numbers hold it
pub record Moved (n k w up down : ℕ) : Type 0 where
  pub fits : n + up * 2 ^ k % 2 ^ 32 < 2 ^ 32
  pub takes : down * 2 ^ k % 2 ^ 32 ≤ n + up * 2 ^ k % 2 ^ 32
  pub is : n + up * 2 ^ k % 2 ^ 32 - down * 2 ^ k % 2 ^ 32 ≡ with_field n k w (n / 2 ^ k % 2 ^ w + up - down)

pub moved : (n k w up down : ℕ) → n < 2 ^ 32 → k < 32 → k + w ≤ 32 → n / 2 ^ k % 2 ^ w + up < 2 ^ w → down ≤ n / 2 ^ k % 2 ^ w + up → Moved n k w up down
moved n k w up down hn hk hw hu hd =
    let f : ℕ = n / 2 ^ k % 2 ^ w in
    let a : with_field n k w (f + up) ≡ n + up * 2 ^ k = more_field n k w f up ∙ ap (λ (x : ℕ). x + up * 2 ^ k) (own_field n k w) in
    let b : with_field n k w (f + up) ≡ with_field n k w (f + up - down) + down * 2 ^ k =
    ap (with_field n k w) (let e : f + up ≡ f + up - down + down = omega arith in e) ∙ more_field n k w (f + up - down) down in
    let l = wf_lt n k w (f + up) hu 32 hw hn in
    let u : up * 2 ^ k % 2 ^ 32 ≡ up * 2 ^ k = mod-eq_of_lt (omega arith) in
    let d : down * 2 ^ k % 2 ^ 32 ≡ down * 2 ^ k = mod-eq_of_lt (omega arith) in
    record { fits = omega arith; takes = omega arith; is = omega arith }

-- ---- a part of the list

pub bit-drop : (bs : List ℕ) (i p : ℕ) → bit (drop i bs) p ≡ bit bs (8 * i + p)
bit-drop bs i p =
    let a : (8 * i + p) / 8 ≡ i + p / 8 = omega arith in
    let b : (8 * i + p) % 8 ≡ p % 8 = omega arith in
    ap (λ (x : ℕ). digit x (p % 8)) (get_or-drop i bs (p / 8) 0) ∙ sym (ap₂ (λ (x y : ℕ). digit (get_or bs x 0) y) a b)

pub field_one : (bs : List ℕ) (s : ℕ) → field bs s 1 ≡ bit bs s
unfolding run
field_one bs s = omega arith
