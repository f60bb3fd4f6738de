-- Numbers of several bytes: they are fields, and the library's words of eight bytes hold them.
use mathlib.Core.Path.{◌≡◌, refl, sym, ap, ◌∙◌}
use mathlib.Core.Logic.{◌⊎◌, inl, inr, ⊎_elim}
use mathlib.Core.List.{List, ◌∷◌, ◌++◌}
use Prim.Native.Nat.{ℕ, zero, suc, ◌+◌, ◌-◌, ◌*◌, ◌/◌, ◌%◌, ◌^◌, ◌≤◌, ◌<◌}
use native.Mathlib.Nat.{div-one, mod-eq_of_lt, le_dest, pow-suc}
use native.Mathlib.Omega.{arith}
use lib.ListN.{length, get_or, take, drop, replicate, get_or-append}
use lib.Pow.{pow-add}
use lib.Seq.{ext_get_or}
use Rattle.std.proofs.lemmas.List.{get_or-take, get_or-drop, get_or-append_right, length-take, length-drop, length-append}
use Rattle.std.specs.Int.{w64, byte_at, bytes_low_first, from_le_bytes}
use Rattle.bits.specs.Bits.{bit, digit, field}
use Rattle.bits.specs.inner.Puts.{put_field}
use Rattle.bits.specs.Little.{little}
use Rattle.bits.proofs.Laws.{Bytes, le_or_lt, run_ext, run_digits, little-digit, field_byte, field_put_other, field_put_part, length-put_field, bytes_put_field}

-- ---- read

little_lt : (bs : List ℕ) → Bytes bs → (i n : ℕ) → little bs i n < 2 ^ (8 * n)
unfolding little
little_lt bs hb i zero = omega arith
little_lt bs hb i (suc n) =
    let e : 2 ^ (8 * suc n) ≡ 2 ^ 8 * 2 ^ (8 * n) = ap (λ (x : ℕ). 2 ^ x) {x = 8 * suc n} {y = 8 + 8 * n} (omega arith) ∙ pow-add 2 8 (8 * n) in
    omega (arith, e, hb i, little_lt bs hb (i + 1) n)

-- the n bytes from i on are the field of their bits
pub little_field : (bs : List ℕ) → Bytes bs → (i n : ℕ) → little bs i n ≡ field bs (8 * i) (8 * n)
little_field bs hb i n =
    sym (run_ext (bit bs) (digit (little bs i n)) (8 * i) 0 (8 * n) (λ j h. sym (ap (digit (little bs i n)) {x = 0 + j} (omega arith) ∙ little-digit bs hb i n j h))
    ∙ run_digits (little bs i n) 0 (8 * n) ∙ ap (λ (x : ℕ). x % 2 ^ (8 * n)) (div-one (little bs i n)) ∙ mod-eq_of_lt (little_lt bs hb i n))

-- bytes that are zero
little_none : (xs : List ℕ) (i n : ℕ) → ((m : ℕ) → get_or xs (i + m) 0 ≡ 0) → little xs i n ≡ 0
unfolding little
little_none xs i zero h = refl
little_none xs i (suc n) h =
    let rest : little xs (i + 1) n ≡ 0 = little_none xs (i + 1) n (λ m. ap (λ (j : ℕ). get_or xs j 0) (omega arith) ∙ h (1 + m)) in
    grind (arith, h 0, rest)

-- n bytes that both lists have, and zeros behind them in the first
little_then_none : (xs ys : List ℕ) (i j n k : ℕ) → ((m : ℕ) → m < n → get_or xs (i + m) 0 ≡ get_or ys (j + m) 0) → ((m : ℕ) → get_or xs (i + n + m) 0 ≡ 0)
    → little xs i (n + k) ≡ little ys j n
unfolding little
little_then_none xs ys i j zero k same none = little_none xs i (0 + k) (λ m. ap (λ (j : ℕ). get_or xs j 0) (omega arith) ∙ none m)
little_then_none xs ys i j (suc n) k same none =
    let rest : little xs (i + 1) (n + k) ≡ little ys (j + 1) n = little_then_none xs ys (i + 1) (j + 1) n k
    (λ m l. ap (λ (x : ℕ). get_or xs x 0) (omega arith) ∙ same (1 + m) (omega arith) ∙ ap (λ (x : ℕ). get_or ys x 0) (omega arith))
    (λ m. ap (λ (x : ℕ). get_or xs x 0) (omega arith) ∙ none m) in
    let e : suc n + k ≡ suc (n + k) = omega arith in
    ap (little xs i) e ∙ grind (arith, same 0 (omega arith), rest)

word_is : (xs : List ℕ) → from_le_bytes w64 xs ≡ little xs 0 8
unfolding little
word_is xs = omega arith

-- a list of zeros
none_there : (n j : ℕ) → ◌≡◌ {A = ℕ} (get_or (replicate n 0) j 0) 0
none_there zero j = refl
none_there (suc n) zero = refl
none_there (suc n) (suc j) = none_there n j

-- the word of the n bytes from i on, and zeros behind them
module _ (bs : List ℕ) (hb : Bytes bs) (i n : ℕ) (h : n ≤ 8) (l : i + n ≤ length bs) where
  abbrev part : List ℕ
  part = take n (drop i bs)

  abbrev none : List ℕ
  none = drop n (replicate 8 0)

  abbrev word : List ℕ
  word = part ++ none

  at_part : (m : ℕ) → m < n → get_or word (0 + m) 0 ≡ get_or bs (i + m) 0
  at_part m a =
      get_or-append part none 0 (0 + m) (omega (arith, length-take n (drop i bs), length-drop i bs)) ∙ get_or-take n (drop i bs) (0 + m) 0 (omega arith)
      ∙ get_or-drop i bs (0 + m) 0 ∙ ap (λ (j : ℕ). get_or bs j 0) (omega arith)

  at_none : (m : ℕ) → get_or word (0 + n + m) 0 ≡ 0
  at_none m =
      get_or-append_right part none n (0 + n + m) 0 (omega (arith, length-take n (drop i bs), length-drop i bs)) (omega arith)
      ∙ get_or-drop n (replicate 8 0) (0 + n + m - n) 0 ∙ none_there 8 (n + (0 + n + m - n))

  pub word_of : from_le_bytes w64 word ≡ field bs (8 * i) (8 * n)
  word_of =
      let e : 8 ≡ n + (8 - n) = omega arith in
      word_is word ∙ ap (little word 0) e ∙ little_then_none word bs 0 i n (8 - n) at_part at_none ∙ little_field bs hb i n

-- ---- stored

length-low_bytes : (m n v : ℕ) → length (bytes_low_first m n v) ≡ n
length-low_bytes m zero v = refl
length-low_bytes m (suc n) v = ap suc (length-low_bytes (suc m) n v)

pow_256 : (m : ℕ) → 256 ^ m ≡ 2 ^ (8 * m)
pow_256 zero = refl
pow_256 (suc m) = pow-suc 256 m ∙ ap (λ (x : ℕ). x * 256) (pow_256 m) ∙ sym (pow-add 2 (8 * m) 8) ∙ ap (λ (x : ℕ). 2 ^ x) {x = 8 * m + 8} {y = 8 * suc m} (omega arith)

byte_is : (m v : ℕ) → byte_at m v ≡ v / 2 ^ (8 * m) % 2 ^ 8
byte_is zero v = ap (λ (x : ℕ). x % 256) (sym (div-one v))
byte_is (suc m) v = ap (λ (x : ℕ). v / x % 256) (pow_256 (suc m))

-- each of the bytes of a number
get_or-low_bytes : (m n v j : ℕ) → j < n → get_or (bytes_low_first m n v) j 0 ≡ byte_at (m + j) v
get_or-low_bytes m zero v j h = absurd (omega arith)
get_or-low_bytes m (suc n) v zero h = ap (λ (k : ℕ). byte_at k v) (omega arith)
get_or-low_bytes m (suc n) v (suc j) h = get_or-low_bytes (suc m) n v j (omega arith) ∙ ap (λ (k : ℕ). byte_at k v) (omega arith)

-- the first of them
pub low_bytes : (m n k v : ℕ) → take n (bytes_low_first m (n + k) v) ≡ bytes_low_first m n v
low_bytes m zero k v = refl
low_bytes m (suc n) k v =
    ap (λ (j : ℕ). take (suc n) (bytes_low_first m j v)) {x = suc n + k} {y = suc (n + k)} (omega arith)
    ∙ ap (λ (xs : List ℕ). byte_at m v ∷ xs) (low_bytes (suc m) n k v)

-- the first n bytes of a number in place of those from i on
module _ (bs : List ℕ) (hb : Bytes bs) (i n v : ℕ) (h : i + n ≤ length bs) where
  abbrev new : List ℕ
  new = bytes_low_first 0 n v

  abbrev ys : List ℕ
  ys = take i bs ++ (new ++ drop n (drop i bs))

  abbrev zs : List ℕ
  zs = put_field bs (8 * i) (8 * n) v

  len : length ys ≡ length bs
  len = omega (arith, length-append (take i bs) (new ++ drop n (drop i bs)), length-append new (drop n (drop i bs)), length-low_bytes 0 n v, length-take i bs, length-drop n (drop i bs), length-drop i bs)

  head_len : length (take i bs) ≡ i
  head_len = omega (arith, length-take i bs)

  -- the field at byte j
  zs_at : (j : ℕ) → field zs (8 * j) 8 ≡ get_or zs j 0
  zs_at j = field_byte zs j (bytes_put_field bs (8 * i) (8 * n) v hb j)

  bs_at : (j : ℕ) → (8 * j + 8 ≤ 8 * i) ⊎ (8 * i + 8 * n ≤ 8 * j) → get_or bs j 0 ≡ get_or zs j 0
  bs_at j o = sym (field_byte bs j (hb j)) ∙ sym (field_put_other bs (8 * i) (8 * n) v (8 * j) 8 o) ∙ zs_at j

  behind : (k : ℕ) → get_or ys (i + k) 0 ≡ get_or (new ++ drop n (drop i bs)) k 0
  behind k = get_or-append_right (take i bs) (new ++ drop n (drop i bs)) i (i + k) 0 head_len (omega arith) ∙ ap (λ (m : ℕ). get_or (new ++ drop n (drop i bs)) m 0) (omega arith)

  same : (j : ℕ) → get_or ys j 0 ≡ get_or zs j 0
  same j =
      ⊎_elim (λ a. let d = le_dest a in
      ap (λ (m : ℕ). get_or ys m 0) (sym d.1) ∙ behind d.0
      ∙ ⊎_elim (λ b.
      get_or-append_right new (drop n (drop i bs)) n d.0 0 (length-low_bytes 0 n v) b ∙ get_or-drop n (drop i bs) (d.0 - n) 0 ∙ get_or-drop i bs (n + (d.0 - n)) 0
      ∙ ap (λ (m : ℕ). get_or bs m 0) (omega (arith, d.1)) ∙ bs_at j (inr (omega (arith, d.1))))
      (λ b. let e : 8 * d.0 ≡ 8 * j - 8 * i = omega (arith, d.1) in
      get_or-append new (drop n (drop i bs)) 0 d.0 (omega (arith, length-low_bytes 0 n v)) ∙ get_or-low_bytes 0 n v d.0 b ∙ ap (λ (m : ℕ). byte_at m v) {x = 0 + d.0} (omega arith) ∙ byte_is d.0 v
      ∙ ap (λ (k : ℕ). v / 2 ^ k % 2 ^ 8) e ∙ sym (field_put_part bs (8 * i) (8 * n) v (8 * j) 8 (omega arith) (omega (arith, d.1)) (omega arith)) ∙ zs_at j)
      (le_or_lt n d.0))
      (λ a. get_or-append (take i bs) (new ++ drop n (drop i bs)) 0 j (omega (arith, head_len)) ∙ get_or-take i bs j 0 a ∙ bs_at j (inl (omega arith)))
      (le_or_lt i j)

  pub put_part : ys ≡ zs
  put_part = ext_get_or 0 ys zs (len ∙ sym (length-put_field bs (8 * i) (8 * n) v)) (λ j l. same j)
