-- Words side by side in one number: masked, joined two by two, packed, and spread. Each law holds over the width.
use mathlib.Core.Path.{◌≡◌, refl, sym, ap, ap₂, ◌∙◌, subst}
use Prim.Native.Nat.{ℕ, zero, suc, ◌+◌, ◌-◌, ◌*◌, ◌/◌, ◌%◌, ◌^◌, ◌≤◌, ◌<◌}
use native.Mathlib.Nat.{add_comm, zero-mul, suc-mul, add-mul, mul_assoc, mul_comm, mul_right_comm, div-one, mod-lt, mod-eq_of_lt, le_dest, mul-le-mul_right}
use native.Mathlib.Omega.{arith}
use lib.Arith.{digits_lt}
use lib.Bits.{bit_and, and_zero_r, and_block, and_mask}
use lib.Pow.{pow_pos, pow-add, split, high, low, shr-shr, mod-mod-pow, ones_lt, pow_mono}
use lib.Pow as P
use Rattle.bits.specs.Bits.{digit}
use Rattle.bits.proofs.Laws.{digit_shift, digit-mod}
use Rattle.bits.specs.inner.Abreast.{part, abreast, Halves, Narrow, Joined, Packed}

-- ---- the words of a number

pub same_words : (n w : ℕ) (f g : ℕ → ℕ) → ((i : ℕ) → i < n → f i ≡ g i) → abreast n w f ≡ abreast n w g
unfolding abreast
same_words zero w f g h = refl
same_words (suc n) w f g h =
    ap₂ (λ (x y : ℕ). x * 2 ^ w + y) (same_words n w (λ i. f (suc i)) (λ i. g (suc i)) (λ i l. h (suc i) (omega arith))) (h 0 (omega arith))

pub abreast_lt : (n w : ℕ) (f : ℕ → ℕ) → ((i : ℕ) → i < n → f i < 2 ^ w) → abreast n w f < 2 ^ (n * w)
unfolding abreast
abreast_lt zero w f h = pow_pos (0 * w)
abreast_lt (suc n) w f h =
    subst (λ (x : ℕ). abreast (suc n) w f < x) (sym (pow-add 2 (n * w) w) ∙ ap (λ (x : ℕ). 2 ^ x) (sym (suc-mul n w)))
    (digits_lt (abreast_lt n w (λ i. f (suc i)) (λ i l. h (suc i) (omega arith))) (h 0 (omega arith)))

pub part-abreast : (n w : ℕ) (f : ℕ → ℕ) → ((i : ℕ) → i < n → f i < 2 ^ w) → (i : ℕ) → i < n → part w (abreast n w f) i ≡ f i
unfolding abreast
part-abreast zero w f h i l = absurd (omega arith)
part-abreast (suc n) w f h zero l =
    ap (λ (x : ℕ). abreast (suc n) w f / 2 ^ x % 2 ^ w) (zero-mul w) ∙ ap (λ (x : ℕ). x % 2 ^ w) (div-one (abreast (suc n) w f))
    ∙ low (abreast n w (λ i. f (suc i))) w (h 0 (omega arith))
part-abreast (suc n) w f h (suc i) l =
    let e : suc i * w ≡ w + i * w = suc-mul i w ∙ add_comm (i * w) w in
    ap (λ (x : ℕ). abreast (suc n) w f / 2 ^ x % 2 ^ w) e ∙ ap (λ (x : ℕ). x % 2 ^ w) (sym (shr-shr (abreast (suc n) w f) w (i * w)))
    ∙ ap (λ (x : ℕ). x / 2 ^ (i * w) % 2 ^ w) (high (abreast n w (λ i. f (suc i))) w (h 0 (omega arith)))
    ∙ part-abreast n w (λ i. f (suc i)) (λ i l. h (suc i) (omega arith)) i (omega arith)

-- a bit of a word
pub word-digit : (n v : ℕ) (f : ℕ → ℕ) → ((i : ℕ) → i < n → f i < 2 ^ v) → (i k : ℕ) → i < n → k < v → digit (abreast n v f) (i * v + k) ≡ digit (f i) k
word-digit n v f h i k l g =
    sym (digit_shift (abreast n v f) (i * v) k) ∙ sym (digit-mod (abreast n v f / 2 ^ (i * v)) k v g) ∙ ap (λ (x : ℕ). digit x k) (part-abreast n v f h i l)

-- each word k times
pub times : (n v k : ℕ) (f : ℕ → ℕ) → abreast n v f * k ≡ abreast n v (λ i. f i * k)
unfolding abreast
times zero v k f = zero-mul k
times (suc n) v k f =
    let a : ℕ = abreast n v (λ i. f (suc i)) in
    omega (arith, add-mul (a * 2 ^ v) (f 0) k, mul_right_comm a (2 ^ v) k, ap (λ (y : ℕ). y * 2 ^ v) (times n v k (λ i. f (suc i))))

-- ---- masked and joined

-- a mask of w bits in each word of v bits takes the lowest w bits of each
pub masked : (n v w x : ℕ) → w ≤ v → bit_and x (abreast n v (λ i. 2 ^ w - 1)) ≡ abreast n v (λ i. x / 2 ^ (i * v) % 2 ^ w)
unfolding abreast
masked zero v w x h = and_zero_r x
masked (suc n) v w x h =
    let d = le_dest h in
    let e : d.0 + w ≡ v = omega (arith, d.1) in
    let m : ℕ = abreast n v (λ i. 2 ^ w - 1) in
    ap (λ (y : ℕ). bit_and y (m * 2 ^ v + (2 ^ w - 1))) (sym (split x v))
    ∙ and_block v (x / 2 ^ v) m (x % 2 ^ v) (2 ^ w - 1) (mod-lt x (pow_pos v)) (omega (arith, ones_lt w, pow_mono {i = w} {j = v} h))
    ∙ ap₂ (λ (y z : ℕ). y * 2 ^ v + z) (masked n v w (x / 2 ^ v) h ∙ same_words n v (λ i. x / 2 ^ v / 2 ^ (i * v) % 2 ^ w) (λ i. x / 2 ^ (suc i * v) % 2 ^ w) (λ i l. up i))
    (and_mask (x % 2 ^ v) w ∙ ap (λ (y : ℕ). x % 2 ^ y % 2 ^ w) (sym e) ∙ mod-mod-pow x d.0 w
    ∙ ap (λ (y : ℕ). y % 2 ^ w) (sym (div-one x)) ∙ ap (λ (y : ℕ). x / 2 ^ y % 2 ^ w) (sym (zero-mul v)))
  where
    up : (i : ℕ) → x / 2 ^ v / 2 ^ (i * v) % 2 ^ w ≡ x / 2 ^ (suc i * v) % 2 ^ w
    up i = ap (λ (y : ℕ). y % 2 ^ w) (shr-shr x v (i * v)) ∙ ap (λ (y : ℕ). x / 2 ^ y % 2 ^ w) (add_comm v (i * v) ∙ sym (suc-mul i v))

-- bit a of each word of v bits
pub bits_at : (n v a x : ℕ) → 1 ≤ v → bit_and (x / 2 ^ a) (abreast n v (λ i. 1)) ≡ abreast n v (λ i. digit x (a + i * v))
bits_at n v a x h = masked n v 1 (x / 2 ^ a) h ∙ same_words n v (λ i. digit (x / 2 ^ a) (i * v)) (λ i. digit x (a + i * v)) (λ i l. digit_shift x a (i * v))

-- two shifts in the other order
shr_swap : (x a b : ℕ) → x / 2 ^ a / 2 ^ b ≡ x / 2 ^ b / 2 ^ a
shr_swap x a b = shr-shr x a b ∙ ap (λ (y : ℕ). x / 2 ^ y) (add_comm a b) ∙ sym (shr-shr x b a)

-- w bits of a number from bit a on lie in its v lowest
inner : (x v a w : ℕ) → a + w ≤ v → x % 2 ^ v / 2 ^ a % 2 ^ w ≡ x / 2 ^ a % 2 ^ w
inner x v a w l =
    let d = le_dest l in
    ap (λ (y : ℕ). x % 2 ^ y / 2 ^ a % 2 ^ w) {x = v} {y = d.0 + w + a} (omega (arith, d.1))
    ∙ ap (λ (y : ℕ). y % 2 ^ w) (P.field x (d.0 + w) a) ∙ mod-mod-pow (x / 2 ^ a) d.0 w

-- w bits of each word of v bits, from its bit a on
taken : (n v a w : ℕ) (f : ℕ → ℕ) → ((i : ℕ) → i < n → f i < 2 ^ v) → a + w ≤ v → bit_and (abreast n v f / 2 ^ a) (abreast n v (λ i. 2 ^ w - 1)) ≡ abreast n v (λ i. f i / 2 ^ a % 2 ^ w)
taken n v a w f h l =
    let x : ℕ = abreast n v f in
    masked n v w (x / 2 ^ a) (omega arith)
    ∙ same_words n v (λ i. x / 2 ^ a / 2 ^ (i * v) % 2 ^ w) (λ i. f i / 2 ^ a % 2 ^ w)
    (λ i b. ap (λ (y : ℕ). y % 2 ^ w) (shr_swap x a (i * v)) ∙ sym (inner (x / 2 ^ (i * v)) v a w l) ∙ ap (λ (y : ℕ). y / 2 ^ a % 2 ^ w) (part-abreast n v f h i b))

-- both of two
pub and_words : (n v : ℕ) (f g : ℕ → ℕ) → ((i : ℕ) → f i < 2 ^ v) → ((i : ℕ) → g i < 2 ^ v) → bit_and (abreast n v f) (abreast n v g) ≡ abreast n v (λ i. bit_and (f i) (g i))
unfolding abreast
and_words zero v f g hf hg = refl
and_words (suc n) v f g hf hg =
    and_block v (abreast n v (λ i. f (suc i))) (abreast n v (λ i. g (suc i))) (f 0) (g 0) (hf 0) (hg 0)
    ∙ ap (λ (x : ℕ). x * 2 ^ v + bit_and (f 0) (g 0)) (and_words n v (λ i. f (suc i)) (λ i. g (suc i)) (λ i. hf (suc i)) (λ i. hg (suc i)))

-- words that make the same number are the same
pub words_same : (n v : ℕ) (f g : ℕ → ℕ) → ((i : ℕ) → f i < 2 ^ v) → ((i : ℕ) → g i < 2 ^ v) → abreast n v f ≡ abreast n v g → (i : ℕ) → i < n → f i ≡ g i
words_same n v f g hf hg e i l = sym (part-abreast n v f (λ i l. hf i) i l) ∙ ap (λ (x : ℕ). part v x i) e ∙ part-abreast n v g (λ i l. hg i) i l

-- two numbers added word by word, the second shifted
added : (n v s : ℕ) (f g : ℕ → ℕ) → abreast n v f + abreast n v g * 2 ^ s ≡ abreast n v (λ i. f i + g i * 2 ^ s)
unfolding abreast
added zero v s f g = omega (arith, zero-mul (2 ^ s))
added (suc n) v s f g =
    let a : ℕ = abreast n v (λ i. f (suc i)) in
    let b : ℕ = abreast n v (λ i. g (suc i)) in
    let swap : b * 2 ^ v * 2 ^ s ≡ b * 2 ^ s * 2 ^ v = mul_assoc b (2 ^ v) (2 ^ s) ∙ ap (λ (y : ℕ). b * y) (mul_comm (2 ^ v) (2 ^ s)) ∙ sym (mul_assoc b (2 ^ s) (2 ^ v)) in
    omega (arith, add-mul (b * 2 ^ v) (g 0) (2 ^ s), add-mul a (b * 2 ^ s) (2 ^ v), swap, ap (λ (y : ℕ). y * 2 ^ v) (added n v s (λ i. f (suc i)) (λ i. g (suc i))))

-- the even words and the odd ones
module _ (n w x : ℕ) where
  even_at : (i : ℕ) → x / 2 ^ (i * (2 * w)) % 2 ^ w ≡ part w x (2 * i)
  even_at i = ap (λ (y : ℕ). x / 2 ^ y % 2 ^ w) (sym (mul_assoc i 2 w) ∙ ap (λ (y : ℕ). y * w) (mul_comm i 2))

  odd_at : (i : ℕ) → x / 2 ^ w / 2 ^ (i * (2 * w)) % 2 ^ w ≡ part w x (2 * i + 1)
  odd_at i =
      ap (λ (y : ℕ). y % 2 ^ w) (shr-shr x w (i * (2 * w)))
      ∙ ap (λ (y : ℕ). x / 2 ^ y % 2 ^ w) (omega (arith, mul_assoc i 2 w, ap (λ (y : ℕ). y * w) (mul_comm i 2), add-mul (2 * i) 1 w))

  evens : bit_and x (abreast n (2 * w) (λ i. 2 ^ w - 1)) ≡ abreast n (2 * w) (λ i. part w x (2 * i))
  evens = masked n (2 * w) w x (omega arith) ∙ same_words n (2 * w) (λ i. x / 2 ^ (i * (2 * w)) % 2 ^ w) (λ i. part w x (2 * i)) (λ i l. even_at i)

  odds : bit_and (x / 2 ^ w) (abreast n (2 * w) (λ i. 2 ^ w - 1)) ≡ abreast n (2 * w) (λ i. part w x (2 * i + 1))
  odds = masked n (2 * w) w (x / 2 ^ w) (omega arith) ∙ same_words n (2 * w) (λ i. x / 2 ^ w / 2 ^ (i * (2 * w)) % 2 ^ w) (λ i. part w x (2 * i + 1)) (λ i l. odd_at i)

-- a word of w bits, and another s places up, in 2 w bits
join_lt : (w s : ℕ) → s ≤ w → {a b : ℕ} → a < 2 ^ w → b < 2 ^ w → a + b * 2 ^ s < 2 ^ (2 * w)
join_lt w s h {a} {b} ha hb =
    let e : 2 ^ (2 * w) ≡ 2 ^ w * 2 ^ w = ap (λ (x : ℕ). 2 ^ x) {x = 2 * w} {y = w + w} (omega arith) ∙ pow-add 2 w w in
    let c : b * 2 ^ s ≤ b * 2 ^ w = omega (arith, mul_comm b (2 ^ s), mul_comm b (2 ^ w), mul-le-mul_right {m = 2 ^ s} {n = 2 ^ w} b (pow_mono {i = s} {j = w} h)) in
    omega (arith, digits_lt hb ha)

module _ (w s x mask : ℕ) (h : Halves w mask) (l : s ≤ w) where
  abbrev n : ℕ
  n = 32 / w

  abbrev words : ℕ → ℕ
  words i = part w x (2 * i) + part w x (2 * i + 1) * 2 ^ s

  words_lt : (i : ℕ) → i < n → words i < 2 ^ (2 * w)
  words_lt i a = join_lt w s l (mod-lt (x / 2 ^ (2 * i * w)) (pow_pos w)) (mod-lt (x / 2 ^ ((2 * i + 1) * w)) (pow_pos w))

  pub join_is : bit_and x mask + bit_and (x / 2 ^ w) mask * 2 ^ s ≡ abreast n (2 * w) words
  join_is =
      ap₂ (λ (y z : ℕ). y + z * 2 ^ s) (ap (bit_and x) h.is ∙ evens n w x) (ap (bit_and (x / 2 ^ w)) h.is ∙ odds n w x)
      ∙ added n (2 * w) s (λ i. part w x (2 * i)) (λ i. part w x (2 * i + 1))

  pub join_small : bit_and x mask + bit_and (x / 2 ^ w) mask * 2 ^ s < 2 ^ 64
  join_small = subst (λ (y : ℕ). bit_and x mask + bit_and (x / 2 ^ w) mask * 2 ^ s < 2 ^ y) h.whole (subst (λ (y : ℕ). y < 2 ^ (n * (2 * w))) (sym join_is) (abreast_lt n (2 * w) words words_lt))

  -- the machine's shift loses nothing
  pub join_exact : bit_and (x / 2 ^ w) mask * 2 ^ s % 2 ^ 64 ≡ bit_and (x / 2 ^ w) mask * 2 ^ s
  join_exact = mod-eq_of_lt (omega (arith, join_small))

  pub join_words : {r : ℕ} → r ≡ bit_and x mask + bit_and (x / 2 ^ w) mask * 2 ^ s → Joined n w s x r
  join_words {r} e = record { two = λ i a. ap (λ (y : ℕ). part (2 * w) y i) (e ∙ join_is) ∙ part-abreast n (2 * w) words words_lt i a }

-- the masks
pub halves_1 : Halves 1 6148914691236517205
unfolding abreast
halves_1 = record { low = omega arith; whole = refl; is = refl }

pub halves_2 : Halves 2 3689348814741910323
unfolding abreast
halves_2 = record { low = omega arith; whole = refl; is = refl }

pub halves_4 : Halves 4 1085102592571150095
unfolding abreast
halves_4 = record { low = omega arith; whole = refl; is = refl }

pub halves_8 : Halves 8 71777214294589695
unfolding abreast
halves_8 = record { low = omega arith; whole = refl; is = refl }

pub halves_16 : Halves 16 281470681808895
unfolding abreast
halves_16 = record { low = omega arith; whole = refl; is = refl }

pub halves_32 : Halves 32 4294967295
unfolding abreast
halves_32 = record { low = omega arith; whole = refl; is = refl }

-- ---- packed

-- one word is the number
pub one_word : (w v x : ℕ) → x < 2 ^ v → abreast 1 w (part v x) ≡ x
unfolding abreast
one_word w v x h = omega (arith, zero-mul (2 ^ w), ap (λ (y : ℕ). x / 2 ^ y % 2 ^ v) (zero-mul v), ap (λ (y : ℕ). y % 2 ^ v) (div-one x), mod-eq_of_lt h)

-- n words of 2 w bits, each two words of w bits
in_pairs : (n w : ℕ) (f : ℕ → ℕ) → abreast n (2 * w) (λ i. f (2 * i) + f (2 * i + 1) * 2 ^ w) ≡ abreast (2 * n) w f
unfolding abreast
in_pairs zero w f = refl
in_pairs (suc n) w f =
    let g : ℕ → ℕ = λ i. f (suc (suc i)) in
    let r : ℕ = abreast (2 * n) w g in
    let e : 2 * suc n ≡ suc (suc (2 * n)) = omega arith in
    let p : 2 ^ (2 * w) ≡ 2 ^ w * 2 ^ w = ap (λ (x : ℕ). 2 ^ x) {x = 2 * w} {y = w + w} (omega arith) ∙ pow-add 2 w w in
    let q : r * 2 ^ (2 * w) ≡ r * 2 ^ w * 2 ^ w = ap (λ (y : ℕ). r * y) p ∙ sym (mul_assoc r (2 ^ w) (2 ^ w)) in
    ap₂ (λ (y z : ℕ). y * 2 ^ (2 * w) + z)
    (same_words n (2 * w) (λ i. f (2 * suc i) + f (2 * suc i + 1) * 2 ^ w) (λ i. g (2 * i) + g (2 * i + 1) * 2 ^ w)
    (λ i l. ap₂ (λ (y z : ℕ). f y + f z * 2 ^ w) (omega arith) (omega arith)) ∙ in_pairs n w g)
    refl
    ∙ omega (arith, q, add-mul (r * 2 ^ w) (f 1) (2 ^ w))
    ∙ ap (λ (m : ℕ). abreast m w f) (sym e)

module _ {n v w x r : ℕ} (hx : Narrow (2 * n) v w x) (j : Joined n v w x r) where
  pub pack_narrow : Narrow n (2 * v) (2 * w) r
  pack_narrow = record { lt = λ i a. subst (λ (y : ℕ). y < 2 ^ (2 * w)) (sym (j.two i a)) (join_lt w w (omega arith) (hx.lt (2 * i) (omega arith)) (hx.lt (2 * i + 1) (omega arith))) }

  pub pack_step : {q : ℕ} → Packed n (2 * v) (2 * w) r q → Packed (2 * n) v w x q
  pack_step p = record { is = p.is ∙ same_words n (2 * w) (part (2 * v) r) (λ i. part v x (2 * i) + part v x (2 * i + 1) * 2 ^ w) j.two ∙ in_pairs n w (part v x) }

-- ---- spread

-- n words of 2 w bits of x, each in 2 v bits, become 2 n words of w bits, each in v: the upper halves move on
module _ (n v w x : ℕ) (l : w ≤ v) where
  abbrev wide : ℕ
  wide = abreast n (2 * v) (part (2 * w) x)

  abbrev lower : ℕ
  lower = abreast n (2 * v) (λ i. 2 ^ w - 1)

  fit : (i : ℕ) → i < n → part (2 * w) x i < 2 ^ (2 * v)
  fit i b = omega (arith, mod-lt (x / 2 ^ (i * (2 * w))) (pow_pos (2 * w)), pow_mono (let g : 2 * w ≤ 2 * v = omega arith in g))

  first_half : (i : ℕ) → part (2 * w) x i / 2 ^ 0 % 2 ^ w ≡ part w x (2 * i)
  first_half i = let y : ℕ = x / 2 ^ (i * (2 * w)) in inner y (2 * w) 0 w (omega arith) ∙ ap (λ (z : ℕ). z % 2 ^ w) (div-one y) ∙ even_at n w x i

  second_half : (i : ℕ) → part (2 * w) x i / 2 ^ w % 2 ^ w ≡ part w x (2 * i + 1)
  second_half i = inner (x / 2 ^ (i * (2 * w))) (2 * w) w w (omega arith) ∙ ap (λ (z : ℕ). z % 2 ^ w) (shr_swap x (i * (2 * w)) w) ∙ odd_at n w x i

  pub halved : bit_and wide lower + bit_and (wide / 2 ^ w) lower * 2 ^ v ≡ abreast (2 * n) v (part w x)
  halved =
      ap₂ (λ (y z : ℕ). y + z * 2 ^ v)
      (ap (λ (y : ℕ). bit_and y lower) (sym (div-one wide)) ∙ taken n (2 * v) 0 w (part (2 * w) x) fit (omega arith)
      ∙ same_words n (2 * v) (λ i. part (2 * w) x i / 2 ^ 0 % 2 ^ w) (λ i. part w x (2 * i)) (λ i b. first_half i))
      (taken n (2 * v) w w (part (2 * w) x) fit (omega arith)
      ∙ same_words n (2 * v) (λ i. part (2 * w) x i / 2 ^ w % 2 ^ w) (λ i. part w x (2 * i + 1)) (λ i b. second_half i))
      ∙ added n (2 * v) v (λ i. part w x (2 * i)) (λ i. part w x (2 * i + 1)) ∙ in_pairs n v (part w x)

-- the first bits of the words, likewise
pub ones_halved : (n v : ℕ) → abreast n (2 * v) (λ i. 1) + abreast n (2 * v) (λ i. 1) * 2 ^ v ≡ abreast (2 * n) v (λ i. 1)
ones_halved n v = added n (2 * v) v (λ i. 1) (λ i. 1) ∙ in_pairs n v (λ i. 1)
