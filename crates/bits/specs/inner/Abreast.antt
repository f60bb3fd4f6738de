-- Words side by side in one number.
use Rattle.std.specs.Prelude.{◌≡◌, ℕ, zero, suc, ◌+◌, ◌-◌, ◌*◌, ◌/◌, ◌%◌, ◌^◌, ◌≤◌, ◌<◌}

-- number i of the words of w bits that stand side by side in x
abbrev pub part : ℕ → ℕ → ℕ → ℕ
part w x i = x / 2 ^ (i * w) % 2 ^ w

-- the n words f 0, f 1, .. of w bits side by side in one number, the lowest first
unfoldable pub abreast : ℕ → ℕ → (ℕ → ℕ) → ℕ
abreast zero w f = 0
abreast (suc n) w f = abreast n w (λ i. f (suc i)) * 2 ^ w + f 0

-- words of 2 w bits fill 64 bits, and mask has the lower half of each set
pub record Halves (w mask : ℕ) : Type 0 where
  pub low : w ≤ 32
  pub whole : 32 / w * (2 * w) ≡ 64
  pub is : mask ≡ abreast (32 / w) (2 * w) (λ i. 2 ^ w - 1)

-- the first bit of each word of v bits is set in mask, and no other
pub record Ones (v mask : ℕ) : Type 0 where
  pub is : mask ≡ abreast (64 / v) v (λ i. 1)
  pub some : 1 ≤ v

-- the n words of v bits in x use only w of them
pub record Narrow (n v w x : ℕ) : Type 0 where
  pub lt : (i : ℕ) → i < n → part v x i < 2 ^ w

-- the n words of 2 w bits in r are those of w bits in x, two by two: the first, and the second s places up
pub record Joined (n w s x r : ℕ) : Type 0 where
  pub two : (i : ℕ) → i < n → part (2 * w) r i ≡ part w x (2 * i) + part w x (2 * i + 1) * 2 ^ s

-- r is the n words of v bits in x, in w bits each
pub record Packed (n v w x r : ℕ) : Type 0 where
  pub is : r ≡ abreast n w (part v x)
