-- A node's depth, its ancestors, and induction over nodes. Inside proofs a depth is explicit, by `At`; outside it is `depth_of`.
use mathlib.Core.Path.{◌≡◌, refl, ap, ◌∙◌, subst}
use Prim.Native.Nat.{ℕ, zero, suc, ◌+◌, ◌*◌, ◌/◌, ◌%◌, ◌^◌, ◌≤◌, ◌<◌}
use native.Mathlib.Nat.{add-zero, pow-suc}
use native.Mathlib.Numerals.{add-one}
use native.Mathlib.Decide.{dec_le, dec_lt}
use native.Mathlib.Omega.{arith}
use lib.Pow.{pow_pos, pow_mono}
use lib.Arith.{bin_ind}
use lib.Count.{count_leading_zeros, leading_top}
use Rattle.nodes.specs.Depth.{deeper, depth_in, depth_of}

-- ---- powers of two

pub pow_next : (d : ℕ) → 2 ^ (d + 1) ≡ 2 * 2 ^ d
pow_next d = ap (λ (x : ℕ). 2 ^ x) (add-one d) ∙ pow-suc 2 d ∙ omega arith

-- ---- the depth of a node

-- n is a node of depth d
pub record At (d n : ℕ) : Type 0 where
  pub low : 2 ^ d ≤ n
  pub high : n < 2 ^ suc d

pub at_from : {d n : ℕ} → 2 ^ d ≤ n → n < 2 ^ (d + 1) → At d n
at_from {d} {n} l h = record { low = l; high = omega (arith, pow_next d) }

pub at_below : {d n : ℕ} → At d n → n < 2 ^ (d + 1)
at_below {d} a = omega (arith, pow_next d)

pub at_root : At 0 1
at_root = record { low = omega arith; high = omega arith }

pub at_parent : {d n : ℕ} → At (suc d) n → At d (n / 2)
at_parent a = omega arith

pub at_child : {d n : ℕ} → At d (n / 2) → At (suc d) n
at_child a = omega arith

pub at_left : {d n : ℕ} → At d n → At (suc d) (2 * n)
at_left a = omega arith

pub at_right : {d n : ℕ} → At d n → At (suc d) (2 * n + 1)
at_right a = omega arith

deeper_at : (n h d : ℕ) → h ≡ n / 2 → 1 ≤ n → (1 ≤ h → At d h) → At (deeper h d) n
deeper_at n zero d e p q = omega arith
deeper_at n (suc h) d e p q = let r = q (omega arith) in omega (arith, r, pow-suc 2 d, pow-suc 2 (suc d))

at_in : (f n : ℕ) → n ≤ f → 1 ≤ n → At (depth_in f n) n
unfolding depth_in
at_in zero n h p = absurd (omega arith)
at_in (suc f) n h p = deeper_at n (n / 2) (depth_in f (n / 2)) refl p (λ q. at_in f (n / 2) (omega arith) q)

-- a node is of the depth that the definition gives it ..
pub at_depth : {n : ℕ} → 1 ≤ n → At (depth_of n) n
unfolding depth_of
at_depth {n} p = at_in n n (omega arith) p

at_le : (n d e : ℕ) → At d n → At e n → d ≤ e
at_le n d e p q = go (dec_le d e)
  where
    go : Dec (d ≤ e) → d ≤ e
    go (yes h) = h
    go (no h) = let m : 2 ^ suc e ≤ 2 ^ d = pow_mono (let g : suc e ≤ d = omega arith in g) in absurd (omega arith)

-- .. and of no other
pub depth_is : {d n : ℕ} → At d n → depth_of n ≡ d
depth_is {d} {n} a =
    let b : At (depth_of n) n = at_depth (omega (arith, pow_pos d)) in
    omega (arith, at_le n (depth_of n) d b a, at_le n d (depth_of n) a b)

pub depth_zero : depth_of 0 ≡ 0
unfolding depth_of depth_in
depth_zero = refl

-- a child is one deeper
pub depth_child : (n b : ℕ) → 1 ≤ n → b ≤ 1 → depth_of (2 * n + b) ≡ suc (depth_of n)
depth_child n b p q =
    let a : At (depth_of n) n = at_depth p in
    depth_is (omega (arith, a, pow-suc 2 (depth_of n), pow-suc 2 (suc (depth_of n))))

pub depth_left : (n : ℕ) → 1 ≤ n → depth_of (2 * n) ≡ suc (depth_of n)
depth_left n p = ap depth_of (let e : 2 * n ≡ 2 * n + 0 = omega arith in e) ∙ depth_child n 0 p (omega arith)

pub depth_right : (n : ℕ) → 1 ≤ n → depth_of (2 * n + 1) ≡ suc (depth_of n)
depth_right n p = depth_child n 1 p (omega arith)

pub depth_half : (n : ℕ) → 2 ≤ n → depth_of n ≡ suc (depth_of (n / 2))
depth_half n p =
    ap depth_of (let e : n ≡ 2 * (n / 2) + n % 2 = omega arith in e) ∙ depth_child (n / 2) (n % 2) (omega arith) (omega arith)

pub depth_pos : (n : ℕ) → 2 ≤ n → 1 ≤ depth_of n
depth_pos n p = omega (arith, depth_half n p)

-- a node is below 2 ^ (D + 1) exactly where its depth is at most D
pub depth_le : (n D : ℕ) → n < 2 ^ (D + 1) → depth_of n ≤ D
depth_le zero D h = omega (arith, depth_zero)
depth_le (suc n) D h = go (dec_le (depth_of (suc n)) D)
  where
    go : Dec (depth_of (suc n) ≤ D) → depth_of (suc n) ≤ D
    go (yes l) = l
    go (no l) =
        let a : At (depth_of (suc n)) (suc n) = at_depth (omega arith) in
        absurd (omega (arith, pow_mono (let g : D + 1 ≤ depth_of (suc n) = omega arith in g)))

pub below_depth : (n D : ℕ) → 1 ≤ n → depth_of n ≤ D → n < 2 ^ (D + 1)
below_depth n D p h =
    let a : At (depth_of n) n = at_depth p in omega (arith, pow_mono (let g : suc (depth_of n) ≤ D + 1 = omega arith in g))

-- the depth from the leading zeros of a number of 32 digits
pub depth_zeros : (n : ℕ) → 1 ≤ n → n < 2 ^ 32 → count_leading_zeros 32 n + suc (depth_of n) ≡ 32
depth_zeros n p h =
    let (j, e, l, u) = leading_top 32 n p h in omega (arith, depth_is {d = j} {n = n} (record { low = l; high = u }))

-- ---- ancestors

-- the ancestor j levels up
abbrev pub ancestor : ℕ → ℕ → ℕ
ancestor zero n = n
ancestor (suc j) n = ancestor j n / 2

pub at_ancestor : (j d : ℕ) {n : ℕ} → At (d + j) n → At d (ancestor j n)
at_ancestor zero d {n} a = rw add-zero at a
at_ancestor (suc j) d {n} a =
    at_parent (at_ancestor j (suc d) (subst (λ x. At x n) (let e : d + suc j ≡ suc d + j = omega arith in e) a))

-- ---- induction

-- what holds of 2 and 3, and of a node's children where it holds of the node, holds of every node from 2 up
pub node_ind : (P : ℕ → Type 0) → P 2 → P 3 → ((n : ℕ) → 2 ≤ n → P n → P (2 * n)) → ((n : ℕ) → 2 ≤ n → P n → P (2 * n + 1))
    → (n : ℕ) → 2 ≤ n → P n
node_ind P two three left right = bin_ind (λ n. 2 ≤ n → P n) (λ h. absurd (omega arith)) step
  where
    small : (n : ℕ) → 2 ≤ n → Dec (n ≤ 2) → n < 4 → P n
    small n h (yes l) m = let e : 2 ≡ n = omega arith in subst P e two
    small n h (no l) m = let e : 3 ≡ n = omega arith in subst P e three

    big : (n : ℕ) → (2 ≤ n / 2 → P (n / 2)) → 4 ≤ n → Dec (n % 2 ≤ 0) → P n
    big n ih h (yes l) = let e : 2 * (n / 2) ≡ n = omega arith in subst P e (left (n / 2) (omega arith) (ih (omega arith)))
    big n ih h (no l) =
        let e : 2 * (n / 2) + 1 ≡ n = omega arith in subst P e (right (n / 2) (omega arith) (ih (omega arith)))

    from : (n : ℕ) → (2 ≤ n / 2 → P (n / 2)) → 2 ≤ n → Dec (n < 4) → P n
    from n ih h (yes l) = small n h (dec_le n 2) l
    from n ih h (no l) = big n ih (omega arith) (dec_le (n % 2) 0)

    step : (n : ℕ) → (2 ≤ n / 2 → P (n / 2)) → 2 ≤ n → P n
    step n ih h = from n ih h (dec_lt n 4)
