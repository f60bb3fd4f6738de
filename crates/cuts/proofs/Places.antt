-- The trailing zeros of a place are the levels from depth D up to the node whose first bit it is; but for place 0 that node is a right child.
use mathlib.Core.Path.{◌≡◌, sym, ap, ap₂, ◌∙◌}
use mathlib.Core.Logic.{◌↔◌}
use Prim.Native.Nat.{ℕ, zero, suc, ◌+◌, ◌-◌, ◌*◌, ◌/◌, ◌%◌, ◌^◌, ◌≤◌, ◌<◌}
use native.Mathlib.Nat.{mul-div_left, add-mul}
use native.Mathlib.Decide.{dec_lt}
use native.Mathlib.Omega.{arith}
use lib.Pow.{pow_pos, pow_mono, pow-add}
use lib.Count.{count_trailing_zeros, under}
use Rattle.nodes.specs.Depth.{depth_of}
use Rattle.nodes.proofs.Depths.{At, at_left, at_right, at_depth, depth_is}
use Rattle.sums.proofs.Counts.{by_node, at_first}
use Rattle.cuts.specs.Cuts.{named, Cut}
use Rattle.cuts.specs.inner.Steps.{CutPlace}
use Rattle.cuts.proofs.CutBits.{first, CutBit, first_suc, bit_names, dec_cut_bit, cut_in, cut_out, cut_bit_depth}

-- ---- the node that a place names

trailing_first : (w j m : ℕ) → j < w → count_trailing_zeros w (first j (2 * m + 1)) ≡ j
unfolding count_trailing_zeros
trailing_first zero j m h = absurd (omega arith)
trailing_first (suc w) zero m h = ap (λ x. under x (count_trailing_zeros w (first 0 (2 * m + 1) / 2))) (let e : first 0 (2 * m + 1) % 2 ≡ 1 = omega arith in e)
trailing_first (suc w) (suc j) m h =
    ap₂ (λ x y. under x (count_trailing_zeros w y)) (let e : first (suc j) (2 * m + 1) % 2 ≡ 0 = omega (arith, first_suc j (2 * m + 1)) in e)
    (let e : first (suc j) (2 * m + 1) / 2 ≡ first j (2 * m + 1) = omega (arith, first_suc j (2 * m + 1)) in e)
    ∙ ap suc (trailing_first w j m (omega arith))

-- place p holds the first bit below the right child of n, which stands suc j levels above depth D
pub record Names (D p j n : ℕ) : Type 0 where
  pub depth : ℕ
  pub levels : depth + suc j ≡ D
  pub at : At depth n
  pub place : 2 ^ D + p ≡ first j (2 * n + 1)

-- then p has j trailing zeros ..
pub names_zeros : (D p j n : ℕ) → D ≤ 32 → Names D p j n → count_trailing_zeros 32 p ≡ j
names_zeros D p j n l m = ap (count_trailing_zeros 32) own ∙ trailing_first 32 j (n - 2 ^ m.depth) (omega (arith, m.levels))
  where
    full : 2 ^ D ≡ first j (2 * 2 ^ m.depth)
    full = ap (λ x. 2 ^ x) (let r : D ≡ suc m.depth + j = omega (arith, m.levels) in r) ∙ pow-add 2 (suc m.depth) j ∙ ap (first j) (omega arith)

    own : p ≡ first j (2 * (n - 2 ^ m.depth) + 1)
    own =
        omega (
          arith,
          full,
          m.place,
          ap (first j) (let r : 2 * n + 1 ≡ 2 * (n - 2 ^ m.depth) + 1 + 2 * 2 ^ m.depth = omega (arith, m.at) in r),
          add-mul (2 * (n - 2 ^ m.depth) + 1) (2 * 2 ^ m.depth) (2 ^ j),
        )

-- .. and names n
pub names_named : (D p j n : ℕ) → D ≤ 32 → Names D p j n → named D p ≡ n
names_named D p j n l m =
    ap (λ t. (2 ^ D + p) / 2 ^ t / 2) (names_zeros D p j n l m)
    ∙ ap (λ x. x / 2 ^ j / 2) m.place ∙ ap (λ x. x / 2) (mul-div_left (2 * n + 1) (pow_pos j)) ∙ omega arith

-- every place but 0 does so
pub place_name : (D p : ℕ) → 0 < p → p < 2 ^ D → (j : ℕ) × (n : ℕ) × Names D p j n
place_name D p l h =
    let (j, n, d, e, a, q) = bit_names D (2 ^ D + p) (omega arith) (omega arith) in
    (j, n, record { depth = d; levels = e; at = a; place = q })

-- different places name different nodes
pub named_once : (D p q : ℕ) → D ≤ 32 → 0 < p → p < 2 ^ D → 0 < q → q < 2 ^ D → named D p ≡ named D q → p ≡ q
named_once D p q l a b c d e =
    let (j, n, x) = place_name D p a b in
    let (i, m, y) = place_name D q c d in
    same j n x i m y
  where
    same : (j n : ℕ) → Names D p j n → (i m : ℕ) → Names D q i m → p ≡ q
    same j n x i m y =
        let h : n ≡ m = sym (names_named D p j n l x) ∙ e ∙ names_named D q i m l y in
        let k : j ≡ i = omega (arith, sym (depth_is x.at) ∙ ap depth_of h ∙ depth_is y.at, x.levels, y.levels) in
        omega (arith, x.place, y.place, ap₂ (λ s t. first s (2 * t + 1)) k h)

-- the place that names n, which stands suc j levels above depth D
abbrev pub cut_place : ℕ → ℕ → ℕ → ℕ
cut_place D j n = (2 * n + 1) * 2 ^ j - 2 ^ D

pub cut_place_lem : (D d j n : ℕ) → D ≤ 32 → At d n → d + suc j ≡ D → CutPlace D n (cut_place D j n)
cut_place_lem D d j n l a e =
    let b : At D (first j (2 * n + 1)) = at_first D (suc d) j (2 * n + 1) (at_right a) (omega arith) in record {
      low = omega (arith, at_first D (suc d) j (2 * n) (at_left a) (omega arith), pow_pos j);
      high = omega (arith, b);
      names = names_named D (cut_place D j n) j n l (record { depth = d; levels = e; at = a; place = omega (arith, b) });
    }

-- ---- cuts

module _ (D : ℕ) (f : ℕ → ℕ) (l : D ≤ 32) where
  pub cut_low : (n : ℕ) → Cut D f n → 1 ≤ n
  cut_low n c =
      let (j, m, x) = place_name D c.place c.low c.high in
      omega (arith, names_named D c.place j m l x, c.names, x.at.low, pow_pos x.depth)

  -- only nodes above depth D are cut
  pub cut_depth : (n : ℕ) → Cut D f n → depth_of n < D
  cut_depth n c =
      let (j, m, x) = place_name D c.place c.low c.high in
      omega (arith, ap depth_of (sym c.names ∙ names_named D c.place j m l x), depth_is x.at, x.levels)

  pub cut_range : (n : ℕ) → Cut D f n → n < 2 ^ D
  cut_range n c = omega (arith, at_depth {n = n} (cut_low n c), pow_mono (cut_depth n c))

  -- a node is cut exactly where the bit that names it is set
  pub cut_set : {n p : ℕ} → CutPlace D n p → (Cut D f n ↔ (f p ≡ 1))
  cut_set {n} {p} at = (
    λ c. ap f (named_once D p c.place l at.low at.high c.low c.high (at.names ∙ sym c.names)) ∙ c.set,
    λ s. record { place = p; low = at.low; high = at.high; set = s; names = at.names },
  )

  pub cut_bit : (n : ℕ) → 1 ≤ n → (Cut D f n ↔ CutBit D (by_node D f) n)
  cut_bit n h = (λ c. to (cut_depth n c) c, λ c. from (cut_bit_depth D (by_node D f) n c) c)
    where
      a : At (depth_of n) n
      a = at_depth h

      at : depth_of n < D → CutPlace D n (cut_place D (D - suc (depth_of n)) n)
      at d = cut_place_lem D (depth_of n) (D - suc (depth_of n)) n l a (omega arith)

      to : depth_of n < D → Cut D f n → CutBit D (by_node D f) n
      to d c = cut_in D (by_node D f) (suc (D - suc (depth_of n))) a (omega arith) ((cut_set (at d)).0 c)

      from : depth_of n < D → CutBit D (by_node D f) n → Cut D f n
      from d c = (cut_set (at d)).1 (cut_out D (by_node D f) (suc (D - suc (depth_of n))) a (omega arith) c)

  pub dec_cut : (n : ℕ) → Dec (Cut D f n)
  dec_cut n = go (dec_lt 0 n)
    where
      in_node : 1 ≤ n → Dec (CutBit D (by_node D f) n) → Dec (Cut D f n)
      in_node h (yes c) = yes ((cut_bit n h).1 c)
      in_node h (no c) = no λ z. c ((cut_bit n h).0 z)

      go : Dec (0 < n) → Dec (Cut D f n)
      go (yes h) = in_node h (dec_cut_bit D (by_node D f) n)
      go (no h) = no λ z. h (cut_low n z)
