-- Beneath a leaf no leaf bit is set but its own, so its pin lies over all its places, and over the place of every node below it.
use mathlib.Core.Path.{◌≡◌, refl, sym, ap, ◌∙◌, subst}
use mathlib.Core.Logic.{◌≢◌}
use Prim.Native.Nat.{ℕ, zero, suc, ◌+◌, ◌-◌, ◌*◌, ◌/◌, ◌%◌, ◌^◌, ◌≤◌, ◌<◌}
use native.Mathlib.Nat.{mul-div_left, div-add-mod', mod-lt, div-div-eq-div-mul, div-le_self, pow-suc, zero-div}
use native.Mathlib.Decide.{ℕ_discrete, dec_lt}
use native.Mathlib.Omega.{arith}
use lib.Arith.{digits_div}
use lib.Pow.{pow_pos, pow-add}
use Rattle.nodes.specs.Depth.{depth_of}
use Rattle.nodes.proofs.Depths.{At, at_depth, depth_half, depth_right, pow_next, at_below}
use Rattle.sums.proofs.Counts.{at_first}
use Rattle.cuts.specs.Cuts.{Cut, Leaf, place_of}
use Rattle.cuts.specs.inner.Steps.{CutPlace}
use Rattle.cuts.proofs.Leaves.{GoodBits, cover_once, leaf_depth, leaf_set, set_leaf}
use Rattle.cuts.proofs.Places.{cut_low, cut_depth, cut_set}
use Rattle.cuts.proofs.OneBit.{named_place}
use Rattle.pins.specs.inner.Over.{over}
use Rattle.pins.proofs.Overs.{over-set, over_gap}

-- the depth of a node and of its ancestor
pub depth_up : (j n : ℕ) → 1 ≤ n / 2 ^ j → depth_of n ≡ depth_of (n / 2 ^ j) + j
depth_up zero n h = ap depth_of (let e : n ≡ n / 1 = omega arith in e) ∙ omega arith
depth_up (suc j) n h =
    let e : n / 2 ^ suc j ≡ n / 2 / 2 ^ j = ap (λ (x : ℕ). n / x) (pow-suc 2 j ∙ omega arith) ∙ sym (div-div-eq-div-mul n 2 (2 ^ j)) in
    let l : 2 ≤ n = some (dec_lt 1 n) e in
    omega (arith, depth_half n l, depth_up j (n / 2) (omega arith), ap depth_of e)
  where
    some : Dec (1 < n) → n / 2 ^ suc j ≡ n / 2 / 2 ^ j → 2 ≤ n
    some (yes b) e = omega arith
    some (no b) e = absurd (omega (arith, ap (λ (x : ℕ). x / 2 ^ j) (let z : n / 2 ≡ 0 = omega arith in z), zero-div (2 ^ j)))

module _ (D : ℕ) (f : ℕ → ℕ) (G : GoodBits D f) (l : ℕ) (L : Leaf (Cut D f) l) where
  abbrev levels : ℕ
  levels = D - depth_of l

  -- place q is one of leaf l
  abbrev pub Beneath : ℕ → Type 0
  Beneath q = (2 ^ D + q) / 2 ^ levels ≡ l

  lowest : At D (l * 2 ^ levels)
  lowest = at_first D (depth_of l) levels l (at_depth (omega (arith, L.low))) (omega (arith, leaf_depth D f G l L))

  -- no other bit is set there
  pub beneath_clear : (q : ℕ) → q < 2 ^ D → Beneath q → q ≢ place_of D l → f q ≡ 0
  beneath_clear q h b z = go (ℕ_discrete (f q) 1)
    where
      go : Dec (f q ≡ 1) → f q ≡ 0
      go (yes s) =
          let (k, K, e, u) = set_leaf D f G q h s in
          let c = cover_once D f G (2 ^ D + q) (omega arith) (omega (arith, pow_next D)) in
          let a = at_first D (depth_of k) (D - depth_of k) k (at_depth (omega (arith, K.low))) (omega (arith, leaf_depth D f G k K)) in
          let own : 2 ^ D + q ≡ k * 2 ^ (D - depth_of k) = omega (arith, a.low) in
          let there : (2 ^ D + q) / 2 ^ (D - depth_of k) ≡ k = ap (λ (x : ℕ). x / 2 ^ (D - depth_of k)) own ∙ mul-div_left k (pow_pos (D - depth_of k)) in
          let i = c.only levels (omega arith) (subst (Leaf (Cut D f)) (sym b) L) in
          let j = c.only (D - depth_of k) (omega arith) (subst (Leaf (Cut D f)) (sym there) K) in
          let same : k ≡ l = sym there ∙ ap (λ (x : ℕ). (2 ^ D + q) / 2 ^ x) (j ∙ sym i) ∙ b in
          absurd (z (sym e ∙ ap (place_of D) same))
      go (no s) = omega (arith, G.small q)

  -- its pin lies over all its places
  pub over_beneath : (g : ℕ → ℕ) (q : ℕ) → q < 2 ^ D → Beneath q → over f g q ≡ g (place_of D l)
  over_beneath g q h b =
      let w : ℕ = 2 ^ levels in
      let r : (2 ^ D + q) / w * w + (2 ^ D + q) % w ≡ 2 ^ D + q = div-add-mod' (2 ^ D + q) w in
      let m : (2 ^ D + q) % w < w = mod-lt (2 ^ D + q) {m = w} (pow_pos levels) in
      let t : (2 ^ D + q) / w * w ≡ l * w = ap (λ (x : ℕ). x * w) b in
      let o = lowest in
      let i : place_of D l + (2 ^ D + q) % w ≡ q = omega (arith, o.low) in
      ap (over f g) (sym i)
      ∙ over_gap f g (place_of D l) ((2 ^ D + q) % w) (λ (x : ℕ) (k : x < (2 ^ D + q) % w).
      beneath_clear (place_of D l + suc x) (omega arith)
      (ap (λ (y : ℕ). y / w) (let e : 2 ^ D + (place_of D l + suc x) ≡ l * w + suc x = omega (arith, o.low) in e) ∙ digits_div l {m = w} {r = suc x} (omega arith))
      (omega arith))
      ∙ over-set f g (place_of D l) (leaf_set D f G l L)

  -- and over the place of a node below it
  pub node_beneath : (i m : ℕ) → m / 2 ^ i ≡ l → depth_of m ≤ D → (place_of D m < 2 ^ D) × Beneath (place_of D m)
  node_beneath i m e h =
      let d : depth_of m ≡ depth_of l + i = depth_up i m (omega (arith, L.low)) ∙ ap (λ (x : ℕ). depth_of x + i) e in
      let j : ℕ = D - depth_of m in
      let s : levels ≡ j + i = omega arith in
      let a = at_first D (depth_of m) j m (at_depth (omega (arith, div-le_self m (2 ^ i), L.low))) (omega arith) in (
        omega (arith, at_below a, pow_next D),
        ap (λ (x : ℕ). x / 2 ^ levels) (let r : 2 ^ D + place_of D m ≡ m * 2 ^ j = omega (arith, a.low) in r)
            ∙ ap (λ (x : ℕ). m * 2 ^ j / x) (ap (λ (x : ℕ). 2 ^ x) s ∙ pow-add 2 j i)
            ∙ sym (div-div-eq-div-mul (m * 2 ^ j) (2 ^ j) (2 ^ i)) ∙ ap (λ (x : ℕ). x / 2 ^ i) (mul-div_left m (pow_pos j)) ∙ e,
      )

  pub over_node : (g : ℕ → ℕ) (i m : ℕ) → m / 2 ^ i ≡ l → depth_of m ≤ D → over f g (place_of D m) ≡ g (place_of D l)
  over_node g i m e h = let (a, b) = node_beneath i m e h in over_beneath g (place_of D m) a b

  -- so over that of a cut there
  pub over_cut : (g : ℕ → ℕ) (i n p : ℕ) → n / 2 ^ i ≡ l → CutPlace D n p → over f g p ≡ g (place_of D l)
  over_cut g i n p e c =
      let k : Cut D (λ q. 1) n = (cut_set D (λ q. 1) G.deep c).1 refl in
      let d = cut_depth D (λ q. 1) G.deep n k in
      let up : (2 * n + 1) / 2 ^ suc i ≡ l = ap (λ (x : ℕ). (2 * n + 1) / x) (pow-suc 2 i ∙ omega arith) ∙ sym (div-div-eq-div-mul (2 * n + 1) 2 (2 ^ i)) ∙ ap (λ (x : ℕ). x / 2 ^ i) (omega arith) ∙ e in
      ap (over f g) (named_place D G.deep p c.low c.high ∙ ap (λ (x : ℕ). place_of D (2 * x + 1)) c.names)
      ∙ over_node g (suc i) (2 * n + 1) up (omega (arith, depth_right n (cut_low D (λ q. 1) G.deep n k)))
