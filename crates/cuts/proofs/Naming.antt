-- The leaf bit that names a node, as the code finds it and reads it.
use mathlib.Core.Path.{◌≡◌, sym, ap, ◌∙◌}
use Prim.Native.Nat.{ℕ, ◌+◌, ◌-◌, ◌*◌, ◌/◌, ◌%◌, ◌^◌, ◌≤◌, ◌<◌}
use native.Mathlib.Nat.{div-le_self, mod-eq_of_lt}
use native.Mathlib.Omega.{arith}
use lib.Pow.{pow_mono, pow_pos}
use lib.Dec.{eqb}
use lib.Count.{count_trailing_zeros}
use Rattle.bits.proofs.Laws.{one_shl}
use Rattle.nodes.specs.Depth.{depth_of}
use Rattle.tables.specs.inner.Says.{Says}
use Rattle.nodes.proofs.Depths.{at_depth, depth_is}
use Rattle.tables.proofs.Tables.{says_equal}
use Rattle.cuts.specs.Cuts.{Cut, named}
use Rattle.cuts.specs.inner.Steps.{CutPlace}
use Rattle.cuts.proofs.Places.{cut_place_lem, cut_set, place_name, names_zeros, names_named}

-- the code's shifts lose nothing
pub record Placed (D n j : ℕ) : Type 0 where
  pub first : 2 ^ D ≤ (2 * n + 1) * 2 ^ j
  pub shift : (2 * n + 1) * 2 ^ j % 2 ^ 64 ≡ (2 * n + 1) * 2 ^ j
  pub deep : 1 * 2 ^ D % 2 ^ 64 ≡ 2 ^ D
  pub found : CutPlace D n ((2 * n + 1) * 2 ^ j - 2 ^ D)

pub placed : (D n j : ℕ) → D ≤ 17 → 1 ≤ n → depth_of n + 1 + j ≡ D → Placed D n j
placed D n j l p h =
    let c = cut_place_lem D (depth_of n) j n (omega arith) (at_depth p) (omega arith) in
    let q : 2 ^ D ≤ 2 ^ 17 = pow_mono l in
    record {
      first = omega (arith, c.low);
      shift = mod-eq_of_lt (omega (arith, c.high));
      deep = one_shl D 64 (omega arith);
      found = c;
    }

-- the bit that names n says whether n is cut
pub says_cut : (D : ℕ) (f : ℕ → ℕ) → D ≤ 17 → {n p : ℕ} → CutPlace D n p → (b : ℕ) → b ≡ f p → Says (Cut D f n) (eqb b 1)
says_cut D f l c b e = let s = cut_set D f (omega arith) c in says_equal b 1 (λ t. s.1 (sym e ∙ t)) (λ x. e ∙ s.0 x)

-- ---- the node that a place names, as the code finds it

pub record Found (D p : ℕ) : Type 0 where
  pub deep : 1 * 2 ^ D % 2 ^ 64 ≡ 2 ^ D
  pub zeros : count_trailing_zeros 32 p < 32
  pub right_child : (2 ^ D + p) / 2 ^ count_trailing_zeros 32 p < 2 ^ 18
  pub low : 1 ≤ named D p
  pub levels : depth_of (named D p) + 1 + count_trailing_zeros 32 p ≡ D

pub found : (D p : ℕ) → D ≤ 17 → 0 < p → p < 2 ^ D → Found D p
found D p l a b =
    let (j, n, x) = place_name D p a b in
    let z : count_trailing_zeros 32 p ≡ j = names_zeros D p j n (omega arith) x in
    let e : named D p ≡ n = names_named D p j n (omega arith) x in
    let q : 2 ^ D ≤ 2 ^ 17 = pow_mono l in
    record {
      deep = one_shl D 64 (omega arith);
      zeros = omega (arith, x.levels);
      right_child = omega (arith, div-le_self (2 ^ D + p) (2 ^ count_trailing_zeros 32 p));
      low = omega (arith, x.at.low, pow_pos x.depth);
      levels = omega (arith, x.levels, ap depth_of e ∙ depth_is x.at);
    }
