-- A node's sum counts the leaf bits set below it: at least 2 where the node is cut, 1 where it is a leaf.
use mathlib.Core.Path.{◌≡◌, ap, subst}
use mathlib.Core.Logic.{◌↔◌}
use Prim.Native.Nat.{ℕ, zero, suc, ◌+◌, ◌*◌, ◌/◌, ◌^◌, ◌≤◌}
use native.Mathlib.Decide.{ℕ_discrete}
use native.Mathlib.Omega.{arith}
use lib.Pow.{pow_pos}
use Rattle.nodes.proofs.Depths.{At}
use Rattle.sums.proofs.Ranks.{Bits}
use Rattle.sums.proofs.Counts.{sum, first_left}
use Rattle.cuts.proofs.CutBits.{first, CutBit, cut_in, cut_out, dec_cut_bit, first_set}

-- a sum counts at least the first bit below its node
pub first_sum : (g : ℕ → ℕ) (j n : ℕ) → g (first j n) ≤ sum g j n
unfolding sum
first_sum g zero n = omega (arith, ap g (let e : first 0 n ≡ n = omega arith in e))
first_sum g (suc j) n = omega (arith, ap g (first_left j n), first_sum g j (2 * n))

module _ (D : ℕ) (g : ℕ → ℕ) (small : Bits g) (up : (n : ℕ) → 2 ≤ n → CutBit D g n → CutBit D g (n / 2)) where
  -- below a node that is not cut only the first bit can be set
  pub uncut_sum : (d j n : ℕ) → At d n → d + j ≡ D → (CutBit D g n → ⊥) → sum g j n ≡ g (first j n)
  unfolding sum
  uncut_sum d zero n a e z = ap g (omega arith)
  uncut_sum d (suc j) n a e z =
      omega (
        arith,
        uncut_sum (suc d) j (2 * n) (omega arith) (omega arith) (λ c. z (subst (CutBit D g) (omega arith) (up (2 * n) (omega (arith, pow_pos d)) c))),
        uncut_sum (suc d) j (2 * n + 1) (omega arith) (omega arith) (λ c. z (subst (CutBit D g) (omega arith) (up (2 * n + 1) (omega (arith, pow_pos d)) c))),
        ap g (first_left j n),
        odd (ℕ_discrete (g (first j (2 * n + 1))) 1),
      )
    where
      odd : Dec (g (first j (2 * n + 1)) ≡ 1) → g (first j (2 * n + 1)) ≡ 0
      odd (yes c) = absurd (z (cut_in D g (suc j) a e c))
      odd (no c) = omega (arith, small (first j (2 * n + 1)))

  module _ (start : g (2 ^ D) ≡ 1) (root : CutBit D g 1) where
    -- below a node whose parent is cut some bit is set
    pub pos_sum : (d j n : ℕ) → At d n → d + j ≡ D → (2 ≤ n → CutBit D g (n / 2)) → 1 ≤ sum g j n
    pos_sum d j n a e c = omega (arith, first_sum g j n, first_set D g start root up d j n a e c)

    -- a cut node's sum is at least 2
    pub cut_sum : (d j n : ℕ) → At d n → d + suc j ≡ D → CutBit D g n → 2 ≤ sum g (suc j) n
    unfolding sum
    cut_sum d j n a e c =
        omega (
          arith,
          pos_sum (suc d) j (2 * n) (omega arith) (omega arith) (λ h. subst (CutBit D g) (omega arith) c),
          pos_sum (suc d) j (2 * n + 1) (omega arith) (omega arith) (λ h. subst (CutBit D g) (omega arith) c),
        )

    -- the cut nodes are those whose sum is at least 2
    pub cut_iff : (d j n : ℕ) → At d n → d + j ≡ D → (CutBit D g n ↔ (2 ≤ sum g j n))
    cut_iff d j n a e = (to j e, λ h. from h (dec_cut_bit D g n))
      where
        to : (j : ℕ) → d + j ≡ D → CutBit D g n → 2 ≤ sum g j n
        to zero e c = absurd (cut_out D g 0 a e c)
        to (suc j) e c = cut_sum d j n a e c

        from : 2 ≤ sum g j n → Dec (CutBit D g n) → CutBit D g n
        from h (yes c) = c
        from h (no c) = absurd (omega (arith, uncut_sum d j n a e c, small (first j n)))
