-- A leaf counts for as much as its children would, and node 1 for all: so the leaves' shares make up the whole.
use mathlib.Core.Path.{◌≡◌, ap, ◌∙◌, subst}
use Prim.Native.Nat.{ℕ, zero, suc, ◌+◌, ◌-◌, ◌*◌, ◌^◌, ◌≤◌, ◌<◌}
use native.Mathlib.Nat.{add_assoc}
use native.Mathlib.Omega.{arith}
use Rattle.nodes.specs.Depth.{depth_of}
use Rattle.nodes.proofs.Depths.{At, at_left, at_right, at_root, depth_is}
use Rattle.sums.specs.Rank.{rank}
use Rattle.sums.proofs.Counts.{by_node, sum, rank_all}
use Rattle.cuts.specs.Cuts.{Cut, Leaf, leaf_number}
use Rattle.cuts.proofs.Places.{dec_cut}
use Rattle.cuts.proofs.Leaves.{GoodBits}
use Rattle.cuts.proofs.Numbering.{number_once, number_root, number_left, number_right}
use Rattle.cuts.proofs.Descent.{Reached, reached_root, reached_left, reached_right, reached_leaf, leaf_sum, bottom_uncut}

-- h 0 + h 1 + .. , c of them
unfoldable pub total : (ℕ → ℕ) → ℕ → ℕ
total h zero = 0
total h (suc c) = total h c + h c

-- for each i below the count, leaf i is the leaf of number i
abbrev pub ByNumber : (D : ℕ) → (ℕ → ℕ) → (ℕ → ℕ) → Type 0
ByNumber D f leaf = (i : ℕ) → i < rank f (2 ^ D) → Leaf (Cut D f) (leaf i) × (leaf_number D f (leaf i) ≡ i)

-- where a node of depth d has the share 2 ^ (w - d), the leaves have 2 ^ w
module _ (D : ℕ) (f : ℕ → ℕ) (G : GoodBits D f) (leaf : ℕ → ℕ) (L : ByNumber D f leaf) (w : ℕ) (room : D ≤ w) where
  abbrev share : ℕ → ℕ
  share i = 2 ^ (w - depth_of (leaf i))

  abbrev Share : ℕ → ℕ → ℕ → Type 0
  Share d j n = leaf_number D f n + sum (by_node D f) j n ≤ rank f (2 ^ D)
      → total share (leaf_number D f n + sum (by_node D f) j n) ≡ total share (leaf_number D f n) + 2 ^ (w - d)

  leaf_share : (d j n : ℕ) → At d n → d + j ≡ D → Reached D f n → (Cut D f n → ⊥) → Share d j n
  unfolding total
  leaf_share d j n a e r z b =
      let l : Leaf (Cut D f) n = reached_leaf D f G d j n a e r z in
      let s : sum (by_node D f) j n ≡ 1 = (leaf_sum D f G d j n a e r).0 l in
      let (m, q) = L (leaf_number D f n) (omega arith) in
      let k : leaf (leaf_number D f n) ≡ n = number_once D f G (leaf (leaf_number D f n)) n m l q in
      ap (total share) (let t : leaf_number D f n + sum (by_node D f) j n ≡ suc (leaf_number D f n) = omega arith in t)
      ∙ ap (λ x. total share (leaf_number D f n) + 2 ^ (w - x)) (ap depth_of k ∙ depth_is a)

  node_share : (d j n : ℕ) → At d n → d + j ≡ D → Reached D f n → Share d j n
  unfolding sum
  node_share d zero n a e r = leaf_share d 0 n a e r (bottom_uncut D f G n (subst (λ x. At x n) (let q : d ≡ D = omega arith in q) a))
  node_share d (suc j) n a e r =
      go (dec_cut D f G.deep n) (node_share (suc d) j (2 * n) (at_left a) (omega arith)) (node_share (suc d) j (2 * n + 1) (at_right a) (omega arith))
    where
      go : Dec (Cut D f n) → (Reached D f (2 * n) → Share (suc d) j (2 * n)) → (Reached D f (2 * n + 1) → Share (suc d) j (2 * n + 1)) → Share d (suc j) n
      go (no z) p q = leaf_share d (suc j) n a e r z
      go (yes c) p q = λ b.
          let x = number_left D f d j n a e in
          let y = number_right D f d j n a e in
          omega (
            arith,
            p (reached_left D f n c) (omega arith),
            q (reached_right D f n c) (omega arith),
            ap (total share) x,
            ap (total share) y,
            ap (λ k. total share (k + sum (by_node D f) j (2 * n))) x,
            ap (λ k. total share (k + sum (by_node D f) j (2 * n + 1))) y,
            ap (total share) (add_assoc (leaf_number D f n) (sum (by_node D f) j (2 * n)) (sum (by_node D f) j (2 * n + 1))),
            ap (λ k. 2 ^ k) (let q : w - d ≡ suc (w - suc d) = omega arith in q),
          )

  pub shares : total (λ i. 2 ^ (w - depth_of (leaf i))) (rank f (2 ^ D)) ≡ 2 ^ w
  unfolding total
  shares =
      let z = number_root D f in
      let c = rank_all D f in
      omega (
        arith,
        node_share 0 D 1 at_root (omega arith) (reached_root D f) (omega arith),
        ap (total share) z,
        ap (λ k. 2 ^ k) (let q : w - 0 ≡ w = omega arith in q),
        ap (total share) (let q : leaf_number D f 1 + sum (by_node D f) D 1 ≡ rank f (2 ^ D) = omega arith in q),
      )
