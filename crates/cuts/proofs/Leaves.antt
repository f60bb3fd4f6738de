-- The leaves of good leaf bits: they cover the panel once, and the set bits are the first bits below them.
use mathlib.Core.Path.{◌≡◌, refl, sym, ap, ◌∙◌, subst}
use mathlib.Core.Logic.{◌↔◌}
use Prim.Native.Nat.{ℕ, ◌+◌, ◌-◌, ◌*◌, ◌/◌, ◌^◌, ◌≤◌, ◌<◌}
use native.Mathlib.Omega.{arith}
use Rattle.nodes.specs.Depth.{depth_of}
use Rattle.nodes.proofs.Depths.{At, ancestor, at_from, at_depth, at_ancestor, depth_is, depth_half, below_depth}
use Rattle.sums.proofs.Ranks.{Bits}
use Rattle.sums.proofs.Counts.{by_node, at_first}
use Rattle.cuts.specs.Cuts.{Cut, GoodCuts, Leaf, CoverOnce, place_of}
use Rattle.cuts.proofs.Covering.{Tree, ancestor_is, cover}
use Rattle.cuts.proofs.CutBits.{first, CutBit}
use Rattle.cuts.proofs.CutBits as by_node_lem
use Rattle.cuts.proofs.Places.{cut_depth, cut_bit, dec_cut}

-- the leaf bits of a good panel of depth D
pub record GoodBits (D : ℕ) (f : ℕ → ℕ) : Type 0 where
  pub deep : D ≤ 32
  pub small : Bits f
  pub start : f 0 ≡ 1
  pub cuts : GoodCuts (Cut D f)

-- sets with the same cut nodes have the same leaves
pub leaf_same : {P Q : ℕ → Type 0} → ((n : ℕ) → 1 ≤ n → (P n ↔ Q n)) → (n : ℕ) → Leaf P n → Leaf Q n
leaf_same e n l = record {
  low = l.low;
  uncut = λ q. l.uncut ((e n (omega (arith, l.low))).1 q);
  parent = (e (n / 2) (omega (arith, l.low))).0 l.parent;
}

module _ (D : ℕ) (f : ℕ → ℕ) (G : GoodBits D f) where
  -- ---- the same by node

  pub same_cuts : (n : ℕ) → 1 ≤ n → (Cut D f n ↔ CutBit D (by_node D f) n)
  same_cuts n h = cut_bit D f G.deep n h

  pub start-bit : by_node D f (2 ^ D) ≡ 1
  start-bit = ap f (let e : 2 ^ D - 2 ^ D ≡ 0 = omega arith in e) ∙ G.start

  pub root_bit : CutBit D (by_node D f) 1
  root_bit = (same_cuts 1 (omega arith)).0 G.cuts.root

  pub up_bit : (n : ℕ) → 2 ≤ n → CutBit D (by_node D f) n → CutBit D (by_node D f) (n / 2)
  up_bit n h c = (same_cuts (n / 2) (omega arith)).0 (G.cuts.up n h ((same_cuts n (omega arith)).1 c))

  pub to_bits : (n : ℕ) → Leaf (Cut D f) n → Leaf (CutBit D (by_node D f)) n
  to_bits = leaf_same same_cuts

  pub from_bits : (n : ℕ) → Leaf (CutBit D (by_node D f)) n → Leaf (Cut D f) n
  from_bits = leaf_same λ n h. ((same_cuts n h).1, (same_cuts n h).0)

  -- ---- cover

  pub good_tree : Tree D (Cut D f)
  good_tree = record {
    dec = dec_cut D f G.deep;
    root = G.cuts.root;
    up = G.cuts.up;
    bottom = λ n a c. omega (arith, cut_depth D f G.deep n c, depth_is a);
  }

  pub cover_once : CoverOnce D (Cut D f)
  cover_once N l h =
      let (i, b, m, u) = cover D (Cut D f) good_tree N (at_from l h) in record {
        levels = i;
        within = omega arith;
        leaf = subst (Leaf (Cut D f)) (ancestor_is i N) m;
        only = λ j z q. u j z (subst (Leaf (Cut D f)) (sym (ancestor_is j N)) q);
      }

  -- ---- a leaf's place

  pub leaf_depth : (k : ℕ) → Leaf (Cut D f) k → depth_of k ≤ D
  leaf_depth k l = omega (arith, depth_half k l.low, cut_depth D f G.deep (k / 2) l.parent)

  pub leaf_range : (k : ℕ) → Leaf (Cut D f) k → k < 2 ^ (D + 1)
  leaf_range k l = below_depth k D (omega (arith, l.low)) (leaf_depth k l)

  leaf_at : (k : ℕ) → Leaf (Cut D f) k → At (depth_of k) k
  leaf_at k l = at_depth (omega (arith, l.low))

  levels_of : (k : ℕ) → Leaf (Cut D f) k → depth_of k + (D - depth_of k) ≡ D
  levels_of k l = omega (arith, leaf_depth k l)

  first_at : (k : ℕ) → Leaf (Cut D f) k → At D (first (D - depth_of k) k)
  first_at k l = at_first D (depth_of k) (D - depth_of k) k (leaf_at k l) (levels_of k l)

  pub leaf_place : (k : ℕ) → Leaf (Cut D f) k → place_of D k < 2 ^ D
  leaf_place k l = omega (arith, first_at k l)

  -- a leaf's first bit is set
  pub leaf_set : (k : ℕ) → Leaf (Cut D f) k → f (place_of D k) ≡ 1
  leaf_set k l = by_node_lem.leaf_set D (by_node D f) start-bit root_bit up_bit (depth_of k) (D - depth_of k) k (leaf_at k l) (levels_of k l) (to_bits k l)

  -- every set bit is the first bit of exactly one leaf
  pub set_leaf : (p : ℕ) → p < 2 ^ D → f p ≡ 1
      → (k : ℕ) × Leaf (Cut D f) k × (place_of D k ≡ p) × ((m : ℕ) → Leaf (Cut D f) m → place_of D m ≡ p → m ≡ k)
  set_leaf p h s =
      let (i, b, l, q, u) = by_node_lem.set_leaf D (by_node D f) start-bit root_bit up_bit (2 ^ D + p) a (ap f (let e : 2 ^ D + p - 2 ^ D ≡ p = omega arith in e) ∙ s) in
      (ancestor i (2 ^ D + p), from_bits (ancestor i (2 ^ D + p)) l, own i b q, λ m x e. (u (depth_of m) (D - depth_of m) m (leaf_at m x) (levels_of m x) (to_bits m x) (omega (arith, first_at m x))).1)
    where
      a : At D (2 ^ D + p)
      a = omega arith

      own : (i : ℕ) → i < D → 2 ^ D + p ≡ first i (ancestor i (2 ^ D + p)) → place_of D (ancestor i (2 ^ D + p)) ≡ p
      own i b q =
          let c : At (D - i) (ancestor i (2 ^ D + p)) = at_ancestor i (D - i) (subst (λ x. At x (2 ^ D + p)) (let e : D ≡ D - i + i = omega arith in e) a) in
          ap (λ x. ancestor i (2 ^ D + p) * 2 ^ x - 2 ^ D) (let e : D - depth_of (ancestor i (2 ^ D + p)) ≡ i = omega (arith, depth_is c) in e) ∙ omega arith

  -- different leaves have different places
  pub place_once : (k m : ℕ) → Leaf (Cut D f) k → Leaf (Cut D f) m → place_of D k ≡ place_of D m → k ≡ m
  place_once k m x y e =
      let (n, l, q, u) = set_leaf (place_of D m) (leaf_place m y) (leaf_set m y) in u k x e ∙ sym (u m y refl)
