-- Of two nodes on one way the one with the lesser number is an ancestor of the other. So a leaf on the way to the first node of depth D below k lies
-- above k, or below it, and then k is cut, or is k.
use mathlib.Core.Path.{◌≡◌, refl, sym, ap, ap₂, ◌∙◌, subst, subst⁻¹}
use mathlib.Core.List.{List}
use mathlib.Core.Bool.{Bool, true}
use mathlib.Core.Logic.{◌⊎◌, ⊎_elim}
use Prim.Native.Nat.{ℕ, ◌+◌, ◌-◌, ◌*◌, ◌/◌, ◌%◌, ◌^◌, ◌≤◌, ◌<◌}
use native.Mathlib.Decide.{dec_le, dec_lt}
use native.Mathlib.Nat.{div-one, mod-eq_of_lt}
use native.Mathlib.Omega.{arith}
use lib.Pow.{pow_mono, shr-shr, shr_le}
use Rattle.nodes.specs.Depth.{depth_of}
use Rattle.tables.specs.inner.Says.{Says}
use Rattle.nodes.proofs.Depths.{At, pow_next, at_below, at_depth, depth_half, depth_le, ancestor, at_ancestor}
use Rattle.nodes.proofs.Limits.{node_small}
use Rattle.cuts.specs.Cuts.{LeafAbove}
use Rattle.panel.specs.Panels.{deep_of, CutOf, Good, InRange, LeafOf, number_in, leaf_count}
use Rattle.descents.specs.inner.Descents.{NamedAt, OnWay, Passed, Spot}
use Rattle.leaves.specs.inner.Ways.{CutsTo, OnFirstWay, Ranged}
use Rattle.sums.proofs.Counts.{at_first}
use Rattle.words.specs.Words.{leaf_bit}
use Rattle.cuts.proofs.CutBits.{ancestor_first}
use Rattle.cuts.proofs.Places.{cut_low, cut_depth}
use Rattle.cuts.proofs.Covering.{ancestor_is, up_all, is_above, above_no_leaf}
use Rattle.panel.proofs.Lengths.{fits_small}
use Rattle.panel.proofs.GoodPanels.{good_bits, number_root}
use Rattle.descents.proofs.Downward.{root_spot}

-- on the way up from n, the node j levels up is that many above the one i levels up
higher : (n i j : ℕ) {x y : ℕ} → i ≤ j → n / 2 ^ i ≡ x → n / 2 ^ j ≡ y → x / 2 ^ (j - i) ≡ y
higher n i j h e f =
    ap (λ z. z / 2 ^ (j - i)) (sym e) ∙ shr-shr n i (j - i) ∙ ap (λ z. n / 2 ^ z) (let g : i + (j - i) ≡ j = omega arith in g) ∙ f

-- so the one with the lesser number is the higher one
higher_lt : (n i j : ℕ) {x y : ℕ} → n / 2 ^ i ≡ x → n / 2 ^ j ≡ y → y < x → i < j
higher_lt n i j {x} {y} e f h = go (dec_le j i)
  where
    go : Dec (j ≤ i) → i < j
    go (yes l) = absurd (omega (arith, higher n j i l f e, shr_le y (i - j)))
    go (no l) = omega arith

module _ (s : List ℕ) (G : Good s) (k : ℕ) (R : InRange s k) where
  deep : depth_of k ≤ deep_of s
  deep = depth_le k (deep_of s) R.high

  -- the first node of depth D below k
  node : ℕ
  node = k * 2 ^ (deep_of s - depth_of k)

  node_at : At (deep_of s) node
  unfolding node
  node_at = at_first (deep_of s) (depth_of k) (deep_of s - depth_of k) k (at_depth (omega (arith, R.low))) (omega (arith, deep))

  node_own : node / 2 ^ (deep_of s - depth_of k) ≡ k
  unfolding node
  node_own = sym (ancestor_is (deep_of s - depth_of k) node) ∙ ancestor_first (deep_of s - depth_of k) k

  -- a leaf on the way there lies above k, or below it, and then k is cut
  above : (m : ℕ) → LeafOf s m → node / 2 ^ (deep_of s - depth_of m) ≡ m → m < k → LeafAbove (CutOf s) k m
  above m x e h =
      let i = deep_of s - depth_of k in
      let j = deep_of s - depth_of m in
      let l : i < j = higher_lt node i j node_own e h in
      is_above G.cuts (j - i) (omega arith) (higher node i j (omega arith) node_own e) x

  cut : (m : ℕ) → LeafOf s m → node / 2 ^ (deep_of s - depth_of m) ≡ m → k < m → CutOf s k
  cut m x e h =
      let i = deep_of s - depth_of k in
      let j = deep_of s - depth_of m in
      let l : j < i = higher_lt node j i e node_own h in
      let a : ancestor (i - j) m ≡ k = ancestor_is (i - j) m ∙ higher node j i (omega arith) e node_own in
      subst (CutOf s) a (up_all G.cuts.up m 1 (i - j) (omega arith) (omega (arith, R.low)) x.parent)

  -- or it is k, where k is a leaf
  own : (m : ℕ) → LeafOf s m → node / 2 ^ (deep_of s - depth_of m) ≡ m → LeafOf s k → m ≡ k
  own m x e l = go (dec_lt m k) (dec_lt k m)
    where
      go : Dec (m < k) → Dec (k < m) → m ≡ k
      go (yes h) r = absurd (above_no_leaf (above m x e h) l)
      go (no q) (yes h) = absurd (l.uncut (cut m x e h))
      go (no q) (no r) = omega arith

  -- the first node of depth D below k, as the code shifts to it
  module _ {D d : ℕ} (e : D ≡ deep_of s) (f : d ≡ depth_of k) where
    pub shallow : d ≤ D
    shallow = omega (arith, deep)

    shifted : k * 2 ^ (D - d) % 2 ^ 32 ≡ node
    unfolding node
    shifted =
        ap₂ (λ x y. k * 2 ^ (x - y) % 2 ^ 32) e f
        ∙ omega (arith, node_small (fits_small G.fits) (at_below node_at))

    -- the way there starts at node 1
    root : {n : ℕ} → n ≡ k * 2 ^ (D - d) % 2 ^ 32 → n / 2 ^ D ≡ 1
    root {n} h =
        let r : At 0 (ancestor D n) = at_ancestor D 0 (subst (λ x. At x n) (let q : deep_of s ≡ 0 + D = omega arith in q) (subst⁻¹ (At (deep_of s)) (h ∙ shifted) node_at)) in
        omega (arith, ancestor_is D n)

    pub start_cuts : {n : ℕ} → n ≡ k * 2 ^ (D - d) % 2 ^ 32 → Passed s D n 0
    start_cuts {n} h =
        let a : At (deep_of s) n = subst⁻¹ (At (deep_of s)) (h ∙ shifted) node_at in
        record { low = a.low; high = at_below a; most = omega arith; cut = λ x. absurd (omega arith); uncut = λ x. absurd (omega arith) }

    pub start-named : {n p half : ℕ} → n ≡ k * 2 ^ (D - d) % 2 ^ 32 → half ≡ 1 * 2 ^ (D - 1) % 2 ^ 64 → p ≡ 3 * 2 ^ D % 2 ^ 64 + half → NamedAt s D p half (n / 2 ^ D)
    start-named {n} {p} {half} h f g =
        let b : 2 ^ D ≡ 2 * 2 ^ (D - 1) = ap (λ (x : ℕ). 2 ^ x) {x = D} {y = D - 1 + 1} (omega (arith, G.fits.low)) ∙ pow_next (D - 1) in
        let m = pow_mono {i = D} {j = 17} (omega (arith, fits_small G.fits)) in
        let a : half ≡ 2 ^ (D - 1) = f ∙ mod-eq_of_lt (omega arith) ∙ omega arith in
        let c : 3 * 2 ^ D % 2 ^ 64 ≡ 3 * 2 ^ D = mod-eq_of_lt (omega arith) in
        record { place = omega (arith, ap (λ (x : ℕ). 2 ^ x) e, ap (λ (x : ℕ). (2 * x + 1) * half) (root h)); below = a }

    pub start_toward : {n w : ℕ} → n ≡ k * 2 ^ (D - d) % 2 ^ 32 → w ≡ leaf_count s → Spot s D (D + 3) (n / 2 ^ D) w × (0 ≡ number_in s (n / 2 ^ D))
    start_toward {n} {w} h x = (subst⁻¹ (λ y. Spot s D (D + 3) y w) (root h) (root_spot s G e x), sym (ap (number_in s) (root h) ∙ number_root s G))

    -- and ends with k or, at depth D, right above it
    module _ {n l c : ℕ} (h : n ≡ k * 2 ^ (D - d) % 2 ^ 32) (P : Passed s l n c) (t : (l + 1 ≡ D - d) ⊎ ((l ≡ 0) × (D ≡ d))) where
      own_way : n / 2 ^ (deep_of s - depth_of k) ≡ k
      own_way = ap (λ (x : ℕ). x / 2 ^ (deep_of s - depth_of k)) (h ∙ shifted) ∙ node_own

      -- the ancestor of depth c
      over : c ≤ depth_of k → n / 2 ^ (deep_of s - c) ≡ k / 2 ^ (depth_of k - c)
      over z =
          sym (higher n (deep_of s - depth_of k) (deep_of s - c) (omega arith) own_way refl)
          ∙ ap (λ (x : ℕ). k / 2 ^ x) {x = deep_of s - c - (deep_of s - depth_of k)} {y = depth_of k - c} (omega (arith, deep))

      self : c ≡ depth_of k → k / 2 ^ (depth_of k - c) ≡ k
      self z = ap (λ (x : ℕ). k / 2 ^ x) {x = depth_of k - c} {y = 0} (omega arith) ∙ div-one k

      -- is a leaf where it is not cut
      stop : 1 ≤ c → c ≤ depth_of k → (CutOf s (k / 2 ^ (depth_of k - c)) → ⊥) → LeafOf s (k / 2 ^ (depth_of k - c))
      stop a z q = record {
        low = omega (arith, cut_low (deep_of s) (leaf_bit (deep_of s) s) (good_bits s G).deep (k / 2 ^ (depth_of k - c) / 2) parent);
        uncut = q;
        parent = parent;
      }
        where
          parent : CutOf s (k / 2 ^ (depth_of k - c) / 2)
          parent =
              subst (CutOf s) (ap (λ (x : ℕ). n / 2 ^ x) {x = deep_of s + 1 - c} {y = deep_of s - c + 1} (omega (arith, deep)) ∙ sym (shr-shr n (deep_of s - c) 1) ∙ ap (λ (x : ℕ). x / 2) (over z)) (P.cut a)

      -- a node of depth D is not cut
      own_uncut : c ≡ depth_of k → CutOf s (k / 2 ^ (depth_of k - c)) → ⊥
      own_uncut z q =
          ⊎_elim (λ x. P.uncut (omega (arith, deep)) (subst⁻¹ (CutOf s) (over (omega arith)) q))
          (λ x. omega (arith, x.1, cut_depth (deep_of s) (leaf_bit (deep_of s) s) (good_bits s G).deep k (subst (CutOf s) (self z) q))) t

      own_cut : depth_of k < c → CutOf s k
      own_cut z =
          subst (CutOf s) (ap (λ (x : ℕ). n / 2 ^ x) {x = deep_of s + 1 - c} {y = deep_of s - depth_of k} (⊎_elim (λ x. omega (arith, P.most, deep)) (λ x. omega (arith, P.most, x.1)) t) ∙ own_way)
          (P.cut (omega arith))

      inner : c < depth_of k → c + l < deep_of s
      inner z = ⊎_elim (λ x. omega (arith, deep)) (λ x. omega (arith, x.0, deep)) t

      -- it is not node 1, which is cut
      below_root : c < depth_of k → 1 ≤ c
      below_root z = go (dec_lt 0 c)
        where
          go : Dec (0 < c) → 1 ≤ c
          go (yes b) = b
          go (no b) =
              absurd (P.uncut (inner z) (subst⁻¹ (CutOf s) (ap (λ (x : ℕ). n / 2 ^ x) {x = deep_of s - c} {y = D} (omega arith) ∙ root h) G.cuts.root))

      pub end_cuts : CutsTo s k c
      end_cuts = record {
        leaf = λ z. subst (LeafOf s) (self z) (stop (omega (arith, depth_half k R.low)) (omega arith) (own_uncut z));
        cut = own_cut;
        above = λ z. is_above G.cuts (depth_of k - c) (omega arith) refl (stop (below_root z) (omega arith) (λ q. P.uncut (inner z) (subst⁻¹ (CutOf s) (over (omega arith)) q)));
      }

    pub stop_toward : {n m i : ℕ} → n ≡ k * 2 ^ (D - d) % 2 ^ 32 → OnWay s n m i → OnFirstWay s k m i
    unfolding node
    stop_toward {n} {m} h t =
        let o = ap (λ x. x / 2 ^ (deep_of s - depth_of m)) (sym (h ∙ shifted)) ∙ t.over in
        record { leaf = t.leaf; number = t.number; own = own m t.leaf o; above = above m t.leaf o; cut = cut m t.leaf o }

-- a leaf has as many cuts above it as its depth says
pub leaf_cuts : {s : List ℕ} {k c : ℕ} → CutsTo s k c → LeafOf s k → c ≡ depth_of k
leaf_cuts {s} {k} {c} t l = go (dec_lt c (depth_of k)) (dec_lt (depth_of k) c)
  where
    go : Dec (c < depth_of k) → Dec (depth_of k < c) → c ≡ depth_of k
    go (yes h) r = absurd (above_no_leaf (t.above h) l)
    go (no q) (yes h) = absurd (l.uncut (t.cut h))
    go (no q) (no r) = omega arith

-- whether k is a node of the panel, by the panel's depth
pub ranged : {s : List ℕ} {D k : ℕ} {r : Bool} → D ≡ deep_of s → Says (Ranged D k) r → Says (InRange s k) r
ranged {s} {D} {k} e t = record {
  yes = λ h. let x = t.yes h in record { low = x.low; high = subst (λ y. k < 2 ^ (y + 1)) e x.high };
  no = λ h x. t.no h (record { low = x.low; high = subst⁻¹ (λ y. k < 2 ^ (y + 1)) e x.high });
}

-- .. and past that test it is one
pub known : {s : List ℕ} {D k : ℕ} {r : Bool} → D ≡ deep_of s → Says (Ranged D k) r → r ≡ true → InRange s k
known e t = (ranged e t).yes
