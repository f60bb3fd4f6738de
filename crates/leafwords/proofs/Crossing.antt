-- Below a node: which nodes two and four levels down stand across from each other, and when all cuts across are there.
use mathlib.Core.Path.{◌≡◌, refl, sym, ap, ◌∙◌, subst}
use mathlib.Core.Logic.{◌≢◌}
use Prim.Native.Nat.{ℕ, zero, suc, ◌+◌, ◌*◌, ◌/◌, ◌%◌, ◌^◌, ◌≤◌}
use native.Mathlib.Decide.{dec_le}
use native.Mathlib.Omega.{arith}
use Rattle.nodes.specs.Neighbours.{right_child, edge}
use Rattle.nodes.proofs.Neighbouring.{right_child_lem}
use Rattle.nodes.proofs.Edges.{edge_0, edge_1, edge_2, edge_3, edge_root, edge_second}
use Rattle.cuts.specs.inner.Steps.{AcrossCut}
use Rattle.leafwords.specs.inner.LeafWord.{OuterAcross}

-- ---- four nodes, and two

four : (Q : ℕ → Type 0) (q : ℕ) → Q (4 * q) → Q (4 * q + 1) → Q (4 * q + 2) → Q (4 * q + 3) → (n : ℕ) → n / 4 ≡ q → Q n
four Q q a b c d n e = go (dec_le (n % 4) 0) (dec_le (n % 4) 1) (dec_le (n % 4) 2)
  where
    go : Dec (n % 4 ≤ 0) → Dec (n % 4 ≤ 1) → Dec (n % 4 ≤ 2) → Q n
    go (yes x) y z = subst Q (let h : 4 * q ≡ n = omega arith in h) a
    go (no x) (yes y) z = subst Q (let h : 4 * q + 1 ≡ n = omega arith in h) b
    go (no x) (no y) (yes z) = subst Q (let h : 4 * q + 2 ≡ n = omega arith in h) c
    go (no x) (no y) (no z) = subst Q (let h : 4 * q + 3 ≡ n = omega arith in h) d

pub two : (Q : ℕ → Type 0) (q : ℕ) → Q (2 * q) → Q (2 * q + 1) → (n : ℕ) → n / 2 ≡ q → Q n
two Q q a b n e = go (dec_le (n % 2) 0)
  where
    go : Dec (n % 2 ≤ 0) → Q n
    go (yes x) = subst Q (let h : 2 * q ≡ n = omega arith in h) a
    go (no x) = subst Q (let h : 2 * q + 1 ≡ n = omega arith in h) b

-- ---- across their long sides

module _ (q : ℕ) (p : 2 ≤ q) where
  first_across : edge (4 * q) ≡ right_child (right_child (edge q))
  first_across = ap edge (let e : 4 * q ≡ 2 * (2 * q) = omega arith in e) ∙ edge_0 q p

  pub second_across : edge (4 * q + 1) ≡ 4 * q + 2
  second_across = ap edge (let e : 4 * q + 1 ≡ 2 * (2 * q) + 1 = omega arith in e) ∙ edge_1 q p ∙ omega arith

  pub third_across : edge (4 * q + 2) ≡ 4 * q + 1
  third_across = ap edge (let e : 4 * q + 2 ≡ 2 * (2 * q + 1) = omega arith in e) ∙ edge_2 q p ∙ omega (arith, right_child_lem (2 * q))

  pub fourth_across : edge (4 * q + 3) ≡ 4 * edge q
  fourth_across = ap edge (let e : 4 * q + 3 ≡ 2 * (2 * q + 1) + 1 = omega arith in e) ∙ edge_3 q p ∙ omega arith

  -- at the border the outer two have none
  pub first_none : edge q ≡ 0 → edge (4 * q) ≡ 0
  first_none z = omega (arith, first_across, right_child_lem (right_child (edge q)), right_child_lem (edge q))

  pub first_some : edge q ≢ 0 → edge (4 * q) ≡ 4 * edge q + 3
  first_some z = omega (arith, first_across, right_child_lem (right_child (edge q)), right_child_lem (edge q))

-- the middle two below r stand across from each other, and so do the outer two below these
module _ (r : ℕ) (low : 2 ≤ r) where
  pub across_4 : edge (16 * r + 4) ≡ 16 * r + 11
  across_4 =
      let e = second_across r low in
      ap edge (let h : 16 * r + 4 ≡ 4 * (4 * r + 1) = omega arith in h) ∙ first_some (4 * r + 1) (omega arith) (omega arith) ∙ omega arith

  pub across_7 : edge (16 * r + 7) ≡ 16 * r + 8
  across_7 =
      let e = second_across r low in
      ap edge (let h : 16 * r + 7 ≡ 4 * (4 * r + 1) + 3 = omega arith in h) ∙ fourth_across (4 * r + 1) (omega arith) ∙ omega arith

  pub across_8 : edge (16 * r + 8) ≡ 16 * r + 7
  across_8 =
      let e = third_across r low in
      ap edge (let h : 16 * r + 8 ≡ 4 * (4 * r + 2) = omega arith in h) ∙ first_some (4 * r + 2) (omega arith) (omega arith) ∙ omega arith

  pub across_11 : edge (16 * r + 11) ≡ 16 * r + 4
  across_11 =
      let e = third_across r low in
      ap edge (let h : 16 * r + 11 ≡ 4 * (4 * r + 2) + 3 = omega arith in h) ∙ fourth_across (4 * r + 2) (omega arith) ∙ omega arith

-- ---- the cuts across

-- both nodes are cut or none
abbrev pub Both : (ℕ → Type 0) → ℕ → ℕ → Type 0
Both P n m = (P n → P m) × (P m → P n)

-- n is not cut, or its edge neighbour is none or is cut
abbrev pub Over : (ℕ → Type 0) → ℕ → Type 0
Over P n = P n → AcrossCut P n

-- so of m and the nodes two and four levels below it
pub record Across (P : ℕ → Type 0) (m : ℕ) : Type 0 where
  pub own : Over P m
  pub four_below : (n : ℕ) → n / 4 ≡ m → Over P n
  pub sixteen_below : (n : ℕ) → n / 16 ≡ m → Over P n

-- pairs below m: those of which one stands across from the other
pub record Pairs (P : ℕ → Type 0) (m : ℕ) : Type 0 where
  pub middle : Both P (4 * m + 1) (4 * m + 2)
  pub outer : Both P (16 * m + 4) (16 * m + 11)
  pub inner : Both P (16 * m + 7) (16 * m + 8)

module _ (P : ℕ → Type 0) where
  to : (n m : ℕ) → edge n ≡ m → (P n → P m) → Over P n
  to n m e h p z = subst P (sym e) (h p)

  none : (n : ℕ) → edge n ≡ 0 → Over P n
  none n e p z = absurd (z e)

  over_four : (r : ℕ) → 2 ≤ r → Over P (4 * r) → Over P (4 * r + 3) → Both P (4 * r + 1) (4 * r + 2) → (n : ℕ) → n / 4 ≡ r → Over P n
  over_four r l a d b = four (Over P) r a (to (4 * r + 1) (4 * r + 2) (second_across r l) b.0) (to (4 * r + 2) (4 * r + 1) (third_across r l) b.1) d

  pub across : (m : ℕ) → 2 ≤ m → OuterAcross P m → Pairs P m → ((r : ℕ) → r / 4 ≡ m → Both P (4 * r + 1) (4 * r + 2)) → Across P m
  across m l o b c = record {
    own = o.own;
    four_below = over_four m l o.first o.last b.middle;
    sixteen_below = λ n e.
        four (λ r. (n : ℕ) → n / 4 ≡ r → Over P n) m
        (below (4 * m) (omega arith) (at (16 * m) (4 * (4 * m)) (omega arith) o.first_first) (at (16 * m + 3) (4 * (4 * m) + 3) (omega arith) o.first_last))
        (below (4 * m + 1) (omega arith) (at (16 * m + 4) (4 * (4 * m + 1)) (omega arith) (to (16 * m + 4) (16 * m + 11) (across_4 m l) b.outer.0)) (at (16 * m + 7) (4 * (4 * m + 1) + 3) (omega arith) (to (16 * m + 7) (16 * m + 8) (across_7 m l) b.inner.0)))
        (below (4 * m + 2) (omega arith) (at (16 * m + 8) (4 * (4 * m + 2)) (omega arith) (to (16 * m + 8) (16 * m + 7) (across_8 m l) b.inner.1)) (at (16 * m + 11) (4 * (4 * m + 2) + 3) (omega arith) (to (16 * m + 11) (16 * m + 4) (across_11 m l) b.outer.1)))
        (below (4 * m + 3) (omega arith) (at (16 * m + 12) (4 * (4 * m + 3)) (omega arith) o.last_first) (at (16 * m + 15) (4 * (4 * m + 3) + 3) (omega arith) o.last_last))
        (n / 4) (omega arith) n refl;
  }
    where
      at : (n k : ℕ) → n ≡ k → Over P n → Over P k
      at n k e = subst (Over P) e

      below : (r : ℕ) → r / 4 ≡ m → Over P (4 * r) → Over P (4 * r + 3) → (n : ℕ) → n / 4 ≡ r → Over P n
      below r e a d = over_four r (omega arith) a d (c r e)

  -- the four nodes two levels below node 1 stand at the border
  pub root_across : ((r : ℕ) → r / 4 ≡ 1 → Both P (4 * r + 1) (4 * r + 2)) → Across P 1
  root_across c = record {
    own = none 1 edge_root;
    four_below = λ n e. none n (edge_second n (omega arith) (omega arith));
    sixteen_below = λ n e.
        let r : ℕ = n / 4 in
        let z : edge r ≡ 0 = edge_second r (omega arith) (omega arith) in
        over_four r (omega arith) (none (4 * r) (first_none r (omega arith) z)) (none (4 * r + 3) (omega (arith, fourth_across r (omega arith)))) (c r (omega arith)) n refl;
  }

  -- q and all nodes to five levels below it
  pub levels : (q : ℕ) → Across P q → Across P (2 * q) → Across P (2 * q + 1) → (k n : ℕ) → k ≤ 5 → n / 2 ^ k ≡ q → Over P n
  levels q a l r zero n h e = subst (Over P) (let g : q ≡ n = omega arith in g) a.own
  levels q a l r (suc zero) n h e = two (Over P) q l.own r.own n e
  levels q a l r (suc (suc zero)) n h e = a.four_below n e
  levels q a l r (suc (suc (suc zero))) n h e = two (λ m. (n : ℕ) → n / 4 ≡ m → Over P n) q l.four_below r.four_below (n / 4) (omega arith) n refl
  levels q a l r (suc (suc (suc (suc zero)))) n h e = a.sixteen_below n e
  levels q a l r (suc (suc (suc (suc (suc zero))))) n h e = two (λ m. (n : ℕ) → n / 16 ≡ m → Over P n) q l.sixteen_below r.sixteen_below (n / 16) (omega arith) n refl
  levels q a l r (suc (suc (suc (suc (suc (suc k)))))) n h e = absurd (omega arith)
