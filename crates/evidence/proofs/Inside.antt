-- Nodes inside a node: those that come to it as they are halved.
use mathlib.Core.Path.{◌≡◌, sym, ap, ◌∙◌, subst, subst⁻¹}
use mathlib.Core.Logic.{◌⊎◌, inl, inr, ⊎_elim, ◌↔◌}
use Prim.Native.Nat.{ℕ, zero, suc, ◌+◌, ◌-◌, ◌*◌, ◌/◌, ◌%◌, ◌^◌, ◌≤◌, ◌<◌}
use native.Mathlib.Nat.{div-div-eq-div-mul}
use native.Mathlib.Decide.{ℕ_discrete, dec_le}
use native.Mathlib.Omega.{arith}
use lib.Pow.{pow-add}
use Rattle.cuts.specs.Cuts.{GoodCuts, Leaf}
use Rattle.cuts.proofs.Covering.{is_above, above_no_leaf, above_no_cut}

-- node m lies in node l, j levels below it, or is l
abbrev pub InsideBy : ℕ → ℕ → ℕ → Type 0
InsideBy j m l = m / 2 ^ j ≡ l

-- levels add up
levels_add : (i j m : ℕ) → m / 2 ^ i / 2 ^ j ≡ m / 2 ^ (i + j)
levels_add i j m = div-div-eq-div-mul m (2 ^ i) (2 ^ j) ∙ ap (λ x. m / x) (sym (pow-add 2 i j))

-- a node is one level below its parent
parent_in : (j n l : ℕ) → InsideBy j (n / 2) l ↔ InsideBy (suc j) n l
parent_in j n l =
    let h : n / 2 / 2 ^ j ≡ n / 2 ^ suc j = levels_add 1 j n ∙ ap (λ x. n / 2 ^ x) (omega arith) in (λ e. sym h ∙ e, λ e. h ∙ e)

pub child_in : (j m c : ℕ) {l : ℕ} → c < 2 → InsideBy j m l → InsideBy (suc j) (2 * m + c) l
child_in j m c {l} h e = (parent_in j (2 * m + c) l).0 (subst⁻¹ (λ x. InsideBy j x l) (let q : (2 * m + c) / 2 ≡ m = omega arith in q) e)

pub left_in : (j m : ℕ) {l : ℕ} → InsideBy j m l → InsideBy (suc j) (2 * m) l
left_in j m {l} e = subst (λ x. InsideBy (suc j) x l) (let h : 2 * m + 0 ≡ 2 * m = omega arith in h) (child_in j m 0 (omega arith) e)

module _ {P : ℕ → Type 0} (G : GoodCuts P) where
  -- a leaf inside a leaf is that leaf
  pub same_leaf : {m l : ℕ} (j : ℕ) → Leaf P m → Leaf P l → InsideBy j m l → m ≡ l
  same_leaf {m} zero a b e = (let h : m ≡ m / 2 ^ 0 = omega arith in h) ∙ e
  same_leaf (suc j) a b e = absurd (above_no_leaf (is_above G (suc j) (omega arith) e b) a)

  -- a leaf inside a cut node whose children are leaves is one of them
  pub leaf_child : {m n : ℕ} (j : ℕ) → P n → Leaf P (2 * n) × Leaf P (2 * n + 1) → Leaf P m → InsideBy j m n → (m ≡ 2 * n) ⊎ (m ≡ 2 * n + 1)
  leaf_child {m} {n} zero c k a e = absurd (a.uncut (subst P (sym e ∙ (let h : m / 2 ^ 0 ≡ m = omega arith in h)) c))
  leaf_child {m} {n} (suc j) c k a e = go (let q : m / 2 ^ j / 2 ≡ n = levels_add j 1 m ∙ ap (λ x. m / 2 ^ x) (let h : j + 1 ≡ suc j = omega arith in h) ∙ e in q) (ℕ_discrete (m / 2 ^ j % 2) 0)
    where
      go : m / 2 ^ j / 2 ≡ n → Dec (m / 2 ^ j % 2 ≡ 0) → (m ≡ 2 * n) ⊎ (m ≡ 2 * n + 1)
      go q (yes z) = inl (same_leaf j a k.0 (omega arith))
      go q (no z) = inr (same_leaf j a k.1 (omega arith))

  -- of what m comes to, a leaf does not stand above a leaf or a cut node: it is that node, or lies inside it
  pub leaf_inside : (m i j : ℕ) {l : ℕ} → Leaf P (m / 2 ^ i) → Leaf P l ⊎ P l → InsideBy j m l → (h : ℕ) × InsideBy h (m / 2 ^ i) l
  leaf_inside m i j {l} a b e = go (dec_le i j)
    where
      go : Dec (i ≤ j) → (h : ℕ) × InsideBy h (m / 2 ^ i) l
      go (yes h) = (j - i, levels_add i (j - i) m ∙ ap (λ x. m / 2 ^ x) (let q : i + (j - i) ≡ j = omega arith in q) ∙ e)
      go (no h) =
          let q : l / 2 ^ (i - j) ≡ m / 2 ^ i = ap (λ x. x / 2 ^ (i - j)) (sym e) ∙ levels_add j (i - j) m ∙ ap (λ x. m / 2 ^ x) (let r : j + (i - j) ≡ i = omega arith in r) in
          let up = is_above G (i - j) (omega arith) q a in
          absurd (⊎_elim (above_no_leaf up) (above_no_cut G up) b)
