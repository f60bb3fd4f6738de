-- The rows of the tables of calls that take a node or a leaf number, as a `return` proves them, and what a call that is done has passed.
use mathlib.Core.Path.{refl, sym}
use mathlib.Core.Logic.{◌≢◌, ◌⊎◌, inl, inr}
use mathlib.Core.List.{List, [], ◌∷◌, ◌++◌}
use Prim.Native.Nat.{ℕ, ◌<◌}
use native.Mathlib.Omega.{arith}
use Rattle.tables.specs.Table.{Row, unless, when, Answers}
use Rattle.cuts.proofs.Covering.{above_no_leaf, above_no_cut}
use Rattle.panel.specs.Panels.{CutOf, Good, InRange, LeafOf, BelowLeaf, leaf_count}
use Rattle.panel.specs.Calls.{panel_rows, leaf_rows}
use Rattle.panel.proofs.GoodPanels.{leaf_in_range, one_of_three}
use Rattle.panel.proofs.Rows.{behind}

-- ---- calls that take a node: the rows behind 3, 4 and 10 decide where it is a leaf

-- the rows behind the judgement, and those behind them
abbrev pub rows_behind : List ℕ → ℕ → List Row → List Row
rows_behind s k rows = unless 3 (InRange s k) ∷ when 4 (CutOf s k) ∷ when 10 (BelowLeaf s k) ∷ rows

module _ {s : List ℕ} {k : ℕ} (G : Good s) where
  pub no_such_node : (InRange s k → ⊥) → Answers (leaf_rows s k) 3
  no_such_node f = behind (rows_behind s k []) G (inl (f, refl))

  pub is_cut : InRange s k → CutOf s k → Answers (leaf_rows s k) 4
  is_cut r c = behind (rows_behind s k []) G (inr (r, inl (λ f. f c, refl)))

  pub below_leaf : InRange s k → BelowLeaf s k → Answers (leaf_rows s k) 10
  below_leaf r b = behind (rows_behind s k []) G (inr (r, inr (above_no_cut G.cuts b.1, inl (λ f. f b, refl))))

  -- past the three it is a leaf
  pub left_leaf : InRange s k → (CutOf s k → ⊥) → (BelowLeaf s k → ⊥) → LeafOf s k
  left_leaf r u v = go (one_of_three s G k r.low)
    where
      go : LeafOf s k ⊎ (CutOf s k ⊎ BelowLeaf s k) → LeafOf s k
      go (inl l) = l
      go (inr (inl c)) = absurd (u c)
      go (inr (inr b)) = absurd (v b)

  pub is_leaf : (rows : List Row) {n : ℕ} → LeafOf s k → Answers rows n → Answers (leaf_rows s k ++ rows) n
  is_leaf rows l a = behind (rows_behind s k rows) G (inr (leaf_in_range s G k l, inr (l.uncut, inr (λ b. above_no_leaf b.1 l, a))))

-- ---- calls that take a leaf number

abbrev pub number_rows : List ℕ → ℕ → List Row
number_rows s i = panel_rows s ++ unless 8 (i < leaf_count s) ∷ []

module _ {s : List ℕ} {i : ℕ} where
  pub no_such_number : Good s → (i < leaf_count s → ⊥) → Answers (number_rows s i) 8
  no_such_number g f = behind (unless 8 (i < leaf_count s) ∷ []) g (inl (f, refl))

  pub is_number : Good s → i < leaf_count s → Answers (number_rows s i) 0
  is_number g h = behind (unless 8 (i < leaf_count s) ∷ []) g (inr (h, refl))

-- ---- what a call that is done has passed

-- a row
pub row_past : {n : ℕ} {P : Type 0} (rows : List Row) → n ≢ 0 → Answers (unless n P ∷ rows) 0 → P × Answers rows 0
row_past rows z (inl p) = absurd (z (sym p.1))
row_past rows z (inr a) = a

-- the judgement
pub good_past : {s : List ℕ} (rows : List Row) → Answers (panel_rows s ++ rows) 0 → Good s × Answers rows 0
good_past {s} rows a = row_past rows (omega arith) (row_past (unless 2 (Good s) ∷ rows) (omega arith) a).1

-- the judgement and the rows of a leaf
pub leaf_past : {s : List ℕ} {k : ℕ} (rows : List Row) → Answers (leaf_rows s k ++ rows) 0 → Good s × LeafOf s k × Answers rows 0
leaf_past {s} {k} rows a =
    let (g, b) = good_past (rows_behind s k rows) a in
    let (r, c) = row_past (when 4 (CutOf s k) ∷ when 10 (BelowLeaf s k) ∷ rows) (omega arith) b in
    let (u, d) = row_past (when 10 (BelowLeaf s k) ∷ rows) (omega arith) c in
    let (v, e) = row_past rows (omega arith) d in
    (g, left_leaf g r u v, e)
