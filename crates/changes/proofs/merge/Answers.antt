-- The test of leaf k is the first rows of the table, the tests behind it the others, and the work is done only behind them.
use mathlib.Core.Path.{refl, subst⁻¹}
use mathlib.Core.Logic.{inl, inr}
use mathlib.Core.List.{List, [], ◌∷◌, ◌++◌}
use Prim.Native.Nat.{ℕ, ◌<◌}
use native.Mathlib.Omega.{arith}
use Rattle.nodes.specs.Depth.{depth_of}
use Rattle.std.specs.Prelude.{⊤, Result}
use Rattle.answers.specs.declared.Refusal.{Refusal}
use Rattle.answers.specs.Refusals.{answer_number}
use Rattle.answers.proofs.Refusing.{handed}
use Rattle.tables.specs.Table.{unless, Answers}
use Rattle.tables.proofs.Tables.{is_done, is_refused}
use Rattle.panel.specs.Panels.{Good, LeafOf}
use Rattle.panel.specs.Calls.{leaf_rows, Together, Unpinned, merge_rows, Merge}
use Rattle.panel.proofs.LeafRows.{is_leaf}
use Rattle.panel.proofs.Judgements.{no_ancestor, tested_no, tested_leaf}
use Rattle.changes.proofs.merge.Goals as goal

pub returns-in_err-tested-clause-merge : goal.returns-in_err-tested-clause-merge
returns-in_err-tested-clause-merge c =
    subst⁻¹ (λ (r : Result ⊤ Refusal). Merge c.args.panel.now c.args.k.0 (answer_number r) c.args.panel.now) (handed c.from_residual.ensures.1) (tested_no c.tested.ensures.answers c.in_err-tested.was refl)

pub together-requires : goal.together-requires
together-requires c =
    (c.requires.0, c.requires.1, tested_leaf c.tested.ensures.answers c.in_ok-tested.was, omega (arith, c.depth.ensures))

pub returns-then-not-together : goal.returns-then-not-together
returns-then-not-together c =
    record {
      merge = is_refused (omega arith)
          (is_leaf c.requires.0 (merge_rows _ _) (tested_leaf c.tested.ensures.answers c.in_ok-tested.was) (inr (omega (arith, c.depth.ensures), inl (c.together.ensures.no c.if-not-together.true, refl)))) refl;
      ancestor = no_ancestor (omega arith);
    }

-- past the test of the leaves that the merge needs, that of their pins decides
past : {s : List ℕ} {k n : ℕ} → Good s → LeafOf s k → 1 < depth_of k → Together s k → Answers (unless 11 (Unpinned s k) ∷ []) n → Answers (leaf_rows s k ++ merge_rows s k) n
past g l d t x = is_leaf g (merge_rows _ _) l (inr (d, inr (t, x)))

pub returns-then-not-unpinned : goal.returns-then-not-unpinned
returns-then-not-unpinned c =
    record { merge = is_refused (omega arith) (past c.requires.0 (tested_leaf c.tested.ensures.answers c.in_ok-tested.was) (omega (arith, c.depth.ensures)) (c.together.ensures.yes c.if-not-together.false) (inl (c.unpinned.ensures.no c.if-not-unpinned.true, refl))) refl; ancestor = no_ancestor (omega arith) }

pub merge_leaves-requires : goal.merge_leaves-requires
merge_leaves-requires c =
    (c.requires.0, c.requires.1, tested_leaf c.tested.ensures.answers c.in_ok-tested.was, omega (arith, c.depth.ensures), c.together.ensures.yes c.if-not-together.false, c.unpinned.ensures.yes c.if-not-unpinned.false)

pub returns : goal.returns
returns c =
    record { merge = is_done (past c.requires.0 (tested_leaf c.tested.ensures.answers c.in_ok-tested.was) (omega (arith, c.depth.ensures)) (c.together.ensures.yes c.if-not-together.false) (inr (c.unpinned.ensures.yes c.if-not-unpinned.false, refl))) c.merge_leaves.ensures; ancestor = no_ancestor (omega arith) }
