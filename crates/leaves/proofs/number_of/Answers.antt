-- The range is row 3, and where the way toward k stops decides the others. Where k is a leaf it stops there, with k's number.
use mathlib.Core.Path.{◌≡◌, refl, sym, ap, ◌∙◌, subst}
use mathlib.Core.List.{[]}
use native.Mathlib.Omega.{arith}
use Rattle.std.proofs.Common.{Less, Equal, Greater}
use Rattle.std.proofs.lemmas.Cmp.{ranked}
use Rattle.tables.proofs.Tables.{is_done, is_refused}
use Rattle.panel.specs.Panels.{LeafOf, number_in}
use Rattle.panel.proofs.LeafRows.{is_cut, below_leaf, is_leaf}
use Rattle.leaves.proofs.FirstWays.{known}
use Rattle.leaves.proofs.number_of.Goals as goal

pub returns-in-Less-clause-number_of : goal.returns-in-Less-clause-number_of
returns-in-Less-clause-number_of c =
    is_refused (omega arith) (is_cut c.requires.0 (known c.requires.1 c.in_range.ensures c.if-in_range.true) (c.leaf_toward-stop.ensures.cut (ranked _ _ Less c.in-Less.ensures))) refl

pub returns-in-Equal-clause-number_of : goal.returns-in-Equal-clause-number_of
returns-in-Equal-clause-number_of c =
    let t = c.leaf_toward-stop.ensures in
    let e : c.leaf_toward-stop.result.node.0 ≡ c.args.k.0 = sym (ranked _ _ Equal c.in-Equal.ensures) in
    is_done (is_leaf c.requires.0 [] (subst (LeafOf c.args.panel.now) e t.leaf) refl) (t.number ∙ ap (number_in c.args.panel.now) e)

pub returns-in-Greater-clause-number_of : goal.returns-in-Greater-clause-number_of
returns-in-Greater-clause-number_of c =
    is_refused (omega arith) (below_leaf c.requires.0 (known c.requires.1 c.in_range.ensures c.if-in_range.true) (_, c.leaf_toward-stop.ensures.above (ranked _ _ Greater c.in-Greater.ensures))) refl

pub returns-in-Greater-clause-ancestor : goal.returns-in-Greater-clause-ancestor
returns-in-Greater-clause-ancestor c = record { leaf = λ _. c.leaf_toward-stop.ensures.above (ranked _ _ Greater c.in-Greater.ensures); none = λ z. absurd (z refl) }
