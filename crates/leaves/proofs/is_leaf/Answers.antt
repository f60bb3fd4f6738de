-- As many cuts as k's depth lead to a leaf; with more of them k is cut, and with fewer it lies below one.
use mathlib.Core.Path.{sym, ◌∙◌}
use Rattle.tables.proofs.Tables.{says_equal}
use Rattle.leaves.proofs.FirstWays.{leaf_cuts}
use Rattle.leaves.proofs.is_leaf.Goals as goal

pub returns : goal.returns
returns c =
    let t = c.cuts_to.ensures in
    says_equal _ _ (λ e. t.leaf (e ∙ c.depth.ensures)) (λ l. leaf_cuts t l ∙ sym c.depth.ensures)
