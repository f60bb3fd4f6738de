-- The depth that the code computes is that of word k, and what it computes from it is where the word starts.
use mathlib.Core.Path.{◌≡◌, ap, ◌∙◌}
use native.Mathlib.Omega.{arith}
use borrow.Author.Rules.{rules}
use Rattle.nodes.specs.Depth.{depth_of}
use Rattle.words.specs.Words.{width}
use Rattle.words.proofs.Rooms.{depth_max, Placed, placed}
use Rattle.words.proofs.slot.Goals.{After-depth-d}
use Rattle.words.proofs.slot.Goals as goal

deep : (c : After-depth-d) → c.depth-d.result ≡ depth_of c.args.k
deep c = c.depth-d.ensures ∙ ap depth_of c.max.ensures ∙ depth_max c.args.k

at : (c : After-depth-d) → Placed c.args.deep c.args.k c.depth-d.result
at c = placed (search rules) (search rules) (deep c)

pub overflow_sub-w : goal.overflow_sub-w
overflow_sub-w c = omega (arith, (at (goal.at.overflow_sub-w c).After-depth-d).shallow)

pub overflow_shl-result : goal.overflow_shl-result
overflow_shl-result c = omega (arith, (at (goal.at.overflow_shl-result c).After-depth-d).shallow)

pub returns-clause-start : goal.returns-clause-start
returns-clause-start c = (at (goal.at.returns-clause-start c).After-depth-d).is

pub returns-clause-width : goal.returns-clause-width
returns-clause-width c = ap (width c.args.deep) (deep (goal.at.returns-clause-width c).After-depth-d)
