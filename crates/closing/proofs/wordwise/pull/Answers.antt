-- The machine's shifts and masks are those of the law.
use Rattle.closing.proofs.Pulling.{pulled}
use Rattle.closing.proofs.wordwise.pull.Goals as goal

pub returns : goal.returns
returns c = let a = c.args in pulled a.b a.y a.k a.up a.down c.requires.1
