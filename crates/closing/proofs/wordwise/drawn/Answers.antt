-- Each pull has one law, and the five together are a drawn word.
use Rattle.closing.proofs.Pulling.{word_drawn}
use Rattle.closing.proofs.wordwise.drawn.Goals as goal

pub returns : goal.returns
returns c =
    word_drawn c.pull-a.ensures c.pull-a-2.ensures c.pull-a-3.ensures c.pull-a-4.ensures c.pull.ensures
