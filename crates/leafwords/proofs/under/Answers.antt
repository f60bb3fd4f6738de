-- The bits of the words, masked, are compared word by word.
use Rattle.tables.proofs.Tables.{says_equal}
use Rattle.leafwords.proofs.Masks.{under_is, is_under}
use Rattle.leafwords.proofs.under.Goals as goal

pub returns : goal.returns
returns c =
    let a = c.args in
    says_equal _ _ (under_is c.requires.0 a.x a.a a.b) (is_under c.requires.0 a.x a.a a.b)
