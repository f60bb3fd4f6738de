-- The bits of the words, masked, are compared word by word.
use Rattle.tables.proofs.Tables.{says_equal}
use Rattle.leafwords.proofs.Masks.{same_is, is_same}
use Rattle.leafwords.proofs.same.Goals as goal

pub returns : goal.returns
returns c =
    let a = c.args in
    says_equal _ _ (same_is c.requires.0 a.x a.a a.b) (is_same c.requires.0 a.x a.a a.b)
