use Rattle.plain.proofs.Acting.{packed_none}
use Rattle.plain.proofs.Loading.{empty_made}
use borrow.Author.Rules.{rules}
use Rattle.plain.proofs.load.nothing.Goals as goal

pub returns : goal.returns
returns c =
    empty_made c.none_true.result c.none_true-2.result
    (packed_none 32 c.none_true.result (search rules) c.none_true.ensures) (packed_none 32 c.none_true-2.result (search rules) c.none_true-2.ensures)
    c.at_first.result c.at_first.ensures
