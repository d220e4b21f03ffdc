use Rattle.meaning.specs.Card.{specification_at}
use Rattle.layout.proofs.card.Card.act_on.Goals as goal

pub returns : goal.returns
unfolding specification_at
returns c = cc
