use Rattle.meaning.specs.Refusals.{card_mark_good}
use Rattle.card.proofs.check.card_mark_good.Goals as goal

pub returns : goal.returns
unfolding card_mark_good
returns c = rw (c.mark_good.ensures, c.number_at-edition.ensures.0)
