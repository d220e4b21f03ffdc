use Rattle.meaning.specs.Card.{part}
use Rattle.door.proofs.configuration.plan_good.Goals as goal

pub returns : goal.returns
unfolding part
returns c = rw (c.actions_good-known.ensures, c.zeros_from.ensures)
