use mathlib.Core.Bool.{and_assoc}
use Rattle.meaning.specs.Refusals.{rules_good}
use Rattle.card.proofs.rules.rules_good.Goals as goal

pub returns : goal.returns
unfolding rules_good
returns c = rw (c.entries_good.ensures, c.entries_good-2.ensures, c.entries_good-3.ensures, c.span_good.ensures) (simp and_assoc)
