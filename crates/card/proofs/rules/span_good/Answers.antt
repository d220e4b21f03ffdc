use Rattle.card.proofs.rules.span_good.Goals as goal

pub returns : goal.returns
returns c = rw (c.in_range.ensures, c.longest_plan.ensures)
