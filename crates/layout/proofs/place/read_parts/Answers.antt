use Rattle.layout.proofs.place.read_parts.Goals as goal

pub returns : goal.returns
returns c = (cc, c.number_at.ensures.1, c.number_at-4.ensures.1)
