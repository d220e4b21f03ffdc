use Rattle.program.proofs.length_good.Goals as goal

pub returns : goal.returns
returns c = rw c.in_range.ensures
