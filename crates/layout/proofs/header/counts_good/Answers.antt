use mathlib.Core.Bool.{and_assoc}
use Rattle.meaning.specs.Refusals.{counts_good}
use Rattle.layout.proofs.header.counts_good.Goals as goal

pub returns : goal.returns
unfolding counts_good
returns c = rw (c.in_range.ensures, c.in_range-2.ensures, c.in_range-3.ensures, c.most_atoms.ensures.0) (simp and_assoc)
