use mathlib.Core.Bool.{and_assoc}
use Rattle.names.proofs.sheet.head_good.Goals as goal

pub returns : goal.returns
returns c = rw (c.number_at-last.ensures.0, c.number_at-first.ensures.0, c.number_at-count.ensures.0) (simp and_assoc)
