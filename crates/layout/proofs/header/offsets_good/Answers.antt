use mathlib.Core.Bool.{and_assoc}
use Rattle.meaning.specs.Refusals.{offsets_good}
use Rattle.layout.proofs.header.offsets_good.Goals as goal

pub returns : goal.returns
unfolding offsets_good
returns c =
    simp and_assoc (rw (c.end_of-5.ensures, c.end_of-4.ensures, c.end_of-3.ensures, c.end_of-2.ensures, c.end_of.ensures, c.header_bytes.ensures.0, c.specification_bytes.ensures.0))
