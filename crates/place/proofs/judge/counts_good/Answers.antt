use lib.Dec.{leb}
use mathlib.Core.Bool.{◌&&◌}
use Rattle.place.proofs.judge.counts_good.Goals as goal

pub returns : goal.returns
returns c = λ i. leb (c.requires i).length (c.longest_plan.ensures i) && leb (c.requires i).phase 2
