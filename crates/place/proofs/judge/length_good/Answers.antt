use lib.Dec.{leb}
use mathlib.Core.Path.{ap}
use lib.ListN.{length}
use Rattle.place.proofs.judge.length_good.Goals as goal

pub returns : goal.returns
returns c = ap (λ n. leb n (length c.args.p.now)) c.plan_at.ensures.0
