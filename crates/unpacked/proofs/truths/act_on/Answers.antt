use Rattle.std.proofs.Common.{rules}
use Rattle.unpacked.proofs.truths.act_on.Goals as goal

pub returns : goal.returns
returns c = λ i h. (let p = c.table.ensures i h in search rules)
