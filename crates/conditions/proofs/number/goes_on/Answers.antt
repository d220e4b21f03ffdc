use Rattle.conditions.proofs.Numbers.{goes_short}
use Rattle.conditions.proofs.number.goes_on.Goals as goal

pub returns-then-left-lt2 : goal.returns-then-left-lt2
returns-then-left-lt2 c = goes_short c.args.text.now c.args.n c.if-left-lt2.true
