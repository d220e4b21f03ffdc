use Rattle.utf8.proofs.Steps.{tail_fits, tail_not}
use Rattle.utf8.proofs.behind_tail.Goals as goal

pub returns-then-a-x : goal.returns-then-a-x
returns-then-a-x c = tail_fits c.args.a c.args.x c.if-a-x.true

pub returns-else-a-x : goal.returns-else-a-x
returns-else-a-x c = tail_not c.args.a c.args.x c.if-a-x.false
