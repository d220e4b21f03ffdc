use Rattle.utf8.proofs.Steps.{goes_first, goes_tail}
use mathlib.Core.Path.{◌∙◌}
use Rattle.utf8.proofs.behind.Goals as goal

pub returns-then-a-eq0 : goal.returns-then-a-eq0
returns-then-a-eq0 c = c.behind_first.ensures ∙ goes_first c.args.a c.args.x c.if-a-eq0.true

pub returns-else-a-eq0 : goal.returns-else-a-eq0
returns-else-a-eq0 c = c.behind_tail.ensures ∙ goes_tail c.args.a c.args.x c.if-a-eq0.false
