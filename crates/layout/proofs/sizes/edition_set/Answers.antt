use Rattle.meaning.proofs.Widening.{set_second, set_first}
use mathlib.Core.Path.{sym}
use native.Mathlib.Omega.{arith}
use Rattle.layout.proofs.sizes.edition_set.Goals as goal

pub returns-then-edition-eq2 : goal.returns-then-edition-eq2
returns-then-edition-eq2 c = (sym (set_second c.args.edition c.if-edition-eq2.true), omega arith)

pub returns-else-edition-eq2 : goal.returns-else-edition-eq2
returns-else-edition-eq2 c = (sym (set_first c.args.edition c.if-edition-eq2.false), omega arith)
