use Rattle.card.proofs.check.row.Goals as goal

pub returns-then-good : goal.returns-then-good
returns-then-good c = rw c.if-good.true

pub returns-else-good : goal.returns-else-good
returns-else-good c = rw c.if-good.false
