use Rattle.std.proofs.Common.{eq-eqb, ◌∙◌}
use Rattle.names.proofs.Sheets.{shed_none, shed_some}
use Rattle.names.proofs.sheet.shed_good.Goals as goal

pub returns-then-sheet-eq0 : goal.returns-then-sheet-eq0
returns-then-sheet-eq0 c = eq-eqb _ _ c.if-sheet-eq0.true ∙ shed_none c.args.n c.args.sheet.now c.if-sheet-eq0.true

pub returns-else-sheet-eq0 : goal.returns-else-sheet-eq0
returns-else-sheet-eq0 c = let a = c.args in c.sheet_good.ensures ∙ shed_some a.n a.sheet.now c.if-sheet-eq0.false
