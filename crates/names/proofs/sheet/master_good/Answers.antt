use Rattle.names.specs.Sheets.{master_good}
use Rattle.names.proofs.sheet.master_good.Goals as goal

pub returns : goal.returns
unfolding master_good
returns c = c.sheet_good.ensures
