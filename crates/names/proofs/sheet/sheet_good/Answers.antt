use Rattle.std.proofs.Common.{arith, sym, ◌∙◌}
use Rattle.std.proofs.lemmas.Bool.{lt-leb}
use Rattle.names.proofs.Sheets.{sheet_short, head_last, head_right, head_wrong}
use Rattle.names.proofs.sheet.sheet_good.Goals as goal

pub names_good-requires : goal.names_good-requires
names_good-requires c =
    let a = c.args in
    let p = c.requires in
    (p.0, p.1, omega arith, head_last a.n a.sheet.now (sym c.head_good.ensures ∙ c.if-head_good.true))

pub returns-then-head_good : goal.returns-then-head_good
returns-then-head_good c =
    let a = c.args in
    c.names_good.ensures ∙ head_right a.least a.n a.sheet.now (omega arith) (sym c.head_good.ensures ∙ c.if-head_good.true)

pub returns-else-head_good : goal.returns-else-head_good
returns-else-head_good c =
    let a = c.args in
    c.if-head_good.false ∙ head_wrong a.least a.n a.sheet.now (omega arith) (sym c.head_good.ensures ∙ c.if-head_good.false)

pub returns-else-n-sheet : goal.returns-else-n-sheet
returns-else-n-sheet c =
    let a = c.args in
    lt-leb _ _ c.if-n-sheet.false ∙ sheet_short a.least a.n a.sheet.now c.if-n-sheet.false
