use mathlib.Core.Path.{ap}
use Rattle.meaning.specs.Numbers.{sheet_number}
use Rattle.names.specs.Naming.{asked}
use Rattle.names.proofs.Told.{sheet_told}
use native.Mathlib.Omega.{arith}
use Rattle.drill.proofs.tell_name.Goals as goal

pub sheet_number-sheet-requires : goal.sheet_number-sheet-requires
sheet_number-sheet-requires c =
    let a = c.args in
    let h = sheet_told a.card.now (asked a.shed.now a.master.now a.action) c.named-n.result c.named-n.ensures.names in
    let e = ap (sheet_number c.named-n.result.answer) c.number.ensures in
    omega (arith, h, e)
