use mathlib.Core.Path.{ap}
use Rattle.meaning.specs.Numbers.{sheet_number}
use Rattle.names.specs.Naming.{asked}
use Rattle.names.proofs.Told.{sheet_told}
use native.Mathlib.Omega.{arith}
use Rattle.board.proofs.rigtemple_4_name_parts.Goals as goal

pub sheet_number-requires : goal.sheet_number-requires
sheet_number-requires c =
    let a = c.args in
    let h = sheet_told a.card.now (asked a.shed.now a.master.now a.action) c.named-named.result c.named-named.ensures.names in
    let e = ap (sheet_number c.named-named.result.answer) c.number.ensures in
    omega (arith, h, e)
