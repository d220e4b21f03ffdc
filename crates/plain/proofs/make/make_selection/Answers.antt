use Rattle.plain.proofs.Making.{selection_span, selection_room, selection_made}
use Rattle.plain.proofs.make.make_selection.Goals as goal

pub copy_plan-after-requires : goal.copy_plan-after-requires
copy_plan-after-requires c =
    let a = c.args in
    selection_room a.card.now.layout a.card.now.bytes.now a.u c.requires.0 a.i c.requires.1 a.e c.requires.2 _ c.pool_at.ensures

pub taken-requires : goal.taken-requires
taken-requires c =
    let a = c.args in
    (selection_span a.card.now.layout a.card.now.bytes.now a.u c.requires.0 a.i c.requires.1 a.e c.requires.2).fits

pub returns : goal.returns
returns c =
    let a = c.args in
    selection_made a.card.now.layout a.card.now.bytes.now a.u c.requires.0 a.i c.requires.1 a.e c.requires.2 _ c.pool_at.ensures _ c.copy_plan-after.ensures _ c.taken.ensures
