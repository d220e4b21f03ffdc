use mathlib.Core.Path.{◌∙◌}
use Rattle.plain.proofs.Asking.{selection_asked, specification_asked, revision_asked}
use Rattle.plain.proofs.ask.ask.Goals as goal

pub returns-in-Selection : goal.returns-in-Selection
returns-in-Selection c =
    let a = c.args in
    let p = c.requires in
    let k = c.in-Selection.is in
    c.ask_selection.ensures ∙ rw k (selection_asked a.card.now.layout a.card.now.bytes.now a.t.now a.u.now a.judged.now p.ready.0 p.ready.1 p.judged_all a.choice.number (rw k at p.ready.2))

pub returns-in-Action : goal.returns-in-Action
returns-in-Action c =
    let a = c.args in
    let p = c.requires in
    let k = c.in-Action.is in
    c.ask_specification.ensures ∙ rw k (specification_asked a.card.now.layout a.card.now.bytes.now a.t.now a.u.now a.judged.now p.ready.0 p.ready.1 p.judged_all a.choice.number (rw k at p.ready.2))

pub returns-in-Revision : goal.returns-in-Revision
returns-in-Revision c =
    let a = c.args in
    let p = c.requires in
    let k = c.in-Revision.is in
    c.ask_revision.ensures ∙ rw k (revision_asked a.card.now.layout a.card.now.bytes.now a.t.now a.u.now a.judged.now p.ready.0 p.ready.1 p.judged_all a.choice.number (rw k at p.ready.2))
