use Rattle.meaning.specs.Refusals.{containing, specification_good, selection_good, revision_good}
use mathlib.Core.Path.{ap, ◌∙◌}
use Rattle.card.proofs.rules.entry_good.Goals as goal

pub returns-in-Selection : goal.returns-in-Selection
returns-in-Selection c =
    let a = c.args in
    let m = c.requires.marks in
    let b = a.card.now.bytes.now in
    rw c.in-Selection.is (c.selection_good.ensures b m.0 m.1 ∙ ap (selection_good (containing 1 a.card.now.layout b) (containing 2 a.card.now.layout b) a.card.now.layout) c.selection.ensures.0)

pub returns-in-Action : goal.returns-in-Action
returns-in-Action c =
    let a = c.args in
    let m = c.requires.marks in
    let b = a.card.now.bytes.now in
    rw c.in-Action.is (c.specification_good.ensures b m.1 ∙ ap (specification_good (containing 2 a.card.now.layout b) a.card.now.layout) c.specification.ensures)

pub returns-in-Revision : goal.returns-in-Revision
returns-in-Revision c =
    let a = c.args in
    let m = c.requires.marks in
    let b = a.card.now.bytes.now in
    rw c.in-Revision.is (c.revision_good.ensures b m.1 ∙ ap (revision_good (containing 2 a.card.now.layout b) a.card.now.layout) c.revision.ensures.0)
