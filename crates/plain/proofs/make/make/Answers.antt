use Rattle.moves.proofs.Stepping.{selection_known, revision_known}
use Rattle.unpacked.specs.Truths.{configuration_from}
use native.Mathlib.Omega.{arith}
use Rattle.plain.proofs.make.make.Goals as goal

pub bounds-t-i : goal.bounds-t-i
bounds-t-i c =
    let a = c.args in
    let r = c.requires.ready.0 in
    let k = selection_known a.card.now.layout a.card.now.bytes.now (configuration_from a.u) r a.choice.number (rw c.in-Selection.is at c.requires.enabled) in
    let m = r.card.layout.selections in
    omega arith

pub offset_bounds-t-i : goal.offset_bounds-t-i
offset_bounds-t-i c =
    let a = c.args in
    let r = c.requires.ready.0 in
    let k = selection_known a.card.now.layout a.card.now.bytes.now (configuration_from a.u) r a.choice.number (rw c.in-Selection.is at c.requires.enabled) in
    let m = r.card.layout.selections in
    omega arith

pub bounds-t-i-in-Revision : goal.bounds-t-i-in-Revision
bounds-t-i-in-Revision c =
    let a = c.args in
    let r = c.requires.ready.0 in
    let k = revision_known a.card.now.layout a.card.now.bytes.now (configuration_from a.u) r a.choice.number (rw c.in-Revision.is at c.requires.enabled) in
    let m = r.card.layout.revisions in
    omega arith

pub offset_bounds-t-i-in-Revision : goal.offset_bounds-t-i-in-Revision
offset_bounds-t-i-in-Revision c =
    let a = c.args in
    let r = c.requires.ready.0 in
    let k = revision_known a.card.now.layout a.card.now.bytes.now (configuration_from a.u) r a.choice.number (rw c.in-Revision.is at c.requires.enabled) in
    let m = r.card.layout.revisions in
    omega arith

pub make_selection-requires : goal.make_selection-requires
make_selection-requires c =
    let a = c.args in
    let r = c.requires.ready in
    let e = rw c.in-Selection.is at c.requires.enabled in
    (r.0, e, r.1.selections a.choice.number (selection_known a.card.now.layout a.card.now.bytes.now (configuration_from a.u) r.0 a.choice.number e))

pub make_revision-requires : goal.make_revision-requires
make_revision-requires c =
    let a = c.args in
    let r = c.requires.ready in
    let e = rw c.in-Revision.is at c.requires.enabled in
    (r.0, e, r.1.revisions a.choice.number (revision_known a.card.now.layout a.card.now.bytes.now (configuration_from a.u) r.0 a.choice.number e))
