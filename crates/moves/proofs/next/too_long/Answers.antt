use Rattle.moves.proofs.Stepping.{revision_known, head_fits}
use Rattle.moves.proofs.Telling.{never_too_long, revision_too_long}
use Rattle.layout.specs.PlaceParts.{configured}
use Rattle.moves.proofs.next.too_long.Goals as goal

pub returns-in-Selection : goal.returns-in-Selection
returns-in-Selection c = λ σ γ ready may.
    let a = c.args in
    never_too_long a.card.now.layout a.card.now.bytes.now (configured σ γ a.m a.plan.now) ready a.choice.kind a.choice.number c.in-Selection.is may

pub revision-e-requires : goal.revision-e-requires
revision-e-requires c =
    let a = c.args in
    let p = c.requires in
    revision_known a.card.now.layout a.card.now.bytes.now (configured p.beliefs p.goals a.m a.plan.now) p.ready a.choice.number (rw c.in-Revision.is at p.may)

pub revised_length-requires : goal.revised_length-requires
revised_length-requires c =
    let a = c.args in
    let p = c.requires in
    let r = c.revision-e.ensures in
    (rw r.0 (head_fits a.card.now.layout a.card.now.bytes.now (configured p.beliefs p.goals a.m a.plan.now) p.ready a.choice.number (rw c.in-Revision.is at p.may)), p.ready.fits, r.2)

pub returns-in-Revision : goal.returns-in-Revision
returns-in-Revision c = λ σ γ ready may.
    let a = c.args in
    let e = c.in-Revision.is in
    rw e (revision_too_long a.card.now.layout a.card.now.bytes.now (configured σ γ a.m a.plan.now) ready a.choice.number (rw e at may) _ c.revision-e.ensures.0 _ _ c.longest_plan.ensures c.revised_length.ensures)
