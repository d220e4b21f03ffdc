use Rattle.card.proofs.GoodCard.{good_as}
use Rattle.verdict.proofs.Weights.{weighable}
use Rattle.meaning.specs.Card.{plan}
use Rattle.meaning.specs.declared.RevisionEntry.{RevisionEntry}
use mathlib.Core.Path.{ap}
use Rattle.verdict.proofs.grade.revision_lowers.Goals as goal

pub plan_weight-head-requires : goal.plan_weight-head-requires
plan_weight-head-requires c =
    let a = c.args in
    let p = c.requires in
    let e = ap (λ (x : RevisionEntry). x.head) c.revision-e.ensures.0 in
    record { weighable = (weighable a.card.now.layout a.card.now.bytes.now p.0 _ c.header_bytes-weights.ensures.0, p.1); length_bound = (good_as a.card.now.layout 1 _ _ e (p.0.revisions a.i p.2).head).inside }

pub plan_weight-body-requires : goal.plan_weight-body-requires
plan_weight-body-requires c =
    let a = c.args in
    let p = c.requires in
    let e = ap (λ (x : RevisionEntry). x.body) c.revision-e.ensures.0 in
    record { weighable = (weighable a.card.now.layout a.card.now.bytes.now p.0 _ c.header_bytes-weights.ensures.0, p.1); length_bound = (good_as a.card.now.layout 0 _ _ e (p.0.revisions a.i p.2).body).inside }

pub returns : goal.returns
unfolding plan
returns c = rw (c.plan_weight-body.ensures, c.plan_weight-head.ensures, c.revision-e.ensures.0)
