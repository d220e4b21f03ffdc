use Rattle.card.proofs.GoodCard.{good_as}
use Rattle.verdict.proofs.Weights.{weighable}
use Rattle.meaning.specs.Card.{plan}
use Rattle.meaning.specs.declared.SelectionEntry.{SelectionEntry}
use mathlib.Core.Path.{ap}
use Rattle.verdict.proofs.grade.selection_light.Goals as goal

pub plan_weight-requires : goal.plan_weight-requires
plan_weight-requires c =
    let a = c.args in
    let p = c.requires in
    let e = ap (λ (x : SelectionEntry). x.plan) c.selection.ensures.0 in
    record { weighable = (weighable a.card.now.layout a.card.now.bytes.now p.0 _ c.header_bytes.ensures.0, p.1); length_bound = (good_as a.card.now.layout 1 _ _ e (p.0.selections a.i p.2).plan).inside }

pub returns : goal.returns
unfolding plan
returns c = rw (c.plan_weight.ensures, c.heaviest_plan.ensures, c.selection.ensures.0)
