use Rattle.moves.specs.declared.step.Stepped.{Stepped}
use Rattle.meaning.specs.Configurations.{padded, configuration_of}
use Rattle.meaning.specs.Card.{part, plan, selection_at}
use Rattle.runs.specs.Order.{kind, number}
use Rattle.runs.specs.Step.{Reached}
use Rattle.card.specs.GoodCard.{GoodSpan}
use Rattle.meaning.specs.declared.SelectionEntry.{SelectionEntry}
use Rattle.moves.specs.Steps.{transition_of, configuration_after}
use Rattle.moves.proofs.Finished.{finished_at_lem}
use Rattle.moves.proofs.Stepping.{selection_known, plan_empty, plan_length, selects_to}
use Rattle.layout.specs.PlaceParts.{configured}
use mathlib.Core.Path.{sym, ap, ◌∙◌, subst}
use mathlib.Core.List.{append-nil}
use native.Mathlib.Omega.{arith}
use Rattle.moves.proofs.step.step_selection.Goals as goal

pub selection-e-requires : goal.selection-e-requires
selection-e-requires c =
    let a = c.args in
    selection_known a.card.now.layout a.card.now.bytes.now (configured c.requires.beliefs c.requires.goals a.m a.plan.now) c.requires.ready a.i c.requires.may

pub replace_front-requires : goal.replace_front-requires
replace_front-requires c =
    let a = c.args in
    let z = plan_empty a.card.now.layout a.card.now.bytes.now (configured c.requires.beliefs c.requires.goals a.m a.plan.now) c.requires.ready a.i c.requires.may in
    let k = selection_known a.card.now.layout a.card.now.bytes.now (configured c.requires.beliefs c.requires.goals a.m a.plan.now) c.requires.ready a.i c.requires.may in
    let e = ap (λ (x : SelectionEntry). x.plan) c.selection-e.ensures.0 in
    let g = subst (GoodSpan a.card.now.layout 1) (sym e) (c.requires.ready.card.selections a.i k).plan in
    let x = g.inside in
    let y = g.fits in
    let w = c.requires.ready.card.layout.ends in
    let at = c.pool_at.ensures in
    (omega arith, omega arith, omega arith, omega arith, rw z at c.requires.ready.zeros)

pub taken-requires : goal.taken-requires
taken-requires c =
    let a = c.args in
    let k = selection_known a.card.now.layout a.card.now.bytes.now (configured c.requires.beliefs c.requires.goals a.m a.plan.now) c.requires.ready a.i c.requires.may in
    let e = ap (λ (x : SelectionEntry). x.plan) c.selection-e.ensures.0 in
    let g = subst (GoodSpan a.card.now.layout 1) (sym e) (c.requires.ready.card.selections a.i k).plan in
    g.fits

pub returns : goal.returns
unfolding plan configuration_of kind number
returns c = λ σ γ ready may.
    let a = c.args in
    let b = a.card.now.bytes.now in
    let d = configured σ γ a.m a.plan.now in
    let k = selection_known a.card.now.layout a.card.now.bytes.now (configured σ γ a.m a.plan.now) ready a.i may in
    let t = selects_to a.card.now.layout a.card.now.bytes.now (configured σ γ a.m a.plan.now) ready a.i may in
    let e = ap (λ (x : SelectionEntry). x.plan) c.selection-e.ensures.0 in
    let n = ap (λ (x : SelectionEntry). x.plan.length) c.selection-e.ensures.0 ∙ sym (plan_length a.card.now.layout b d ready a.i 1 (selection_at a.card.now.layout b a.i).plan (ready.card.selections a.i k).plan) in
    let f = finished_at_lem a.m.finished _ _ n in
    let r = c.taken.ensures in
    let q = c.replace_front.ensures ∙ ap padded (append-nil _ ∙ (λ j. part b (c.pool_at.ensures j) c.selection-e.result.plan.length) ∙ ap (plan a.card.now.layout b) e) in (
      ap (λ (x : Stepped). x.transition) r ∙ ap transition_of (sym t),
      (λ j. configured σ γ (r j).standing (q j)) ∙ (λ j. configured σ γ (record { length = n j; phase = 1; finished = f j }) (padded (plan a.card.now.layout b (selection_at a.card.now.layout b a.i).plan))) ∙ ap (λ (x : Reached). configuration_after x d) (sym t),
    )
