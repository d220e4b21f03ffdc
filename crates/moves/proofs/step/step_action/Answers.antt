use Rattle.paper.specs.Atoms.{◌∖◌}
use Rattle.paper.specs.Transitions.{σ', γ'}
use Rattle.moves.specs.declared.step.Stepped.{Stepped}
use Rattle.meaning.specs.Configurations.{padded, configuration_of}
use Rattle.meaning.specs.Card.{specification_of}
use Rattle.runs.specs.Order.{kind, number}
use Rattle.runs.specs.Step.{Reached}
use Rattle.moves.specs.Steps.{transition_of, configuration_after}
use Rattle.moves.proofs.Finished.{finished_at_lem}
use Rattle.moves.proofs.Stepping.{specification_known, plan_not_empty, acted_length, acts_to}
use Rattle.layout.specs.PlaceParts.{configured}
use mathlib.Core.Path.{sym, ap, ◌∙◌}
use lib.ListN.{take, drop}
use Rattle.moves.proofs.step.step_action.Goals as goal

pub act_on-requires : goal.act_on-requires
act_on-requires c =
    let a = c.args in
    specification_known a.card.now.layout a.card.now.bytes.now (configured a.beliefs.now a.goals.now a.m a.plan.now) c.requires.0 a.i c.requires.1

pub drop_front-requires : goal.drop_front-requires
drop_front-requires c =
    let a = c.args in
    (plan_not_empty a.card.now.layout a.card.now.bytes.now (configured a.beliefs.now a.goals.now a.m a.plan.now) c.requires.0 a.i c.requires.1, c.requires.0.fits, c.requires.0.zeros)

pub overflow_sub-n : goal.overflow_sub-n
overflow_sub-n c =
    let a = c.args in
    plan_not_empty a.card.now.layout a.card.now.bytes.now (configured a.beliefs.now a.goals.now a.m a.plan.now) c.requires.0 a.i c.requires.1

pub returns : goal.returns
unfolding configuration_of kind number σ' γ' specification_of
returns c =
    let a = c.args in
    let d = configured a.beliefs.now a.goals.now a.m a.plan.now in
    let t = acts_to a.card.now.layout a.card.now.bytes.now (configured a.beliefs.now a.goals.now a.m a.plan.now) c.requires.0 a.i c.requires.1 in
    let beliefs = c.act_on.ensures in
    let goals = c.difference.ensures ∙ ap (λ x. a.goals.now ∖ x) beliefs in
    let n = sym (acted_length a.card.now.layout a.card.now.bytes.now (configured a.beliefs.now a.goals.now a.m a.plan.now) c.requires.0 a.i c.requires.1) in
    let f = finished_at_lem a.m.finished _ _ n in
    let r = c.taken.ensures in (
      ap (λ (x : Stepped). x.transition) r ∙ ap transition_of (sym t),
      (λ j. configured c.act_on.new.beliefs c.difference.result (r j).standing (c.drop_front.ensures j)) ∙ (λ j. configured (beliefs j) (goals j) (record { length = n j; phase = 2; finished = f j }) (padded (drop 1 (take a.m.length a.plan.now)))) ∙ ap (λ (x : Reached). configuration_after x d) (sym t),
    )
