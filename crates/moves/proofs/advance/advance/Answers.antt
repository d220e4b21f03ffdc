use Rattle.runs.specs.Step.{Reached}
use Rattle.moves.proofs.Running.{chose}
use Rattle.moves.specs.Steps.{transition_of, configuration_after}
use Rattle.layout.specs.PlaceParts.{configured}
use mathlib.Core.Path.{ap, ◌∙◌}
use Rattle.moves.proofs.advance.advance.Goals as goal

pub step-requires : goal.step-requires
step-requires c =
    let a = c.args in
    let k = chose a.card.now.layout a.card.now.bytes.now (configured a.beliefs.now a.goals.now a.m a.plan.now) _ (c.in-Some.ensures a.beliefs.now a.goals.now c.requires) in
    (c.requires.ready, k.0)

pub returns : goal.returns
returns c =
    let a = c.args in
    let d = configured a.beliefs.now a.goals.now a.m a.plan.now in
    let k = chose a.card.now.layout a.card.now.bytes.now d _ (c.in-Some.ensures a.beliefs.now a.goals.now c.requires) in
    let e = c.step.ensures in
    (e.0 ∙ ap transition_of k.1, e.1 ∙ ap (λ (x : Reached). configuration_after x d) k.1)
