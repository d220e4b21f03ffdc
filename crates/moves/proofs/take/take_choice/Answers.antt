use Rattle.meaning.specs.declared.Refusal.{Refusal}
use Rattle.meaning.specs.Why.{why_closed}
use mathlib.Core.Path.{sym, ap, ap₂, ◌∙◌}
use Rattle.layout.specs.PlaceParts.{configured}
use Rattle.door.specs.Asking.{choice_of}
use Rattle.door.proofs.Told.{told_some, told_none}
use Rattle.moves.specs.Steps.{answer_to, taken_by}
use Rattle.moves.proofs.Taking.{refused_none, refused_so, enabled_told, enabled_something, some_answer}
use Rattle.meaning.specs.Card.{agent_for}
use Rattle.meaning.specs.Configurations.{state_of}
use Rattle.meaning.specs.Calls.{choice, reply}
use Rattle.runs.specs.Step.{Reached, step_by}
use Rattle.moves.proofs.take.take_choice.Goals as goal

pub returns-in_default : goal.returns-in_default
returns-in_default c =
    let a = c.args in
    refused_none a.card.now.layout a.card.now.bytes.now (configured a.beliefs.now a.goals.now a.m a.plan.now) (choice a.code) (told_none (choice a.code) c.in_default.ensures)

pub step-s-requires : goal.step-s-requires
step-s-requires c =
    let a = c.args in
    let m = (state_of (configured a.beliefs.now a.goals.now a.m a.plan.now)).mental in
    let asked = c.ask.ensures a.beliefs.now a.goals.now (record { ready = c.requires; marked = c.judge_nodes.ensures.0 }) in
    (c.requires, enabled_told a.card.now.layout a.card.now.bytes.now m (choice_of c.in-Some.choice) c.ask.result asked (sym c.answer_asked-answer.ensures ∙ c.in-Ok.is))

pub returns : goal.returns
returns c =
    let a = c.args in
    let A = agent_for a.card.now.layout a.card.now.bytes.now in
    let d = configured a.beliefs.now a.goals.now a.m a.plan.now in
    let k = choice_of c.in-Some.choice in
    let q = told_some (choice a.code) c.in-Some.choice c.in-Some.ensures in
    let why = why_closed a.card.now.layout a.card.now.bytes.now (state_of d).mental (choice a.code) in
    let asked = c.ask.ensures a.beliefs.now a.goals.now (record { ready = c.requires; marked = c.judge_nodes.ensures.0 }) in
    let o = enabled_told a.card.now.layout a.card.now.bytes.now (state_of d).mental k c.ask.result asked (sym c.answer_asked-answer.ensures ∙ c.in-Ok.is) in
    let s = c.step-s.ensures in
    ap₂ reply (c.answer_to.ensures ∙ ap (answer_to Refusal.NoRule) s.0 ∙ some_answer Refusal.NoRule why _ (enabled_something a.card.now.layout a.card.now.bytes.now d k o)) s.1
    ∙ ap (λ (x : Reached). taken_by why x d) (sym (ap (step_by A (state_of d)) q))

pub returns-in_default-answer : goal.returns-in_default-answer
returns-in_default-answer c =
    let a = c.args in
    let d = configured a.beliefs.now a.goals.now a.m a.plan.now in
    let k = choice_of c.in-Some.choice in
    let q = told_some (choice a.code) c.in-Some.choice c.in-Some.ensures in
    let asked = c.ask.ensures a.beliefs.now a.goals.now (record { ready = c.requires; marked = c.judge_nodes.ensures.0 }) in
    let answer = c.answer_asked-answer.ensures in
    ap (λ x. reply x d) answer ∙ refused_so a.card.now.layout a.card.now.bytes.now d (choice a.code) k q c.ask.result _ asked (sym answer ∙ c.in_default-answer.is)
