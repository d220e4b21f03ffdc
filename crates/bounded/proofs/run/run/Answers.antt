use mathlib.Core.Path.{ap, ◌∙◌}
use Rattle.meaning.specs.BoundedCalls.{bounded_runs}
use Rattle.card.specs.Rows.{answer_of}
use Rattle.bounded.proofs.Calling.{door_word, run_refused, run_word, run_ending, run_made}
use Rattle.door.specs.InPlace.{ran_with}
use Rattle.layout.specs.PlaceParts.{configured}
use Rattle.bounded.proofs.run.run.Goals as goal

pub answer_word-requires : goal.answer_word-requires
answer_word-requires c =
    let a = c.args in
    door_word a.card.now (configured a.beliefs.now a.goals.now a.m a.plan.now) _ c.in_default.ensures _ (c.answer_of.ensures ∙ ap answer_of c.in_default.is)

pub returns-in_default : goal.returns-in_default
returns-in_default c =
    let a = c.args in
    let d = configured a.beliefs.now a.goals.now a.m a.plan.now in
    run_refused a.card.now d _ c.in_default.ensures _ (c.answer_of.ensures ∙ ap answer_of c.in_default.is) _ c.answer_word.ensures a.budget

pub run_on-ran-requires : goal.run_on-ran-requires
run_on-ran-requires c = c.in-Ok.ensures.ready

pub answer_word-requires-2 : goal.answer_word-requires-2
answer_word-requires-2 c =
    let a = c.args in
    let d = configured a.beliefs.now a.goals.now a.m a.plan.now in
    let t = c.run_on-ran in
    run_word c.in-Ok.card.bytes.now d _ c.in-Ok.ensures.value a.budget (ran_with t.result t.new.beliefs t.new.goals t.new.plan) t.ensures

pub ending_word-requires : goal.ending_word-requires
ending_word-requires c =
    let a = c.args in
    let d = configured a.beliefs.now a.goals.now a.m a.plan.now in
    let t = c.run_on-ran in
    run_ending c.in-Ok.card.bytes.now d _ c.in-Ok.ensures.value a.budget (ran_with t.result t.new.beliefs t.new.goals t.new.plan) t.ensures

pub returns : goal.returns
returns c =
    let a = c.args in
    let d = configured a.beliefs.now a.goals.now a.m a.plan.now in
    let t = c.run_on-ran in
    run_made c.in-Ok.card.bytes.now d _ c.in-Ok.ensures.value a.budget (ran_with t.result t.new.beliefs t.new.goals t.new.plan) t.ensures _ c.answer_word-2.ensures _ c.ending_word.ensures
    ∙ ap (λ x. bounded_runs x d a.budget) c.in-Ok.ensures.same
