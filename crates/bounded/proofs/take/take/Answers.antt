use mathlib.Core.Path.{ap, ◌∙◌}
use Rattle.meaning.specs.BoundedCalls.{bounded_takes}
use Rattle.card.specs.Rows.{answer_of}
use Rattle.bounded.proofs.Calling.{door_word, take_refused, take_word, take_made}
use Rattle.door.specs.InPlace.{reply_with}
use Rattle.layout.specs.PlaceParts.{configured}
use Rattle.bounded.proofs.take.take.Goals as goal

pub answer_word-requires : goal.answer_word-requires
answer_word-requires c =
    let a = c.args in
    door_word a.card.now (configured a.beliefs.now a.goals.now a.m a.plan.now) _ c.in_default.ensures _ (c.answer_of.ensures ∙ ap answer_of c.in_default.is)

pub returns-in_default : goal.returns-in_default
returns-in_default c =
    let a = c.args in
    let d = configured a.beliefs.now a.goals.now a.m a.plan.now in
    take_refused a.card.now d _ c.in_default.ensures _ (c.answer_of.ensures ∙ ap answer_of c.in_default.is) _ c.answer_word.ensures a.choice

pub take_choice-taken-requires : goal.take_choice-taken-requires
take_choice-taken-requires c = c.in-Ok.ensures.ready

pub answer_word-requires-2 : goal.answer_word-requires-2
answer_word-requires-2 c =
    let a = c.args in
    let d = configured a.beliefs.now a.goals.now a.m a.plan.now in
    let t = c.take_choice-taken in
    take_word c.in-Ok.card.bytes.now d _ c.in-Ok.ensures.value a.choice (reply_with t.result t.new.beliefs t.new.goals t.new.plan) t.ensures

pub returns : goal.returns
returns c =
    let a = c.args in
    let d = configured a.beliefs.now a.goals.now a.m a.plan.now in
    let t = c.take_choice-taken in
    take_made c.in-Ok.card.bytes.now d _ c.in-Ok.ensures.value a.choice (reply_with t.result t.new.beliefs t.new.goals t.new.plan) t.ensures _ c.answer_word-2.ensures
    ∙ ap (λ x. bounded_takes x d a.choice) c.in-Ok.ensures.same
