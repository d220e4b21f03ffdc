use Rattle.meaning.specs.Calls.{reply, takes}
use Rattle.meaning.proofs.Calls.{takes_refused}
use Rattle.moves.proofs.Taking.{takes_by}
use Rattle.door.proofs.Accepting.{admitted_good, admitted_refused}
use Rattle.card.specs.Rows.{answer_of}
use mathlib.Core.Path.{sym, ap, ◌∙◌}
use Rattle.layout.specs.PlaceParts.{configured}
use Rattle.moves.proofs.take.take.Goals as goal

pub returns-in_default : goal.returns-in_default
returns-in_default c =
    let a = c.args in
    let b = a.card.now in
    let d = configured a.beliefs.now a.goals.now a.m a.plan.now in
    let e = admitted_refused b d _ c.in_default.ensures in
    let s = c.answer_of.ensures ∙ ap answer_of c.in_default.is in
    ap (λ x. reply x d) s ∙ sym (takes_refused b d a.choice _ e)

pub take_choice-requires : goal.take_choice-requires
take_choice-requires c = c.in-Ok.ensures.ready

pub returns : goal.returns
returns c =
    let a = c.args in
    let b = c.in-Ok.card.bytes.now in
    let d = configured a.beliefs.now a.goals.now a.m a.plan.now in
    let told = c.in-Ok.ensures in
    let (e, s) = admitted_good b d _ told.value in
    c.take_choice.ensures ∙ takes_by b d e a.choice _ s ∙ ap (λ x. takes x d a.choice) told.same
