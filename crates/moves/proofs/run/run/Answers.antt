use Rattle.runs.specs.declared.Ending.{Ending}
use Rattle.meaning.specs.Calls.{runs}
use Rattle.meaning.proofs.Calls.{runs_refused}
use Rattle.moves.proofs.Running.{runs_by}
use Rattle.door.proofs.Accepting.{admitted_good, admitted_refused}
use Rattle.card.specs.Rows.{answer_of}
use mathlib.Core.Path.{sym, ap, ◌∙◌}
use Rattle.layout.specs.PlaceParts.{configured}
use Rattle.moves.proofs.run.run.Goals as goal

pub returns-in_default : goal.returns-in_default
returns-in_default c =
    let a = c.args in
    let b = a.card.now in
    let d = configured a.beliefs.now a.goals.now a.m a.plan.now in
    let e = admitted_refused b d _ c.in_default.ensures in
    let s = c.answer_of.ensures ∙ ap answer_of c.in_default.is in
    (λ i. record { answer = s i; count = 0; ending = Ending.Spent; configuration = d }) ∙ sym (runs_refused b d a.budget _ e)

pub run_on-requires : goal.run_on-requires
run_on-requires c = c.in-Ok.ensures.ready

pub returns : goal.returns
returns c =
    let a = c.args in
    let b = c.in-Ok.card.bytes.now in
    let d = configured a.beliefs.now a.goals.now a.m a.plan.now in
    let told = c.in-Ok.ensures in
    let (e, s) = admitted_good b d _ told.value in
    c.run_on.ensures ∙ runs_by b d e a.budget _ s ∙ ap (λ x. runs x d a.budget) told.same
