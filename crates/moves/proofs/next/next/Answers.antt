use Rattle.door.proofs.Accepting.{admitted_good, admitted_refused}
use Rattle.meaning.specs.Answers.{Answer}
use Rattle.std.specs.Prelude.{Ok}
use Rattle.meaning.specs.declared.Coming.{Coming}
use Rattle.meaning.specs.Calls.{nexts}
use Rattle.meaning.proofs.Calls.{nexts_refused}
use Rattle.moves.proofs.Telling.{next_accepted}
use Rattle.layout.specs.PlaceParts.{configured}
use Rattle.card.specs.Rows.{answer_of}
use mathlib.Core.Path.{sym, ap, ◌∙◌}
use Rattle.moves.proofs.next.next.Goals as goal

pub returns-in_default : goal.returns-in_default
returns-in_default c =
    let a = c.args in
    let d = configured a.beliefs.now a.goals.now a.m a.plan.now in
    let e = admitted_refused a.card.now d _ c.in_default.ensures in
    let s = c.answer_of.ensures ∙ ap answer_of c.in_default.is in
    ap (λ (x : Answer). record { answer = x; coming = Coming.Rest; configuration = d }) s ∙ sym (nexts_refused a.card.now d _ e)

pub coming-requires : goal.coming-requires
coming-requires c =
    let a = c.args in
    record { beliefs = a.beliefs.now; goals = a.goals.now; judged = record { ready = c.in-Ok.ensures.ready; marked = c.judge_nodes.ensures.0 } }

pub returns : goal.returns
returns c =
    let a = c.args in
    let d = configured a.beliefs.now a.goals.now a.m a.plan.now in
    let b = c.in-Ok.card.bytes.now in
    let told = c.in-Ok.ensures in
    let (e, s) = admitted_good b d _ told.value in
    ap (λ (x : Coming). record { answer = Ok tt; coming = x; configuration = d }) (c.coming.ensures a.beliefs.now a.goals.now (record { ready = c.in-Ok.ensures.ready; marked = c.judge_nodes.ensures.0 })) ∙ next_accepted b d e _ s ∙ ap (λ x. nexts x d) told.same
