use mathlib.Core.Path.{sym, ap, ◌∙◌, subst}
use Rattle.runs.specs.declared.Ending.{Ending}
use Rattle.runs.specs.Run.{run}
use Rattle.std.specs.Prelude.{Ok}
use Rattle.meaning.specs.declared.Configuration.{Configuration}
use Rattle.meaning.specs.Card.{agent_for}
use Rattle.meaning.specs.Configurations.{state_of}
use Rattle.meaning.specs.Calls.{ran, runs}
use Rattle.meaning.proofs.Calls.{runs_refused}
use Rattle.card.specs.Rows.{answer_of}
use Rattle.door.specs.Ready.{Ready}
use Rattle.door.proofs.Accepting.{admitted_good, admitted_refused}
use Rattle.moves.proofs.Running.{runs_by}
use Rattle.plain.proofs.run.run.Goals as goal

pub returns-in_default : goal.returns-in_default
returns-in_default c =
    let a = c.args in
    let b = a.card.now in
    let e = admitted_refused b a.c _ c.in_default.ensures in
    let s = c.answer_of.ensures ∙ ap answer_of c.in_default.is in
    (λ i. record { answer = s i; count = 0; ending = Ending.Spent; configuration = a.c }) ∙ sym (runs_refused b a.c a.budget _ e)

pub run_on-reached-requires : goal.run_on-reached-requires
run_on-reached-requires c =
    let r = c.in-Ok.ensures.ready in
    (subst (Ready _ c.in-Ok.card.bytes.now) (sym c.unpack.ensures) r, c.unpack_card.ensures)

pub returns : goal.returns
returns c =
    let a = c.args in
    let b = c.in-Ok.card.bytes.now in
    let l = c.in-Ok.card.layout in
    let told = c.in-Ok.ensures in
    let (e, s) = admitted_good b a.c _ told.value in
    let o = c.run_on-reached in
    (λ i. record { answer = Ok tt; count = o.result.count; ending = o.result.ending; configuration = c.pack.ensures i })
    ∙ o.ensures
    ∙ ap (λ (x : Configuration). ran (run (agent_for l b) a.budget (state_of x))) c.unpack.ensures
    ∙ runs_by b a.c e a.budget _ s
    ∙ ap (λ x. runs x a.c a.budget) told.same
