use mathlib.Core.Path.{sym, ap, ◌∙◌, subst}
use Rattle.runs.specs.Step.{step_by}
use Rattle.meaning.specs.declared.Configuration.{Configuration}
use Rattle.meaning.specs.Card.{agent_for}
use Rattle.meaning.specs.Configurations.{state_of}
use Rattle.meaning.specs.Why.{why_closed}
use Rattle.meaning.specs.Calls.{choice, reply, takes}
use Rattle.meaning.proofs.Calls.{takes_refused}
use Rattle.card.specs.Rows.{answer_of}
use Rattle.door.specs.Ready.{Ready}
use Rattle.door.proofs.Accepting.{admitted_good, admitted_refused}
use Rattle.moves.specs.Steps.{taken_by}
use Rattle.moves.proofs.Taking.{takes_by}
use Rattle.plain.proofs.take.take.Goals as goal

pub returns-in_default : goal.returns-in_default
returns-in_default c =
    let a = c.args in
    let b = a.card.now in
    let e = admitted_refused b a.c _ c.in_default.ensures in
    let s = c.answer_of.ensures ∙ ap answer_of c.in_default.is in
    ap (λ x. reply x a.c) s ∙ sym (takes_refused b a.c a.choice _ e)

pub take_choice-taken-requires : goal.take_choice-taken-requires
take_choice-taken-requires c =
    let r = c.in-Ok.ensures.ready in
    (subst (Ready _ c.in-Ok.card.bytes.now) (sym c.unpack.ensures) r, c.unpack_card.ensures)

pub returns : goal.returns
returns c =
    let a = c.args in
    let b = c.in-Ok.card.bytes.now in
    let l = c.in-Ok.card.layout in
    let told = c.in-Ok.ensures in
    let (e, s) = admitted_good b a.c _ told.value in
    let o = c.take_choice-taken in
    ap (reply o.result.answer) c.pack.ensures
    ∙ o.ensures
    ∙ ap (λ (x : Configuration). taken_by (why_closed l b (state_of x).mental (choice a.choice)) (step_by (agent_for l b) (state_of x) (choice a.choice)) x) c.unpack.ensures
    ∙ takes_by b a.c e a.choice _ s
    ∙ ap (λ x. takes x a.c a.choice) told.same
