use Rattle.layout.specs.PlaceParts.{configured}
use Rattle.meaning.specs.Card.{agent_for}
use Rattle.meaning.specs.Configurations.{state_of}
use Rattle.deliberate.specs.Made.{Makes, taken}
use Rattle.deliberate.proofs.Making.{takes_choice, takes_at}
use mathlib.Core.Path.{sym, ◌∙◌, subst}
use mathlib.Core.List.{[]}
use lib.ListN.{drop}
use Rattle.deliberation.specs.FirstMove.{by_choice}
use Rattle.deliberation.specs.Deliberate.{move_result}
use Rattle.deliberate.specs.declared.made.AfterMove.{AfterMove}
use Rattle.deliberate.proofs.made.make_choice.Goals as goal

pub step-requires : goal.step-requires
step-requires c =
    let a = c.args in
    let (ready, (κ, (k, q))) = c.requires in
    let t = takes_at a.card.now.layout a.card.now.bytes.now (configured a.beliefs.now a.goals.now a.m a.plan.now) κ k _ (sym c.in-Some.is ∙ q) in
    (ready, t.0)

pub returns : goal.returns
returns c = λ κ k q stack h w.
    let a = c.args in
    let b = a.card.now.bytes.now in
    let d = configured a.beliefs.now a.goals.now a.m a.plan.now in
    let o = taken (agent_for a.card.now.layout b) (state_of d).mental κ k in
    let ns = drop a.top stack in
    let t = takes_at a.card.now.layout b d κ k _ (sym c.in-Some.is ∙ q) in
    let s = c.step in
    subst (λ (r : AfterMove). Makes a.card.now.layout b d ns (move_result (agent_for a.card.now.layout b) (state_of d) (by_choice o []) ns) r (configured s.new.beliefs s.new.goals r.standing s.new.plan) stack) (sym c.moved_by.ensures)
    (takes_choice a.card.now.layout b d _ s.result (configured s.new.beliefs s.new.goals s.result.standing s.new.plan) s.ensures a.top stack h w _ t.1)
