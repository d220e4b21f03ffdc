use mathlib.Core.Path.{refl, ap, sym, ◌∙◌}
use native.Mathlib.Omega.{arith}
use Rattle.runs.specs.Order.{guide}
use Rattle.meaning.specs.Card.{agent_for}
use Rattle.meaning.specs.Configurations.{state_of}
use Rattle.layout.specs.PlaceParts.{configured}
use Rattle.door.specs.Asking.{first_of_kind}
use Rattle.door.proofs.First.{found_in_turn, none_in_turn, tried_more}
use Rattle.choices.proofs.ask.choose.Goals as goal

pub returns-in-Some : goal.returns-in-Some
unfolding guide state_of
returns-in-Some c = λ σ γ j.
    let a = c.args in
    let l = c.loop-t in
    let d = configured σ γ a.m a.plan.now in
    let e = c.in-Some.ensures σ γ j ∙ ap (first_of_kind a.card.now.layout a.card.now.bytes.now d) c.kind_of-kind.ensures in
    found_in_turn (agent_for a.card.now.layout a.card.now.bytes.now) (state_of d).mental a.m.phase l.t (omega arith) (l.invariant σ γ j) _ e _ refl

pub loop-t-preserved : goal.loop-t-preserved
unfolding state_of
loop-t-preserved c = λ σ γ j.
    let a = c.args in
    let l = c.loop-t in
    let d = configured σ γ a.m a.plan.now in
    let e = c.in_default.ensures σ γ j ∙ ap (first_of_kind a.card.now.layout a.card.now.bytes.now d) c.kind_of-kind.ensures in
    tried_more (agent_for a.card.now.layout a.card.now.bytes.now) (state_of d).mental a.m.phase l.t (l.invariant σ γ j) (sym e)

pub returns : goal.returns
unfolding guide state_of
returns c = λ σ γ j.
    let a = c.args in
    let l = c.loop-t in
    none_in_turn (agent_for a.card.now.layout a.card.now.bytes.now) (state_of (configured σ γ a.m a.plan.now)).mental a.m.phase (λ k h. l.invariant σ γ j k (omega arith))
