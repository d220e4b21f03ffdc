use Rattle.layout.specs.PlaceParts.{configured}
use Rattle.card.specs.Rows.{answer_of}
use mathlib.Core.Path.{sym, ap, ◌∙◌}
use Rattle.door.proofs.Accepting.{admitted_good, admitted_refused}
use Rattle.meaning.specs.Refusals.{configuration_answer}
use Rattle.moves.specs.Steps.{own_move, transition_of, configuration_after}
use Rattle.moves.proofs.Running.{own_refused, own_accepted}
use Rattle.runs.specs.Step.{Reached}
use Rattle.moves.proofs.advance.advance_once.Goals as goal

pub returns-in_default : goal.returns-in_default
returns-in_default c =
    let a = c.args in
    let b = a.card.now in
    let d = configured a.beliefs.now a.goals.now a.m a.plan.now in
    let e = admitted_refused b d _ c.in_default.ensures in
    let s = c.answer_of.ensures ∙ ap answer_of c.in_default.is in
    let t = own_refused b d _ e in record {
      answer_value = s ∙ sym e;
      steps = (ap transition_of (sym t), ap (λ (x : Reached). configuration_after x d) (sym t));
    }

pub advance-requires : goal.advance-requires
advance-requires c = record { ready = c.in-Ok.ensures.ready; marked = c.judge_nodes.ensures.0 }

pub returns : goal.returns
returns c =
    let a = c.args in
    let b = c.in-Ok.card.bytes.now in
    let d = configured a.beliefs.now a.goals.now a.m a.plan.now in
    let told = c.in-Ok.ensures in
    let (e, s) = admitted_good b d _ told.value in
    let t = own_accepted b d e _ s in
    let r = c.advance.ensures in
    let o = ap (λ x. own_move x d) told.same in record {
      answer_value = sym e ∙ ap (λ x. configuration_answer x d) told.same;
      steps = (r.0 ∙ ap transition_of (t ∙ o), r.1 ∙ ap (λ (x : Reached). configuration_after x d) (t ∙ o));
    }
