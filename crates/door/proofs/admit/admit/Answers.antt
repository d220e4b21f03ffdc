use Rattle.layout.proofs.GoodLayout.{counted}
use Rattle.layout.specs.PlaceParts.{configured}
use Rattle.card.proofs.Rows.{handed_on}
use Rattle.door.proofs.Accepting.{card_kept_out, configuration_kept_out, let_in_with}
use Rattle.door.proofs.admit.admit.Goals as goal

pub returns-in_err-card : goal.returns-in_err-card
returns-in_err-card c =
    let a = c.args in
    let f = c.from_residual in
    card_kept_out a.card.now (configured a.beliefs.now a.goals.now a.m a.plan.now) f.result _ (handed_on f.result _ f.ensures.1) c.in_err-card.ensures

pub judge_configuration-requires : goal.judge_configuration-requires
judge_configuration-requires c = counted _ _ c.in_ok-card.card.good

pub returns-in_err-judge_configuration : goal.returns-in_err-judge_configuration
returns-in_err-judge_configuration c =
    let a = c.args in
    let f = c.from_residual-in_err-judge_configuration in
    let j = c.judge_configuration in
    configuration_kept_out a.card.now (configured a.beliefs.now a.goals.now a.m a.plan.now) _ c.in_ok-card.ensures j.result j.ensures.value
    f.result _ (handed_on f.result _ f.ensures.1) (c.in_err-judge_configuration.was)

pub returns : goal.returns
returns c =
    let a = c.args in
    let j = c.judge_configuration in
    let_in_with a.card.now (configured a.beliefs.now a.goals.now a.m a.plan.now) _ c.in_ok-card.ensures j.result j.ensures.value c.in_ok-judge_configuration.was j.ensures.plan_len
