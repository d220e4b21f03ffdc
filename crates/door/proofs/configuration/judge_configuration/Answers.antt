use Rattle.meaning.specs.declared.Refusal.{Refusal}
use Rattle.card.specs.Rows.{row_answer}
use mathlib.Core.Path.{ap, ◌∙◌}
use Rattle.door.proofs.configuration.judge_configuration.Goals as goal

pub returns : goal.returns
returns c = record {
  value = c.row.ensures ∙ ap (λ x. row_answer x Refusal.Configuration) c.configuration_good.ensures.value;
  plan_len = c.configuration_good.ensures.plan_len;
}
