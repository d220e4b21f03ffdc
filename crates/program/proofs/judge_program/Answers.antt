use Rattle.meaning.specs.declared.Refusal.{Refusal}
use Rattle.card.specs.Rows.{row_answer}
use mathlib.Core.Path.{ap, ◌∙◌}
use Rattle.program.proofs.judge_program.Goals as goal

pub returns : goal.returns
returns c = c.row.ensures ∙ ap (λ g. row_answer g Refusal.Program) c.program_good.ensures
