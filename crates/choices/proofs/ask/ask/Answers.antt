use Rattle.meaning.specs.Configurations.{state_of}
use Rattle.runs.specs.Kinds.{kind_number}
use Rattle.layout.specs.PlaceParts.{configured}
use Rattle.door.proofs.Asking.{no_rule}
use native.Mathlib.Omega.{arith}
use Rattle.choices.proofs.ask.ask.Goals as goal

pub returns-else-choice-count_of : goal.returns-else-choice-count_of
returns-else-choice-count_of c = λ σ γ j.
    let a = c.args in
    let n = c.count_of.ensures in
    no_rule a.card.now.layout a.card.now.bytes.now (state_of (configured σ γ a.m a.plan.now)).mental (kind_number a.choice.kind) a.choice.number (omega arith)
