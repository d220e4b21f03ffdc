use mathlib.Core.Path.{sym, ◌∙◌}
use Rattle.layout.specs.PlaceParts.{configured}
use Rattle.meaning.specs.Card.{agent_for}
use Rattle.meaning.specs.Configurations.{state_of}
use Rattle.door.specs.Asking.{choice_of}
use Rattle.deliberate.proofs.Making.{open_chosen, shut_chosen}
use Rattle.deliberate.proofs.made.if_enabled.Goals as goal

pub returns-then-is_enabled : goal.returns-then-is_enabled
returns-then-is_enabled c = λ σ γ j.
    let a = c.args in
    open_chosen (agent_for a.card.now.layout a.card.now.bytes.now) (state_of (configured σ γ a.m a.plan.now)).mental a.choice (sym (c.is_enabled.ensures σ γ j) ∙ c.if-is_enabled.true)

pub returns-else-is_enabled : goal.returns-else-is_enabled
returns-else-is_enabled c = λ σ γ j.
    let a = c.args in
    shut_chosen (agent_for a.card.now.layout a.card.now.bytes.now) (state_of (configured σ γ a.m a.plan.now)).mental (choice_of a.choice) (sym (c.is_enabled.ensures σ γ j) ∙ c.if-is_enabled.false)
