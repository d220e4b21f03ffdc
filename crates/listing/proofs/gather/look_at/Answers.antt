use mathlib.Core.Path.{ap, ◌∙◌}
use Rattle.runs.specs.Kinds.{kind_number}
use Rattle.layout.specs.PlaceParts.{configured}
use Rattle.listing.specs.Looking.{look_by}
use Rattle.listing.proofs.Looking.{not_selection, asked_look}
use Rattle.listing.proofs.gather.look_at.Goals as goal

pub returns-in-Action : goal.returns-in-Action
returns-in-Action c = λ σ γ j.
    let a = c.args in
    c.look_by.ensures
    ∙ ap look_by (c.ask.ensures σ γ j)
    ∙ asked_look a.card.now.layout a.card.now.bytes.now (configured σ γ a.m a.plan.now) (kind_number a.choice.kind) a.choice.number (not_selection a.choice.kind c.in-Action.is) c.requires.1
