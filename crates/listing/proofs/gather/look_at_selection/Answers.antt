use mathlib.Core.Path.{sym, ap, ◌∙◌}
use mathlib.Core.Bool.{true, false}
use Rattle.layout.specs.PlaceParts.{configured}
use Rattle.meaning.specs.declared.SelectionEntry.{SelectionEntry}
use Rattle.choices.specs.Judged.{mark_at}
use Rattle.listing.proofs.Looking.{selection_look}
use Rattle.listing.proofs.gather.look_at_selection.Goals as goal

pub returns-then-is_true : goal.returns-then-is_true
returns-then-is_true c =
    let a = c.args in
    let M = a.marks.now in
    let held = sym c.if-is_true.true ∙ c.is_true.ensures ∙ ap (λ (x : SelectionEntry). (mark_at M x.belief).0) c.selection-e.ensures.0 in
    λ σ γ j.
    (ap (λ e. record { enabled = e; judged = 2 }) (c.is_enabled.ensures σ γ j)
    ∙ selection_look a.card.now.layout a.card.now.bytes.now (configured σ γ a.m a.plan.now) M j a.i c.requires.1 c.requires.2 true held)

pub returns-else-is_true : goal.returns-else-is_true
returns-else-is_true c =
    let a = c.args in
    let M = a.marks.now in
    let held = sym c.if-is_true.false ∙ c.is_true.ensures ∙ ap (λ (x : SelectionEntry). (mark_at M x.belief).0) c.selection-e.ensures.0 in
    λ σ γ j.
    (ap (λ e. record { enabled = e; judged = 1 }) (c.is_enabled.ensures σ γ j)
    ∙ selection_look a.card.now.layout a.card.now.bytes.now (configured σ γ a.m a.plan.now) M j a.i c.requires.1 c.requires.2 false held)
