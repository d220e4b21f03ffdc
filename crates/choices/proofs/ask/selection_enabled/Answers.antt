use mathlib.Core.Path.{ap, ap₂, ◌∙◌}
use mathlib.Core.Bool.{◌&&◌}
use Rattle.layout.specs.PlaceParts.{configured}
use Rattle.meaning.specs.declared.SelectionEntry.{SelectionEntry}
use Rattle.choices.specs.Judged.{mark_at}
use Rattle.choices.proofs.Marked.{selection_shut, selection_by}
use borrow.Author.Tests.{ne_eqb, eq-eqb}
use Rattle.choices.proofs.ask.selection_enabled.Goals as goal

pub returns-then-m-ne0 : goal.returns-then-m-ne0
returns-then-m-ne0 c = λ σ γ j.
    let a = c.args in
    selection_shut a.card.now.layout a.card.now.bytes.now (configured σ γ a.m a.plan.now) a.marks.now j a.i c.requires.1 (ne_eqb _ _ c.if-m-ne0.true)

pub returns : goal.returns
returns c = λ σ γ j.
    let a = c.args in
    let M = a.marks.now in
    ap₂ ◌&&◌ c.is_true.ensures c.is_true-2.ensures
    ∙ ap (λ (x : SelectionEntry). (mark_at M x.belief).0 && (mark_at M x.goal).0) c.selection-e.ensures.0
    ∙ selection_by a.card.now.layout a.card.now.bytes.now (configured σ γ a.m a.plan.now) M j a.i c.requires.1 (eq-eqb _ _ c.if-m-ne0.false)
