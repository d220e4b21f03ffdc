use mathlib.Core.Path.{ap, ◌∙◌}
use Rattle.layout.specs.PlaceParts.{configured}
use lib.Dec.{eqb}
use mathlib.Core.Bool.{true}
use Rattle.door.specs.Asking.{both, asked_by}
use Rattle.meaning.specs.declared.SelectionEntry.{SelectionEntry}
use Rattle.choices.specs.Judged.{mark_at}
use Rattle.choices.proofs.Marked.{asks_selection}
use Rattle.choices.proofs.ask.ask_selection.Goals as goal

pub returns : goal.returns
returns c = λ σ γ j.
    let a = c.args in
    let M = a.marks.now in
    let e = c.selection-e.ensures.0 in
    let p = c.both_of.ensures ∙ ap (λ (x : SelectionEntry). both (mark_at M x.belief) (mark_at M x.goal)) e in
    c.asked_by.ensures ∙ ap (asked_by true (eqb a.m.length 0)) p ∙ asks_selection a.card.now.layout a.card.now.bytes.now (configured σ γ a.m a.plan.now) (mark_at M) j.ready j.marked a.i c.requires.1
