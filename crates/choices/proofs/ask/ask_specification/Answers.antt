use mathlib.Core.Path.{ap, ap₂, ◌∙◌}
use Rattle.layout.specs.PlaceParts.{configured}
use lib.Dec.{eqb}
use mathlib.Core.Bool.{true, not, ◌&&◌}
use Rattle.door.specs.Asking.{asked_by}
use Rattle.meaning.specs.declared.SpecificationEntry.{SpecificationEntry}
use Rattle.choices.specs.Judged.{mark_at}
use Rattle.choices.proofs.Marked.{asks_specification}
use lib.ListN.{get_or}
use Rattle.choices.proofs.ask.ask_specification.Goals as goal

pub returns : goal.returns
returns c = λ σ γ j.
    let a = c.args in
    let M = a.marks.now in
    let e = c.specification-e.ensures in
    let p = ap (λ (x : SpecificationEntry). mark_at M x.node) e in
    let f = ap (λ (x : SpecificationEntry). not (eqb a.m.length 0) && eqb x.action (get_or a.plan.now 0 0)) e in
    c.asked_by.ensures ∙ ap₂ (asked_by true) f p ∙ asks_specification a.card.now.layout a.card.now.bytes.now (configured σ γ a.m a.plan.now) (mark_at M) j.ready j.marked a.i c.requires.1
