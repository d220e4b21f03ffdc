use mathlib.Core.Path.{ap, sym, ◌∙◌}
use mathlib.Core.Bool.{not, ◌&&◌}
use Rattle.layout.specs.PlaceParts.{configured}
use Rattle.meaning.specs.declared.SpecificationEntry.{SpecificationEntry}
use Rattle.choices.specs.Judged.{mark_at}
use Rattle.choices.proofs.Marked.{specification_shut, specification_by}
use borrow.Author.Tests.{ne_eqb, eq-eqb}
use lib.Dec.{eqb}
use lib.ListN.{get_or}
use Rattle.choices.proofs.ask.specification_enabled.Goals as goal

pub returns-then-e-plan : goal.returns-then-e-plan
returns-then-e-plan c = λ σ γ j.
    let a = c.args in
    let f = ap (λ (x : SpecificationEntry). eqb x.action (get_or a.plan.now 0 0)) (sym c.specification-e.ensures) ∙ ne_eqb _ _ c.if-e-plan.true in
    specification_shut a.card.now.layout a.card.now.bytes.now (configured σ γ a.m a.plan.now) a.marks.now j a.i c.requires.1 f

pub returns : goal.returns
returns c = λ σ γ j.
    let a = c.args in
    let M = a.marks.now in
    let q = c.specification-e.ensures in
    let f = ap (λ (x : SpecificationEntry). eqb x.action (get_or a.plan.now 0 0)) (sym q) ∙ eq-eqb _ _ c.if-e-plan.false in
    ap (λ v. not (eqb a.m.length 0) && v) (c.is_true.ensures ∙ ap (λ (x : SpecificationEntry). (mark_at M x.node).0) q)
    ∙ specification_by a.card.now.layout a.card.now.bytes.now (configured σ γ a.m a.plan.now) M j a.i c.requires.1 f
