use mathlib.Core.Path.{ap, ap₂, ◌∙◌}
use Rattle.layout.specs.PlaceParts.{configured}
use Rattle.meaning.specs.Card.{part, plan}
use Rattle.paper.specs.Next.{is_prefix}
use mathlib.Core.Bool.{true}
use Rattle.choices.specs.Judged.{mark_at}
use Rattle.door.specs.Asking.{asked_by}
use Rattle.choices.proofs.Marked.{asks_revision}
use Rattle.meaning.specs.declared.RevisionEntry.{RevisionEntry}
use lib.ListN.{take}
use Rattle.choices.proofs.ask.ask_revision.Goals as goal

pub returns : goal.returns
unfolding plan
returns c = λ σ γ j.
    let a = c.args in
    let M = a.marks.now in
    let r = c.revision-e in
    let e = r.ensures.0 in
    let at = c.pool_at-at.ensures in
    let f = c.starts_with-front.ensures ∙ (λ j. is_prefix (part a.card.now.bytes.now (at j) r.result.head.length) (take a.m.length a.plan.now)) ∙ ap (λ (x : RevisionEntry). is_prefix (plan a.card.now.layout a.card.now.bytes.now x.head) (take a.m.length a.plan.now)) e in
    let p = ap (λ (x : RevisionEntry). mark_at M x.node) e in
    c.asked_by.ensures ∙ ap₂ (asked_by true) f p ∙ asks_revision a.card.now.layout a.card.now.bytes.now (configured σ γ a.m a.plan.now) (mark_at M) j.ready j.marked a.i c.requires.1
