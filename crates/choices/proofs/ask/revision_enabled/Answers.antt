use mathlib.Core.Path.{sym, ap, ◌∙◌}
use Rattle.layout.specs.PlaceParts.{configured}
use Rattle.meaning.specs.Card.{part, plan}
use Rattle.meaning.specs.declared.RevisionEntry.{RevisionEntry}
use Rattle.paper.specs.Next.{is_prefix}
use Rattle.choices.specs.Judged.{mark_at}
use Rattle.choices.proofs.Marked.{revision_shut, revision_by}
use lib.ListN.{take}
use Rattle.choices.proofs.ask.revision_enabled.Goals as goal

pub returns-then-not-is_true : goal.returns-then-not-is_true
returns-then-not-is_true c = λ σ γ j.
    let a = c.args in
    let M = a.marks.now in
    let d = configured σ γ a.m a.plan.now in
    let q = c.revision-e.ensures.0 in
    let f = ap (λ (x : RevisionEntry). (mark_at M x.node).0) (sym q) ∙ sym c.is_true.ensures ∙ c.if-not-is_true.true in
    revision_shut a.card.now.layout a.card.now.bytes.now d M j a.i c.requires.1 f

pub returns : goal.returns
unfolding plan
returns c = λ σ γ j.
    let a = c.args in
    let M = a.marks.now in
    let d = configured σ γ a.m a.plan.now in
    let r = c.revision-e in
    let q = r.ensures.0 in
    let at = c.pool_at-at.ensures in
    let f = ap (λ (x : RevisionEntry). (mark_at M x.node).0) (sym q) ∙ sym c.is_true.ensures ∙ c.if-not-is_true.false in
    c.starts_with.ensures
    ∙ (λ j. is_prefix (part a.card.now.bytes.now (at j) r.result.head.length) (take a.m.length a.plan.now))
    ∙ ap (λ (x : RevisionEntry). is_prefix (plan a.card.now.layout a.card.now.bytes.now x.head) (take a.m.length a.plan.now)) q
    ∙ revision_by a.card.now.layout a.card.now.bytes.now d M j a.i c.requires.1 f
