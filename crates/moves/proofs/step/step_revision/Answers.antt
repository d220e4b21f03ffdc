use Rattle.moves.specs.declared.step.Stepped.{Stepped}
use Rattle.meaning.specs.Configurations.{padded, configuration_of}
use Rattle.meaning.specs.Card.{part, plan, revision_at}
use Rattle.runs.specs.Order.{kind, number}
use Rattle.runs.specs.Step.{Reached}
use Rattle.card.specs.GoodCard.{GoodSpan}
use Rattle.meaning.specs.declared.RevisionEntry.{RevisionEntry}
use Rattle.moves.specs.Steps.{transition_of, configuration_after}
use Rattle.moves.proofs.Finished.{finished_at_lem}
use Rattle.moves.proofs.Stepping.{revision_known, head_fits, revised_length, revises_to, revises_full}
use Rattle.layout.specs.PlaceParts.{configured}
use mathlib.Core.Path.{sym, ap, ◌∙◌, subst}
use mathlib.Core.List.{◌++◌}
use Prim.Native.Nat.{◌+◌, ◌-◌, ◌≤◌, ◌<◌}
use native.Mathlib.Omega.{arith}
use lib.ListN.{take, drop}
use Rattle.moves.proofs.step.step_revision.Goals as goal

pub revision-e-requires : goal.revision-e-requires
revision-e-requires c =
    let a = c.args in
    revision_known a.card.now.layout a.card.now.bytes.now (configured c.requires.beliefs c.requires.goals a.m a.plan.now) c.requires.ready a.i c.requires.may

pub revised_length-after-requires : goal.revised_length-after-requires
revised_length-after-requires c =
    let a = c.args in
    let r = c.revision-e.ensures in
    (rw r.0 (head_fits a.card.now.layout a.card.now.bytes.now (configured c.requires.beliefs c.requires.goals a.m a.plan.now) c.requires.ready a.i c.requires.may), c.requires.ready.fits, r.2)

pub returns-then-longest_plan-after : goal.returns-then-longest_plan-after
returns-then-longest_plan-after c = λ σ γ ready may.
    let a = c.args in
    let d = configured σ γ a.m a.plan.now in
    let e = c.revision-e.ensures.0 in
    let long : 1024 < c.revision-e.result.body.length + (a.m.length - c.revision-e.result.head.length) = omega arith in
    let t = revises_full a.card.now.layout a.card.now.bytes.now (configured σ γ a.m a.plan.now) ready a.i may (rw e at long) in
    (ap transition_of (sym t), ap (λ (x : Reached). configuration_after x d) (sym t))

pub replace_front-requires : goal.replace_front-requires
replace_front-requires c =
    let a = c.args in
    let e = c.revision-e.ensures.0 in
    let h : c.revision-e.result.head.length ≤ a.m.length = rw e (head_fits a.card.now.layout a.card.now.bytes.now (configured c.requires.beliefs c.requires.goals a.m a.plan.now) c.requires.ready a.i c.requires.may) in
    let k = revision_known a.card.now.layout a.card.now.bytes.now (configured c.requires.beliefs c.requires.goals a.m a.plan.now) c.requires.ready a.i c.requires.may in
    let g = subst (GoodSpan a.card.now.layout 0) (sym (ap (λ (x : RevisionEntry). x.body) e)) (c.requires.ready.card.revisions a.i k).body in
    let x = g.inside in
    let w = c.requires.ready.card.layout.ends in
    let f = c.requires.ready.fits in
    let at = c.pool_at.ensures in
    (h, f, omega arith, omega arith, c.requires.ready.zeros)

pub returns : goal.returns
unfolding plan configuration_of kind number
returns c = λ σ γ ready may.
    let a = c.args in
    let b = a.card.now.bytes.now in
    let d = configured σ γ a.m a.plan.now in
    let e = c.revision-e.ensures.0 in
    let short : c.revision-e.result.body.length + (a.m.length - c.revision-e.result.head.length) ≤ 1024 = omega arith in
    let t = revises_to a.card.now.layout a.card.now.bytes.now (configured σ γ a.m a.plan.now) ready a.i may (rw e at short) in
    let n = c.revised_length-after.ensures ∙ ap (λ (x : RevisionEntry). x.body.length + (a.m.length - x.head.length)) e ∙ sym (revised_length a.card.now.layout a.card.now.bytes.now (configured σ γ a.m a.plan.now) ready a.i may) in
    let moved = drop c.revision-e.result.head.length (take a.m.length a.plan.now) in
    let q = c.replace_front.ensures ∙ (λ j. padded (part b (c.pool_at.ensures j) c.revision-e.result.body.length ++ moved)) ∙ ap (λ (x : RevisionEntry). padded (plan a.card.now.layout b x.body ++ drop x.head.length (take a.m.length a.plan.now))) e in
    let f = finished_at_lem a.m.finished _ _ n in
    let r = c.taken.ensures in (
      ap (λ (x : Stepped). x.transition) r ∙ ap transition_of (sym t),
      (λ j. configured σ γ (r j).standing (q j)) ∙ (λ j. configured σ γ (record { length = n j; phase = 0; finished = f j }) (padded (plan a.card.now.layout b (revision_at a.card.now.layout b a.i).body ++ drop (revision_at a.card.now.layout b a.i).head.length (take a.m.length a.plan.now)))) ∙ ap (λ (x : Reached). configuration_after x d) (sym t),
    )
