use Rattle.verdict.specs.Verdicts.{selections_verdict}
use Rattle.verdict.proofs.Weights.{weighable}
use Rattle.verdict.proofs.Offenders.{verdict_light, verdict_heavy}
use Rattle.meaning.specs.Card.{weight, plan, agent, layout, initial_plan}
use Rattle.meaning.specs.declared.Layout.{Layout}
use Rattle.runs.specs.Weight.{weigh}
use mathlib.Core.Path.{◌≡◌, sym, ap, ◌∙◌}
use Prim.Native.Nat.{◌≤◌, ◌<◌}
use native.Mathlib.Omega.{arith}
use Rattle.verdict.proofs.grade.from_initial.Goals as goal

pub plan_weight-requires : goal.plan_weight-requires
plan_weight-requires c =
    let a = c.args in
    let p = c.requires in
    record { weighable = (weighable a.card.now.layout a.card.now.bytes.now p.0 _ c.header_bytes.ensures.0, p.1); length_bound = p.0.initial.inside }

pub returns-then-plan_weight-heaviest_plan : goal.returns-then-plan_weight-heaviest_plan
unfolding agent initial_plan plan
returns-then-plan_weight-heaviest_plan c =
    let a = c.args in
    let b = a.card.now.bytes.now in
    let w = weight b in
    let says : a.card.now.layout ≡ layout b = c.requires.0.layout.says in
    let π : plan a.card.now.layout b a.card.now.layout.initial ≡ initial_plan b = ap (λ (x : Layout). plan x b x.initial) says in
    let e : weigh w (initial_plan b) ≤ 1024 = rw (← π, ← c.plan_weight.ensures) (omega arith) in
    c.from_selections.ensures
    ∙ ap (λ (x : Layout). selections_verdict x b) says
    ∙ sym (verdict_light w (agent b) (initial_plan b) e)

pub returns-else-plan_weight-heaviest_plan : goal.returns-else-plan_weight-heaviest_plan
unfolding agent initial_plan plan
returns-else-plan_weight-heaviest_plan c =
    let a = c.args in
    let b = a.card.now.bytes.now in
    let w = weight b in
    let says : a.card.now.layout ≡ layout b = c.requires.0.layout.says in
    let π : plan a.card.now.layout b a.card.now.layout.initial ≡ initial_plan b = ap (λ (x : Layout). plan x b x.initial) says in
    let e : 1024 < weigh w (initial_plan b) = rw (← π, ← c.plan_weight.ensures) (omega arith) in
    sym (verdict_heavy w (agent b) (initial_plan b) e)
