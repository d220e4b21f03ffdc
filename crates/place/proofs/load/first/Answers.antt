use Rattle.meaning.proofs.Parts.{length_part}
use Rattle.meaning.specs.Configurations.{padded, configuration_of}
use Rattle.meaning.specs.Card.{part, plan, initial_plan, start, initial_beliefs, initial_goals}
use Rattle.meaning.specs.declared.Layout.{Layout}
use Rattle.paper.specs.Transitions.{struck_by}
use mathlib.Core.Path.{◌≡◌, sym, ap, ◌∙◌}
use Prim.Native.Nat.{◌+◌}
use native.Mathlib.Omega.{arith}
use lib.ListN.{length}
use Rattle.place.proofs.load.first.Goals as goal

pub returns : goal.returns
unfolding configuration_of start plan initial_plan
returns c =
    let a = c.args in
    let b = a.card.now.bytes.now in
    let p = c.requires.0 in
    let d = p.layout in
    let g = p.initial in
    let at = a.card.now.layout.pool.offset + a.card.now.layout.initial.start in
    let π : part b at a.card.now.layout.initial.length ≡ initial_plan b = ap (λ (x : Layout). plan x b x.initial) d.says in
    let n : a.card.now.layout.initial.length ≡ length (initial_plan b) = sym (length_part b at a.card.now.layout.initial.length (omega arith)) ∙ ap length π in
    let σ = c.initial_beliefs-believed.ensures ∙ ap (λ (x : Layout). initial_beliefs x b) d.says in
    let γ = c.difference.ensures ∙ (λ i. struck_by (σ i) ((c.initial_goals.ensures ∙ ap (λ (x : Layout). initial_goals x b) d.says) i)) in
    let q = c.fill.ensures ∙ ap padded ((λ i. part b (c.pool_at-at.ensures i) a.card.now.layout.initial.length) ∙ π) in
    λ i. record { mind = record { beliefs = σ i; goals = γ i; length = n i; phase = 0; finished = 0 }; plan = q i }
