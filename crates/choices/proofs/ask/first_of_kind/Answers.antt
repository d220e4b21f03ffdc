use Rattle.paper.specs.Language.{Config}
use Rattle.door.specs.Asking.{choice_at}
use Rattle.meaning.specs.Card.{agent_for}
use Rattle.meaning.specs.Configurations.{state_of}
use Rattle.runs.specs.Kinds.{kind_number}
use Rattle.layout.specs.PlaceParts.{configured}
use Rattle.layout.specs.Entries.{count_of}
use Rattle.door.proofs.First.{left_turn, found_of_kind, none_of_kind}
use mathlib.Core.Path.{sym, ◌∙◌}
use native.Mathlib.Omega.{arith}
use Rattle.choices.proofs.ask.first_of_kind.Goals as goal

pub returns-then-is_enabled : goal.returns-then-is_enabled
returns-then-is_enabled c = λ σ γ j.
    let a = c.args in
    let l = c.loop-number in
    let s : Config = (state_of (configured σ γ a.m a.plan.now)).mental in
    found_of_kind a.card.now.layout a.card.now.bytes.now s a.kind l.number (omega (arith, c.loop-number-test.true)) (sym (c.is_enabled.ensures σ γ j) ∙ c.if-is_enabled.true) (l.invariant σ γ j)

pub loop-number-preserved : goal.loop-number-preserved
loop-number-preserved c =
    let a = c.args in
    let l = c.loop-number in
    let A = agent_for a.card.now.layout a.card.now.bytes.now in
    λ σ γ j. left_turn A (state_of (configured σ γ a.m a.plan.now)).mental (choice_at (kind_number a.kind)) (count_of a.card.now.layout (kind_number a.kind)) l.number (omega arith) (sym (c.is_enabled.ensures σ γ j) ∙ c.if-is_enabled.false) (l.invariant σ γ j)

pub returns : goal.returns
returns c = λ σ γ j.
    let a = c.args in
    let l = c.loop-number in
    none_of_kind a.card.now.layout a.card.now.bytes.now (state_of (configured σ γ a.m a.plan.now)).mental a.kind l.number (omega arith) (l.invariant σ γ j)
