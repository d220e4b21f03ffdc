use Rattle.verdict.proofs.Offenders.{left_start, left_turn, left_bad, left_none}
use Rattle.meaning.specs.Card.{Bytes, weight, conditions, selection_at, selection_of, agent_of, agent_for}
use Rattle.runs.specs.Weight.{light}
use Rattle.runs.specs.declared.Offender.{Offender}
use Rattle.paper.specs.Language.{𝐁, 𝐆, Selection}
use Rattle.verdict.specs.Verdicts.{revisions_verdict}
use Rattle.meaning.specs.declared.Layout.{Layout}
use mathlib.Core.Path.{sym, ◌∙◌}
use Prim.Native.Nat.{ℕ}
use native.Mathlib.Omega.{arith}
use Rattle.verdict.proofs.grade.from_selections.Goals as goal

-- selection rule i

abbrev rule : Layout → Bytes → ℕ → Selection
rule l b i = selection_of (conditions 𝐁 l b) (conditions 𝐆 l b) l b (selection_at l b i)

pub loop-i-init : goal.loop-i-init
loop-i-init c = left_start _ _ _ _ _

pub returns-then-not-selection_light : goal.returns-then-not-selection_light
unfolding agent_for agent_of selection_of
returns-then-not-selection_light c =
    let a = c.args in
    let l = c.loop-i in
    let b = a.card.now.bytes.now in
    left_bad (λ x. light (weight b) x.π) Offender.Selection (rule a.card.now.layout b) a.card.now.layout.selections.count (revisions_verdict a.card.now.layout b) l.i (omega arith) (sym c.selection_light.ensures ∙ c.if-not-selection_light.true) l.invariant

pub loop-i-preserved : goal.loop-i-preserved
unfolding agent_for agent_of selection_of
loop-i-preserved c =
    let a = c.args in
    let l = c.loop-i in
    let b = a.card.now.bytes.now in
    left_turn (λ x. light (weight b) x.π) Offender.Selection (rule a.card.now.layout b) a.card.now.layout.selections.count (revisions_verdict a.card.now.layout b) l.i (omega arith) (sym c.selection_light.ensures ∙ c.if-not-selection_light.false) l.invariant

pub returns : goal.returns
unfolding agent_for agent_of selection_of
returns c =
    let a = c.args in
    let l = c.loop-i in
    let b = a.card.now.bytes.now in
    c.from_revisions.ensures ∙ left_none (λ x. light (weight b) x.π) Offender.Selection (rule a.card.now.layout b) a.card.now.layout.selections.count (revisions_verdict a.card.now.layout b) l.i (omega arith) l.invariant
