use Rattle.verdict.proofs.Offenders.{left_start, left_turn, left_bad, left_none}
use Rattle.meaning.specs.Card.{Bytes, weight, conditions, revision_at, revision_of, agent_of, agent_for}
use Rattle.runs.specs.Weight.{lowers}
use Rattle.runs.specs.declared.Verdict.{Verdict}
use Rattle.runs.specs.declared.Offender.{Offender}
use Rattle.paper.specs.Language.{𝐁, Revision}
use Rattle.meaning.specs.declared.Layout.{Layout}
use mathlib.Core.Path.{sym, ◌∙◌}
use Prim.Native.Nat.{ℕ}
use native.Mathlib.Omega.{arith}
use Rattle.verdict.proofs.grade.from_revisions.Goals as goal

-- revision rule i

abbrev rule : Layout → Bytes → ℕ → Revision
rule l b i = revision_of (conditions 𝐁 l b) l b (revision_at l b i)

pub loop-i-init : goal.loop-i-init
loop-i-init c = left_start _ _ _ _ _

pub returns-then-not-revision_lowers : goal.returns-then-not-revision_lowers
unfolding agent_for agent_of revision_of
returns-then-not-revision_lowers c =
    let a = c.args in
    let l = c.loop-i in
    let b = a.card.now.bytes.now in
    left_bad (lowers (weight b)) Offender.Revision (rule a.card.now.layout b) a.card.now.layout.revisions.count Verdict.Bounded l.i (omega arith) (sym c.revision_lowers.ensures ∙ c.if-not-revision_lowers.true) l.invariant

pub loop-i-preserved : goal.loop-i-preserved
unfolding agent_for agent_of revision_of
loop-i-preserved c =
    let a = c.args in
    let l = c.loop-i in
    let b = a.card.now.bytes.now in
    left_turn (lowers (weight b)) Offender.Revision (rule a.card.now.layout b) a.card.now.layout.revisions.count Verdict.Bounded l.i (omega arith) (sym c.revision_lowers.ensures ∙ c.if-not-revision_lowers.false) l.invariant

pub returns : goal.returns
unfolding agent_for agent_of revision_of
returns c =
    let a = c.args in
    let l = c.loop-i in
    let b = a.card.now.bytes.now in
    left_none (lowers (weight b)) Offender.Revision (rule a.card.now.layout b) a.card.now.layout.revisions.count Verdict.Bounded l.i (omega arith) l.invariant
