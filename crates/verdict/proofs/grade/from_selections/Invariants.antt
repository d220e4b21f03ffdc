use Rattle.verdict.proofs.Offenders.{Left}
use Rattle.meaning.specs.Card.{Bytes, weight, conditions, selection_at, selection_of}
use Rattle.runs.specs.Weight.{light}
use Rattle.runs.specs.declared.Offender.{Offender}
use Rattle.paper.specs.Language.{𝐁, 𝐆, Selection}
use Rattle.verdict.specs.Verdicts.{revisions_verdict}
use Rattle.meaning.specs.declared.Layout.{Layout}
use Prim.Native.Nat.{ℕ}
use Rattle.verdict.proofs.grade.from_selections.Given as goal

-- selection rule i

abbrev rule : Layout → Bytes → ℕ → Selection
rule l b i = selection_of (conditions 𝐁 l b) (conditions 𝐆 l b) l b (selection_at l b i)

abbrev pub invariant-loop-i : goal.invariant-loop-i
invariant-loop-i l = Left (λ x. light (weight l.card.bytes.now) x.π) Offender.Selection (rule l.card.layout l.card.bytes.now) l.card.layout.selections.count (revisions_verdict l.card.layout l.card.bytes.now) l.i
