use Rattle.verdict.proofs.Offenders.{Left}
use Rattle.meaning.specs.Card.{Bytes, weight, conditions, revision_at, revision_of}
use Rattle.runs.specs.Weight.{lowers}
use Rattle.runs.specs.declared.Verdict.{Verdict}
use Rattle.runs.specs.declared.Offender.{Offender}
use Rattle.paper.specs.Language.{𝐁, Revision}
use Rattle.meaning.specs.declared.Layout.{Layout}
use Prim.Native.Nat.{ℕ}
use Rattle.verdict.proofs.grade.from_revisions.Given as goal

-- revision rule i

abbrev rule : Layout → Bytes → ℕ → Revision
rule l b i = revision_of (conditions 𝐁 l b) l b (revision_at l b i)

abbrev pub invariant-loop-i : goal.invariant-loop-i
invariant-loop-i l = Left (lowers (weight l.card.bytes.now)) Offender.Revision (rule l.card.layout l.card.bytes.now) l.card.layout.revisions.count Verdict.Bounded l.i
