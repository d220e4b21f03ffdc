-- What a plan of a card weighs, and the verdict on its rules, from the selection rules and from the revision rules on.
use Rattle.std.specs.Prelude.{ℕ}
use Rattle.runs.specs.declared.Offender.{Offender}
use Rattle.runs.specs.declared.Verdict.{Verdict}
use Rattle.runs.specs.Weight.{weigh, first_offender, light, lowers}
use Rattle.meaning.specs.declared.Span.{Span}
use Rattle.meaning.specs.declared.Layout.{Layout}
use Rattle.meaning.specs.declared.Configuration.{Configuration}
use Rattle.meaning.specs.declared.Graded.{Graded}
use Rattle.meaning.specs.Card.{Bytes, weight, plan, agent_for}
use Rattle.verdict.specs.declared.grade.GradedInPlace.{GradedInPlace}

-- 01, "Weight and grading": "A plan weighs the sum of its actions"
abbrev pub plan_weight : Layout → Bytes → Span → ℕ
plan_weight l b s = weigh (weight b) (plan l b s)

-- 01, "Weight and grading": "the first offender: … then revision rule n"
abbrev pub revisions_verdict : Layout → Bytes → Verdict
revisions_verdict l b = first_offender (lowers (weight b)) Offender.Revision 0 (agent_for l b).PR Verdict.Bounded

-- 01, "Weight and grading": "the first offender: … then selection rule n, then revision rule n, in that order"
abbrev pub selections_verdict : Layout → Bytes → Verdict
selections_verdict l b = first_offender (λ r. light (weight b) r.π) Offender.Selection 0 (agent_for l b).PS (revisions_verdict l b)

-- What grading answers, with a configuration beside it.
abbrev pub graded_with : GradedInPlace → Configuration → Graded
graded_with r c = record { answer = r.answer; verdict = r.verdict; configuration = c }
