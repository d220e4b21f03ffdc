use Rattle.std.specs.Prelude.{Ok}
use Rattle.card.specs.Rows.{answer_of}
use Rattle.meaning.proofs.Calls.{good_judged, refused_judged, grades_good, grades_refused}
use Rattle.meaning.specs.Configurations.{empty}
use Rattle.meaning.specs.Calls.{grades}
use Rattle.runs.specs.declared.Verdict.{Verdict}
use Rattle.runs.specs.declared.Offender.{Offender}
use mathlib.Core.Path.{sym, ap, ◌∙◌}
use Rattle.verdict.proofs.grade.grade.Goals as goal

pub returns-in_default : goal.returns-in_default
returns-in_default c =
    let b = c.args.card.now in
    let e = refused_judged b _ c.in_default.ensures in
    (λ i. record { answer = (c.answer_of.ensures ∙ ap answer_of c.in_default.is) i; verdict = Verdict.Open Offender.InitialPlan; configuration = empty })
    ∙ sym (grades_refused b _ e)

pub judge-requires : goal.judge-requires
judge-requires c = c.in-Ok.ensures.good

pub returns : goal.returns
returns c =
    let told = c.in-Ok.ensures in
    let b = c.in-Ok.card.bytes.now in
    (λ i. record { answer = Ok tt; verdict = c.judge.ensures i; configuration = empty })
    ∙ sym (grades_good b (good_judged b _ told.checked).0)
    ∙ ap grades told.same
