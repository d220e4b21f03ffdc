use Rattle.deliberate.specs.InPlace.{Admits}
use Rattle.meaning.specs.Card.{Bytes}
use Rattle.card.specs.Rows.{answer_of}
use Rattle.deliberate.proofs.Calling.{admits, admits_not}
use mathlib.Core.Path.{ap, ◌∙◌, subst}
use Rattle.deliberate.proofs.call.check_program.Goals as goal

pub returns-in_default : goal.returns-in_default
returns-in_default c =
    let a = c.args in
    admits_not a.card.now a.program.now _ c.in_default.ensures c.answer_of.result (c.answer_of.ensures ∙ ap answer_of c.in_default.is)

pub judge_program-requires : goal.judge_program-requires
judge_program-requires c = c.in-Ok.ensures.good

pub returns : goal.returns
returns c =
    let p = c.args.program.now in
    let told = c.in-Ok.ensures in
    let j = c.judge_program in
    subst (λ (b : Bytes). Admits b p j.result) told.same (admits _ p _ told.checked j.result j.ensures)
