use Rattle.meaning.specs.Calls.{loads}
use Rattle.card.specs.Rows.{answer_of}
use Rattle.place.proofs.Laws.{load_card_refused, load_good}
use mathlib.Core.Path.{ap, ◌∙◌}
use borrow.Author.Rules.{rules}
use Rattle.place.proofs.load.load.Goals as goal

pub returns-in_default : goal.returns-in_default
returns-in_default c =
    load_card_refused c.args.card.now _ c.in_default.ensures _ (c.answer_of.ensures ∙ ap answer_of c.in_default.is) _ c.set_empty-none.ensures

pub first-m-requires : goal.first-m-requires
first-m-requires c = (c.in-Ok.ensures.good, search rules)

pub returns : goal.returns
returns c =
    let told = c.in-Ok.ensures in
    load_good _ _ told.checked _ c.first-m.ensures ∙ ap loads told.same
