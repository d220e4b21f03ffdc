use Rattle.meaning.specs.Calls.{loads}
use Rattle.card.specs.Rows.{answer_of}
use Rattle.plain.proofs.Loading.{load_refused, load_done}
use mathlib.Core.Path.{ap, ◌∙◌}
use Rattle.plain.proofs.load.load.Goals as goal

pub returns-in_default : goal.returns-in_default
returns-in_default c =
    load_refused c.args.card.now _ _ c.pack.ensures _ c.in_default.ensures _ (c.answer_of.ensures ∙ ap answer_of c.in_default.is) c.nothing.ensures

pub first-requires : goal.first-requires
first-requires c = c.in-Ok.ensures.good

pub returns : goal.returns
returns c =
    let told = c.in-Ok.ensures in
    load_done _ _ _ c.pack-2.ensures _ told.checked c.first.ensures ∙ ap loads told.same
