use Rattle.layout.proofs.GoodLayout.{counted}
use Rattle.meaning.specs.Calls.{restores}
use Rattle.card.specs.Rows.{answer_of}
use Rattle.place.proofs.Laws.{sized, restore_card_refused, restore_good, restore_refused}
use mathlib.Core.Path.{sym, ap, ◌∙◌}
use borrow.Author.Rules.{rules}
use Rattle.place.proofs.restore.restore.Goals as goal

pub returns-in_default : goal.returns-in_default
returns-in_default c =
    let a = c.args in
    restore_card_refused a.card.now _ c.in_default.ensures _ (c.answer_of.ensures ∙ ap answer_of c.in_default.is) a.p.now _ c.set_empty-none.ensures

pub judge_place-a-requires : goal.judge_place-a-requires
judge_place-a-requires c = counted _ _ c.in-Ok.card.good

pub returns-in_default-a : goal.returns-in_default-a
returns-in_default-a c =
    let p = c.args.p.now in
    let told = c.in-Ok.ensures in
    restore_refused _ _ told.checked p _ _ _ c.in_default-a.is c.judge_place-a.ensures c.set_empty-none-in_default-a.ensures
    ∙ ap (λ b. restores b p) told.same

pub read-m-requires : goal.read-m-requires
read-m-requires c = (sized _ _ (sym c.judge_place-a.ensures ∙ c.in-Ok-a.is), search rules)

pub returns : goal.returns
returns c =
    let p = c.args.p.now in
    let told = c.in-Ok.ensures in
    let done = sym c.judge_place-a.ensures ∙ c.in-Ok-a.is in
    restore_good _ _ told.checked p _ done c.read-m.ensures
    ∙ ap (λ b. restores b p) told.same
