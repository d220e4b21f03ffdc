use Rattle.meaning.specs.Card.{Bytes}
use Rattle.notation.specs.Printing.{Prints}
use Rattle.door.specs.InPlace.{written_by}
use Rattle.door.proofs.Written.{handed_written}
use Rattle.printer.proofs.Answers.{card_refused, no_such_node, such_node, node_printed}
use mathlib.Core.Path.{subst}
use Rattle.printer.proofs.print.print_any.Goals as goal

pub returns-in_err-card : goal.returns-in_err-card
returns-in_err-card c =
    let a = c.args in
    handed_written (λ w. Prints a.card.now a.node a.out.now w.answer w.count a.out.now) _ _ c.from_residual.ensures.1
    (card_refused a.card.now a.node a.out.now _ c.in_err-card.ensures)

pub returns-in_err-row : goal.returns-in_err-row
returns-in_err-row c =
    let a = c.args in
    let told = c.in_ok-card.ensures in
    let r = written_by c.from_residual-in_err-row.result in
    subst (λ (b : Bytes). Prints b a.node a.out.now r.answer r.count a.out.now) told.same
    (handed_written (λ w. Prints c.in_ok-card.card.bytes.now a.node a.out.now w.answer w.count a.out.now) _ _ c.from_residual-in_err-row.ensures.1
    (no_such_node c.in_ok-card.card.bytes.now a.node a.out.now _ told.checked _ c.in_err-row.ensures))

pub print_node-requires : goal.print_node-requires
print_node-requires c =
    let a = c.args in
    let told = c.in_ok-card.ensures in
    (told.good, such_node c.in_ok-card.card.bytes.now a.node a.out.now _ told.checked c.in_ok-row.ensures)

pub returns : goal.returns
returns c =
    let a = c.args in
    let told = c.in_ok-card.ensures in
    let r = c.print_node in
    subst (λ (b : Bytes). Prints b a.node a.out.now (written_by r.result).answer (written_by r.result).count r.new.out) told.same
    (node_printed c.in_ok-card.card.bytes.now a.node a.out.now _ told.checked c.in_ok-row.ensures _ _ _ r.ensures)
