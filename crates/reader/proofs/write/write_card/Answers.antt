use mathlib.Core.Path.{ap}
use mathlib.Core.List.{◌++◌}
use lib.ListN.{length, drop}
use Rattle.door.proofs.Written.{handed_written}
use Rattle.reader.specs.Written.{WroteCard}
use Rattle.reader.proofs.Writing.{card_refused, room_refused, card_written}
use Rattle.reader.proofs.write.write_card.Goals as goal

-- rows 1 to 9
pub returns-in_err-check : goal.returns-in_err-check
returns-in_err-check c =
    let a = c.args in
    handed_written (λ w. WroteCard a.card.now a.out.now w a.out.now) _ _ c.from_residual.ensures.1 (card_refused a.card.now a.out.now _ c.in_err-check.ensures)

-- row 12: nothing is written
pub returns-in_err-judge_room : goal.returns-in_err-judge_room
returns-in_err-judge_room c =
    let a = c.args in
    handed_written (λ w. WroteCard a.card.now a.out.now w a.out.now) _ _ c.from_residual-in_err-judge_room.ensures.1
    (room_refused a.card.now a.out.now _ c.in_ok-check.ensures _ c.in_err-judge_room.ensures)

pub returns : goal.returns
returns c =
    let a = c.args in
    card_written a.card.now a.out.now _ c.in_ok-check.ensures c.in_ok-judge_room.ensures _
    (ap (λ x. x ++ drop (length a.card.now) a.out.now) c.copy_from_slice.ensures.after)
