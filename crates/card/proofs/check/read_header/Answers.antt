-- the three rows of a header, in the table's order
use Rattle.card.specs.Rows.{HeaderRead}
use Rattle.card.proofs.Rows.{row_passed, row_kept_out}
use Rattle.card.proofs.Checked.{short_refused, mark_refused, header_refused, header_passed}
use Rattle.card.proofs.check.read_header.Goals as goal

pub returns-in_err-row : goal.returns-in_err-row
returns-in_err-row c =
    let f = c.from_residual in
    row_kept_out (HeaderRead c.args.card.now) f.result _ f.ensures.1 _ _ _ c.has_edition.ensures.0 c.in_err-row.ensures (short_refused c.args.card.now)

pub returns-in_err-row-2 : goal.returns-in_err-row-2
returns-in_err-row-2 c =
    let f = c.from_residual-in_err-row-2 in
    let edition = row_passed _ _ _ c.has_edition.ensures.0 c.in_ok-row.ensures in
    row_kept_out (HeaderRead c.args.card.now) f.result _ f.ensures.1 _ _ _ c.card_mark_good.ensures c.in_err-row-2.ensures (mark_refused c.args.card.now edition)

pub returns-in_err-row-3 : goal.returns-in_err-row-3
returns-in_err-row-3 c =
    let f = c.from_residual-in_err-row-3 in
    let edition = row_passed _ _ _ c.has_edition.ensures.0 c.in_ok-row.ensures in
    let mark = row_passed _ _ _ c.card_mark_good.ensures c.in_ok-row-2.ensures in
    row_kept_out (HeaderRead c.args.card.now) f.result _ f.ensures.1 _ _ _ c.long_enough.ensures.0 c.in_err-row-3.ensures
    (header_refused c.args.card.now edition mark)

pub returns : goal.returns
returns c = (
  c.read_layout.ensures.0,
  c.read_layout.ensures.1,
  header_passed c.args.card.now (row_passed _ _ _ c.has_edition.ensures.0 c.in_ok-row.ensures)
      (row_passed _ _ _ c.card_mark_good.ensures c.in_ok-row-2.ensures)
      (row_passed _ _ _ c.long_enough.ensures.0 c.in_ok-row-3.ensures),
)
