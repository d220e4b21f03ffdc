-- each row of the table in its order
use Rattle.card.specs.Rows.{row_answer}
use Rattle.card.proofs.Rows.{row_passed, row_refused}
use Rattle.meaning.specs.declared.Refusal.{Refusal}
use Rattle.place.proofs.Judging.{no_edition, no_mark, no_header, no_counts, no_offsets, no_plan, last_asked}
use mathlib.Core.Path.{ap, ◌∙◌}
use Rattle.place.proofs.judge.judge_place.Goals as goal

pub returns-in_err-row : goal.returns-in_err-row
returns-in_err-row c =
    row_refused c.from_residual.result _ _ c.from_residual.ensures.1 _ _ _ c.has_edition.ensures.0 c.in_err-row.ensures (no_edition c.args.l c.args.p.now)

pub returns-in_err-row-2 : goal.returns-in_err-row-2
returns-in_err-row-2 c =
    let edition = row_passed _ _ _ c.has_edition.ensures.0 c.in_ok-row.ensures in
    row_refused c.from_residual-in_err-row-2.result _ _ c.from_residual-in_err-row-2.ensures.1 _ _ _ c.place_mark_good.ensures c.in_err-row-2.ensures (no_mark c.args.l c.args.p.now edition)

pub returns-in_err-row-3 : goal.returns-in_err-row-3
returns-in_err-row-3 c =
    let edition = row_passed _ _ _ c.has_edition.ensures.0 c.in_ok-row.ensures in
    let mark = row_passed _ _ _ c.place_mark_good.ensures c.in_ok-row-2.ensures in
    row_refused c.from_residual-in_err-row-3.result _ _ c.from_residual-in_err-row-3.ensures.1 _ _ _ c.length_good.ensures c.in_err-row-3.ensures (no_header c.args.l c.args.p.now edition mark)

pub returns-in_err-row-4 : goal.returns-in_err-row-4
returns-in_err-row-4 c =
    let edition = row_passed _ _ _ c.has_edition.ensures.0 c.in_ok-row.ensures in
    let mark = row_passed _ _ _ c.place_mark_good.ensures c.in_ok-row-2.ensures in
    let header = row_passed _ _ _ c.length_good.ensures c.in_ok-row-3.ensures in
    row_refused c.from_residual-in_err-row-4.result _ _ c.from_residual-in_err-row-4.ensures.1 _ _ _ c.counts_good.ensures c.in_err-row-4.ensures (no_counts c.args.l c.args.p.now edition mark header)

pub returns-in_err-row-5 : goal.returns-in_err-row-5
returns-in_err-row-5 c =
    let edition = row_passed _ _ _ c.has_edition.ensures.0 c.in_ok-row.ensures in
    let mark = row_passed _ _ _ c.place_mark_good.ensures c.in_ok-row-2.ensures in
    let header = row_passed _ _ _ c.length_good.ensures c.in_ok-row-3.ensures in
    let counts = row_passed _ _ _ c.counts_good.ensures c.in_ok-row-4.ensures in
    row_refused c.from_residual-in_err-row-5.result _ _ c.from_residual-in_err-row-5.ensures.1 _ _ _ c.offsets_good.ensures c.in_err-row-5.ensures (no_offsets c.args.l c.args.p.now edition mark header counts)

pub returns-in_err-row-6 : goal.returns-in_err-row-6
returns-in_err-row-6 c =
    let edition = row_passed _ _ _ c.has_edition.ensures.0 c.in_ok-row.ensures in
    let mark = row_passed _ _ _ c.place_mark_good.ensures c.in_ok-row-2.ensures in
    let header = row_passed _ _ _ c.length_good.ensures c.in_ok-row-3.ensures in
    let counts = row_passed _ _ _ c.counts_good.ensures c.in_ok-row-4.ensures in
    let offsets = row_passed _ _ _ c.offsets_good.ensures c.in_ok-row-5.ensures in
    row_refused c.from_residual-in_err-row-6.result _ _ c.from_residual-in_err-row-6.ensures.1 _ _ _ c.plan_good.ensures c.in_err-row-6.ensures (no_plan c.args.l c.args.p.now edition mark header counts offsets)

pub returns : goal.returns
returns c =
    let edition = row_passed _ _ _ c.has_edition.ensures.0 c.in_ok-row.ensures in
    let mark = row_passed _ _ _ c.place_mark_good.ensures c.in_ok-row-2.ensures in
    let header = row_passed _ _ _ c.length_good.ensures c.in_ok-row-3.ensures in
    let counts = row_passed _ _ _ c.counts_good.ensures c.in_ok-row-4.ensures in
    let offsets = row_passed _ _ _ c.offsets_good.ensures c.in_ok-row-5.ensures in
    let plan = row_passed _ _ _ c.plan_good.ensures c.in_ok-row-6.ensures in
    last_asked c.args.l c.args.p.now edition mark header counts offsets plan c.row-7.result (c.row-7.ensures ∙ ap (λ t. row_answer t Refusal.Atom) c.sets_good.ensures)
