use Rattle.card.proofs.Rows.{handed_on, row_passed, row_refused}
use Rattle.names.specs.Naming.{asked}
use Rattle.names.proofs.Naming.{few_actions, card_refuses, no_shed, no_master, last_asked}
use mathlib.Core.Path.{sym, ◌∙◌}
use Rattle.names.proofs.name.judge.Goals as goal

pub returns-in_err-l : goal.returns-in_err-l
returns-in_err-l c =
    let a = c.args in
    let f = c.from_residual in
    handed_on f.result _ f.ensures.1 ∙ card_refuses a.card.now (asked a.shed.now a.master.now a.action) _ (sym c.in_err-l.ensures)

pub shed_good-requires : goal.shed_good-requires
shed_good-requires c = few_actions c.args.card.now _ (sym c.in_ok-l.ensures)

pub returns-in_err-row : goal.returns-in_err-row
returns-in_err-row c =
    let a = c.args in
    let f = c.from_residual-in_err-row in
    row_refused f.result _ _ f.ensures.1 _ _ _ c.shed_good.ensures c.in_err-row.ensures
    (no_shed a.card.now (asked a.shed.now a.master.now a.action) _ (sym c.in_ok-l.ensures))

pub master_good-requires : goal.master_good-requires
master_good-requires c = few_actions c.args.card.now _ (sym c.in_ok-l.ensures)

pub returns-in_err-row-2 : goal.returns-in_err-row-2
returns-in_err-row-2 c =
    let a = c.args in
    let f = c.from_residual-in_err-row-2 in
    let shed = row_passed _ _ _ c.shed_good.ensures c.in_ok-row.ensures in
    row_refused f.result _ _ f.ensures.1 _ _ _ c.master_good.ensures c.in_err-row-2.ensures
    (no_master a.card.now (asked a.shed.now a.master.now a.action) _ (sym c.in_ok-l.ensures) shed)

pub returns : goal.returns
returns c =
    let a = c.args in
    let shed = row_passed _ _ _ c.shed_good.ensures c.in_ok-row.ensures in
    let master = row_passed _ _ _ c.master_good.ensures c.in_ok-row-2.ensures in
    last_asked a.card.now (asked a.shed.now a.master.now a.action) _ (sym c.in_ok-l.ensures) shed master c.row-3.result c.row-3.ensures
