use Rattle.lines.proofs.Whole.{line_number, line_do, line_select, line_revise, line_begin, line_note}
use lib.ListN.{get_or}
use native.Mathlib.Omega.{arith}
use Rattle.lines.proofs.lines.read_line.Goals as goal

pub returns-in-97 : goal.returns-in-97
returns-in-97 c =
    line_number c.args.text.now c.args.at c.args.m c.args.card.now c.read_number_line.result c.read_number_line.new.card (get_or c.args.text.now c.args.at 0) c.in-97.is c.read_number_line.ensures

pub returns-in-100 : goal.returns-in-100
returns-in-100 c =
    line_do c.args.text.now c.args.at c.args.m c.args.card.now c.read_do.result c.read_do.new.card (get_or c.args.text.now c.args.at 0) c.in-100.is c.read_do.ensures

pub returns-in-115 : goal.returns-in-115
returns-in-115 c =
    line_select c.args.text.now c.args.at c.args.m c.args.card.now c.read_select.result c.read_select.new.card (get_or c.args.text.now c.args.at 0) c.in-115.is c.read_select.ensures

pub returns-in-114 : goal.returns-in-114
returns-in-114 c =
    line_revise c.args.text.now c.args.at c.args.m c.args.card.now c.read_revise.result c.read_revise.new.card (get_or c.args.text.now c.args.at 0) c.in-114.is c.read_revise.ensures

pub returns-in-98 : goal.returns-in-98
returns-in-98 c =
    line_begin c.args.text.now c.args.at c.args.m c.args.card.now c.read_begin.result c.read_begin.new.card (get_or c.args.text.now c.args.at 0) c.in-98.is c.read_begin.ensures

pub returns-in_default : goal.returns-in_default
returns-in_default c =
    line_note c.args.text.now c.args.at c.behind_line.result c.args.m c.args.card.now c.requires.1 c.requires.0 c.behind_line.ensures (get_or c.args.text.now c.args.at 0)
    (omega arith) (omega arith) (omega arith) (omega arith) (omega arith)
