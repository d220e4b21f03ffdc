use Rattle.lines.proofs.Saying.{line_at, select_nested, select_nested_2, select_over}
use Rattle.lines.specs.Lines.{condition_in}
use Rattle.notation.specs.Values.{condition_of}
use mathlib.Core.Path.{sym, ◌∙◌}
use lib.ListN.{drop}
use Rattle.lines.proofs.lines.read_select.Goals as goal

pub returns-in_err-belief : goal.returns-in_err-belief
returns-in_err-belief c =
    select_nested c.args.text.now c.args.at c.skip.result c.args.m c.args.card.now c.requires.0 c.skip.ensures c.from_residual.result c.from_residual.ensures.0 c.read_tree.new.card c.in_err-belief.ensures

pub skip-requires-2 : goal.skip-requires-2
skip-requires-2 c =
    (line_at condition_in c.args.text.now c.skip.result (condition_of (drop c.skip.result c.args.text.now)) c.args.m c.args.card.now c.in_ok-belief.belief.next c.in_ok-belief.belief.made c.read_tree.new.card c.in_ok-belief.ensures).0

pub read_tree-requires-2 : goal.read_tree-requires-2
read_tree-requires-2 c =
    (c.skip-2.ensures.2.0, (line_at condition_in c.args.text.now c.skip.result (condition_of (drop c.skip.result c.args.text.now)) c.args.m c.args.card.now c.in_ok-belief.belief.next c.in_ok-belief.belief.made c.read_tree.new.card c.in_ok-belief.ensures).2)

pub returns-in_err-goal : goal.returns-in_err-goal
returns-in_err-goal c =
    select_nested_2 c.args.text.now c.args.at c.skip.result c.args.m c.args.card.now c.requires.0 c.skip.ensures c.in_ok-belief.belief.next c.in_ok-belief.belief.made c.read_tree.new.card c.in_ok-belief.ensures c.skip-2.result c.skip-2.ensures c.from_residual-in_err-goal.result c.from_residual-in_err-goal.ensures.0 c.read_tree-2.new.card c.in_err-goal.ensures

pub last_in-node-requires : goal.last_in-node-requires
last_in-node-requires c =
    (line_at condition_in c.args.text.now c.skip.result (condition_of (drop c.skip.result c.args.text.now)) c.args.m c.args.card.now c.in_ok-belief.belief.next c.in_ok-belief.belief.made c.read_tree.new.card c.in_ok-belief.ensures).2.bounded.nodes

pub read_selected-requires : goal.read_selected-requires
read_selected-requires c =
    let r = line_at condition_in c.args.text.now c.skip-2.result (condition_of (drop c.skip-2.result c.args.text.now)) c.in_ok-belief.belief.made c.read_tree.new.card c.in_ok-goal.goal.next c.in_ok-goal.goal.made c.read_tree-2.new.card c.in_ok-goal.ensures in (r.0, r.2)

pub shape_of-card : goal.shape_of-card
shape_of-card c =
    c.read_selected.ensures.puts.held.room ∙ sym c.requires.1.room

pub returns : goal.returns
returns c =
    select_over c.args.text.now c.args.at c.skip.result c.args.m c.args.card.now c.requires.0 c.skip.ensures c.in_ok-belief.belief.next c.in_ok-belief.belief.made c.read_tree.new.card c.in_ok-belief.ensures c.skip-2.result c.skip-2.ensures c.in_ok-goal.goal.next c.in_ok-goal.goal.made c.read_tree-2.new.card c.in_ok-goal.ensures
    c.last_in-node.result c.last_in-node.ensures c.read_selected.result.next c.read_selected.result.made c.read_selected.new.card c.read_selected.ensures
