use Rattle.lines.proofs.Saying.{line_at, do_nested, do_over}
use Rattle.lines.specs.Lines.{condition_in}
use Rattle.notation.specs.Values.{condition_of}
use lib.ListN.{drop}
use Rattle.lines.proofs.lines.read_do.Goals as goal

pub returns-in_err-asked : goal.returns-in_err-asked
returns-in_err-asked c =
    do_nested c.args.text.now c.args.at c.skip.result c.read_number-action.result c.skip-2.result c.args.m c.args.card.now c.requires.0 c.skip.ensures c.read_number-action.ensures c.skip-2.ensures c.from_residual.result c.from_residual.ensures.0 c.read_tree.new.card c.in_err-asked.ensures

pub read_effects-requires : goal.read_effects-requires
read_effects-requires c =
    let r = line_at condition_in c.args.text.now c.skip-2.result (condition_of (drop c.skip-2.result c.args.text.now)) c.args.m c.args.card.now c.in_ok-asked.asked.next c.in_ok-asked.asked.made c.read_tree.new.card c.in_ok-asked.ensures in (r.0, r.2)

pub returns : goal.returns
returns c =
    do_over c.args.text.now c.args.at c.skip.result c.read_number-action.result c.skip-2.result c.args.m c.args.card.now c.requires.0 c.skip.ensures c.read_number-action.ensures c.skip-2.ensures c.in_ok-asked.asked.next c.in_ok-asked.asked.made c.read_tree.new.card c.in_ok-asked.ensures
    c.read_effects.result.next c.read_effects.result.made c.read_effects.new.card c.read_effects.ensures
