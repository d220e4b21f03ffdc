use Rattle.lines.proofs.Saying.{weight_not, weight_steps}
use Rattle.lines.proofs.lines.read_action.Goals as goal

pub returns-then-n-gt65535 : goal.returns-then-n-gt65535
returns-then-n-gt65535 c =
    weight_not c.args.text.now c.args.at c.skip.result c.read_number-n.result c.behind_line-next.result c.args.m c.requires.0 c.args.card.now c.requires.1 c.skip.ensures c.read_number-n.ensures c.behind_line-next.ensures c.if-n-gt65535.true c.too_large.result c.too_large.ensures

pub returns : goal.returns
returns c =
    weight_steps c.args.text.now c.args.at c.skip.result c.read_number-n.result c.behind_line-next.result c.args.m c.requires.0 c.args.card.now c.requires.1 c.skip.ensures c.read_number-n.ensures c.behind_line-next.ensures c.if-n-gt65535.false c.put_weight.result c.put_weight.new.card c.put_weight.ensures
