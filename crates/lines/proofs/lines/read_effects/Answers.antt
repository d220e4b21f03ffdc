use Rattle.lines.proofs.Saying.{effects_steps}
use Rattle.lines.proofs.lines.read_effects.Goals as goal

pub returns : goal.returns
returns c =
    effects_steps c.args.text.now c.args.at c.skip.result c.skip-2.result c.read_set-add.result c.read_set-del.result c.behind_line.result c.args.action c.args.m c.args.card.now c.requires.1 c.specify.result c.specify.new.card
    c.skip.ensures c.read_set-add.ensures c.skip-2.ensures c.read_set-del.ensures c.behind_line.ensures c.specify.ensures
