use Rattle.lines.proofs.Saying.{begin_over}
use Rattle.lines.proofs.lines.read_begin.Goals as goal

pub returns : goal.returns
returns c =
    begin_over c.args.text.now c.args.at c.skip.result c.skip-2.result c.read_set-b.result c.read_set-g.result c.args.m c.args.card.now c.requires.0 c.skip.ensures c.read_set-b.ensures c.skip-2.ensures c.read_set-g.ensures
    c.read_start.result.next c.read_start.result.made c.read_start.new.card c.read_start.ensures
