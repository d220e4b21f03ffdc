use Rattle.lines.proofs.Numbered.{second_none}
use Rattle.lines.proofs.lines.second_byte.Goals as goal

pub returns-then-text-at-lt2 : goal.returns-then-text-at-lt2
returns-then-text-at-lt2 c =
    second_none c.args.text.now c.args.at c.requires c.if-text-at-lt2.true
