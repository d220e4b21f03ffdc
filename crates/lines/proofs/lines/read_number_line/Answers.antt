use Rattle.lines.proofs.Saying.{atoms_over, action_over}
use mathlib.Core.Path.{sym, ◌∙◌}
use Rattle.lines.proofs.lines.read_number_line.Goals as goal

pub returns-then-second-eq116 : goal.returns-then-second-eq116
returns-then-second-eq116 c =
    atoms_over c.args.text.now c.args.at c.args.m c.args.card.now c.requires.1 (sym c.second_byte-second.ensures ∙ c.if-second-eq116.true) c.read_atoms.result c.read_atoms.ensures

pub returns-else-second-eq116 : goal.returns-else-second-eq116
returns-else-second-eq116 c =
    action_over c.args.text.now c.args.at c.args.m c.args.card.now c.requires.1 (λ e. c.if-second-eq116.false (c.second_byte-second.ensures ∙ e)) c.read_action.result.next c.read_action.result.made c.read_action.new.card c.read_action.ensures
