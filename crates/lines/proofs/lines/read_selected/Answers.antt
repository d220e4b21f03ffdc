use Rattle.lines.proofs.Saying.{selected_steps}
use mathlib.Core.Path.{◌∙◌}
use Prim.Native.Nat.{◌-◌}
use Rattle.lines.proofs.lines.read_selected.Goals as goal

pub returns : goal.returns
returns c =
    selected_steps c.args.text.now c.args.at c.skip.result c.plan_in-plan.result.next c.args.m c.args.card.now c.requires.1 c.plan_in-plan.result.made c.plan_in-plan.new.card c.behind_line.result c.put_selection.result c.put_selection.new.card
    c.args.belief c.last_in.result c.pool_size-start.result c.saturating_sub-len.result c.skip.ensures c.plan_in-plan.ensures c.behind_line.ensures c.last_in.ensures c.pool_size-start.ensures (c.saturating_sub-len.ensures ∙ (λ i. c.pool_size.ensures i - c.pool_size-start.ensures i)) c.put_selection.ensures
