use Rattle.lines.proofs.Saying.{body_steps}
use mathlib.Core.Path.{◌∙◌}
use Prim.Native.Nat.{◌-◌}
use Rattle.lines.proofs.lines.read_body.Goals as goal

pub returns : goal.returns
returns c =
    body_steps c.args.text.now c.args.at c.skip.result c.plan_in-plan.result.next c.args.m c.args.card.now c.requires.1 c.plan_in-plan.result.made c.plan_in-plan.new.card c.behind_line.result c.put_revision.result c.put_revision.new.card
    c.last_in.result c.args.head c.args.h c.args.body c.saturating_sub-len.result c.skip.ensures c.plan_in-plan.ensures c.behind_line.ensures c.last_in.ensures (c.saturating_sub-len.ensures ∙ (λ i. c.pool_size.ensures i - c.args.body)) c.put_revision.ensures
