use Rattle.lines.proofs.Saying.{start_not, start_steps}
use Rattle.lines.proofs.Telling.{pool_in_le}
use mathlib.Core.Path.{◌∙◌}
use mathlib.Core.List.{◌++◌}
use Prim.Native.Nat.{◌-◌}
use native.Mathlib.Omega.{arith}
use Rattle.lines.proofs.lines.read_start.Goals as goal

pub returns-then-not-fits : goal.returns-then-not-fits
returns-then-not-fits c =
    start_not c.args.text.now c.args.at c.skip.result c.plan_in-plan.result.next c.args.m c.args.card.now c.requires.1 c.plan_in-plan.result.made c.plan_in-plan.new.card c.behind_line-next.result c.args.fits (c.args.beliefs ++ c.args.goals) c.skip.ensures c.plan_in-plan.ensures c.behind_line-next.ensures c.if-not-fits.true c.too_large.result c.too_large.ensures

pub put_start-requires : goal.put_start-requires
put_start-requires c =
    let a = pool_in_le c.args.m c.args.card.now c.requires.1 in let b = pool_in_le c.plan_in-plan.result.made c.plan_in-plan.new.card c.plan_in-plan.ensures.puts.held in
    let p = c.pool_size-start.ensures in let q = c.pool_size.ensures in let r = c.saturating_sub-len.ensures in (c.plan_in-plan.ensures.puts.held, omega arith)

pub returns : goal.returns
returns c =
    start_steps c.args.text.now c.args.at c.skip.result c.plan_in-plan.result.next c.args.m c.args.card.now c.requires.1 c.plan_in-plan.result.made c.plan_in-plan.new.card c.behind_line-next.result c.args.fits (c.args.beliefs ++ c.args.goals) c.skip.ensures c.plan_in-plan.ensures c.behind_line-next.ensures c.if-not-fits.false c.pool_size-start.result c.saturating_sub-len.result c.pool_size-start.ensures (c.saturating_sub-len.ensures ∙ (λ i. c.pool_size.ensures i - c.pool_size-start.ensures i)) c.put_start.result c.put_start.new.card c.put_start.ensures
