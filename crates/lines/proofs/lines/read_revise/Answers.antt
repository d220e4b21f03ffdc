use Rattle.lines.proofs.Saying.{line_at, revise_nested, revise_over}
use Rattle.lines.specs.Lines.{condition_in}
use Rattle.notation.specs.Values.{condition_of}
use mathlib.Core.Path.{sym, ◌∙◌}
use Prim.Native.Nat.{◌-◌}
use lib.ListN.{drop}
use Rattle.lines.proofs.lines.read_revise.Goals as goal

pub returns-in_err-asked : goal.returns-in_err-asked
returns-in_err-asked c =
    revise_nested c.args.text.now c.args.at c.skip.result c.args.m c.args.card.now c.requires.1 c.requires.0 c.skip.ensures c.plan_in-plan.result.next c.plan_in-plan.result.made c.plan_in-plan.new.card c.plan_in-plan.ensures c.skip-2.result c.skip-2.ensures c.from_residual.result c.from_residual.ensures.0 c.read_tree.new.card c.in_err-asked.ensures

pub read_body-requires : goal.read_body-requires
read_body-requires c =
    let r = line_at condition_in c.args.text.now c.skip-2.result (condition_of (drop c.skip-2.result c.args.text.now)) c.plan_in-plan.result.made c.plan_in-plan.new.card c.in_ok-asked.asked.next c.in_ok-asked.asked.made c.read_tree.new.card c.in_ok-asked.ensures in (r.0, r.2)

pub shape_of-card : goal.shape_of-card
shape_of-card c =
    c.read_body.ensures.puts.held.room ∙ sym c.requires.1.room

pub returns : goal.returns
returns c =
    revise_over c.args.text.now c.args.at c.skip.result c.args.m c.args.card.now c.requires.1 c.requires.0 c.skip.ensures c.plan_in-plan.result.next c.plan_in-plan.result.made c.plan_in-plan.new.card c.plan_in-plan.ensures c.skip-2.result c.skip-2.ensures c.in_ok-asked.asked.next c.in_ok-asked.asked.made c.read_tree.new.card c.in_ok-asked.ensures
    c.pool_size-head.result c.saturating_sub-len.result c.pool_size-body.result c.pool_size-head.ensures (c.saturating_sub-len.ensures ∙ (λ i. c.pool_size-body.ensures i - c.pool_size-head.ensures i)) c.pool_size-body.ensures
    c.read_body.result.next c.read_body.result.made c.read_body.new.card c.read_body.ensures
