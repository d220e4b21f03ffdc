use Rattle.lines.proofs.Filling.{plan_turn, plan_over}
use Rattle.lines.proofs.Numbered.{goes_inside}
use mathlib.Core.Path.{refl, sym, ◌∙◌}
use native.Mathlib.Omega.{arith}
use borrow.Author.Rules.{rules}
use Rattle.lines.proofs.lists.read_plan.Goals as goal

pub loop-next-init : goal.loop-next-init
loop-next-init c =
    (omega arith, c.requires.0, refl, c.requires.2, c.requires.1, refl)

pub goes_on-requires : goal.goes_on-requires
goes_on-requires c =
    c.loop-next.invariant.1

pub overflow_add-next : goal.overflow_add-next
overflow_add-next c =
    let i = goes_inside c.args.text.now c.loop-next.next (sym c.goes_on.ensures ∙ c.loop-next-test.true) in search rules

pub read_number-n-requires : goal.read_number-n-requires
read_number-n-requires c =
    let i = goes_inside c.args.text.now c.loop-next.next (sym c.goes_on.ensures ∙ c.loop-next-test.true) in omega arith

pub with_action-count-requires : goal.with_action-count-requires
with_action-count-requires c =
    (c.loop-next.invariant.4, c.loop-next.invariant.3)

pub loop-next-smaller : goal.loop-next-smaller
loop-next-smaller c =
    let i = goes_inside c.args.text.now c.loop-next.next (sym c.goes_on.ensures ∙ c.loop-next-test.true) in
    let a = c.read_number-n.ensures.1 in let b = c.read_number-n.ensures.2.0 in omega arith

pub loop-next-preserved : goal.loop-next-preserved
loop-next-preserved c =
    plan_turn c.args.text.now c.args.at c.args.pool.now c.args.start c.loop-next.pool c.loop-next.count c.loop-next.next c.loop-next.invariant
    (sym c.goes_on.ensures ∙ c.loop-next-test.true) c.read_number-n.result c.read_number-n.ensures c.with_action-count.result c.with_action-count.new.pool c.with_action-count.ensures

pub shape_of-pool : goal.shape_of-pool
shape_of-pool c =
    let a = c.loop-next.invariant.4 in let b = c.requires.1 in search rules

pub returns : goal.returns
returns c =
    plan_over c.args.text.now c.args.at c.args.pool.now c.args.start c.loop-next.pool c.loop-next.count c.loop-next.next c.loop-next.invariant
    (sym c.goes_on.ensures ∙ c.loop-next-test.false)
