use Rattle.std.proofs.Common.{refl}
use Rattle.lines.proofs.Filling.{set_start, set_turn, set_over}
use Rattle.lines.proofs.Numbered.{goes_inside}
use mathlib.Core.Path.{sym, ◌∙◌}
use native.Mathlib.Omega.{arith}
use borrow.Author.Rules.{rules}
use Rattle.lines.proofs.lists.read_set.Goals as goal

pub loop-next-init : goal.loop-next-init
loop-next-init c =
    set_start c.args.text.now c.args.at _ c.requires refl

pub goes_on-requires : goal.goes_on-requires
goes_on-requires c =
    c.loop-next.invariant.1

pub overflow_add-next : goal.overflow_add-next
overflow_add-next c =
    let i = goes_inside c.args.text.now c.loop-next.next (sym c.goes_on.ensures ∙ c.loop-next-test.true) in search rules

pub read_number-n-requires : goal.read_number-n-requires
read_number-n-requires c =
    let i = goes_inside c.args.text.now c.loop-next.next (sym c.goes_on.ensures ∙ c.loop-next-test.true) in omega arith

pub loop-next-smaller : goal.loop-next-smaller
loop-next-smaller c =
    let i = goes_inside c.args.text.now c.loop-next.next (sym c.goes_on.ensures ∙ c.loop-next-test.true) in
    let a = c.read_number-n.ensures.1 in let b = c.read_number-n.ensures.2.0 in omega arith

pub loop-next-preserved : goal.loop-next-preserved
loop-next-preserved c =
    set_turn c.args.text.now c.args.at c.loop-next.set c.loop-next.fits c.loop-next.next c.loop-next.invariant
    (sym c.goes_on.ensures ∙ c.loop-next-test.true) c.read_number-n.result c.read_number-n.ensures c.with_atom-more.result c.with_atom-more.ensures (search rules)

pub returns : goal.returns
returns c =
    set_over c.args.text.now c.args.at c.loop-next.set c.loop-next.fits c.loop-next.next c.loop-next.invariant (sym c.goes_on.ensures ∙ c.loop-next-test.false)
