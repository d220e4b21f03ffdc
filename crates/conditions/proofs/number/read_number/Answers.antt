use Rattle.conditions.proofs.Numbers.{read_over, read_stop, read_on}
use mathlib.Core.Path.{sym, ◌∙◌}
use Rattle.conditions.proofs.number.read_number.Goals as goal

pub loop-next-preserved : goal.loop-next-preserved
loop-next-preserved c = read_on c.args.text.now c.args.at c.loop-next.value c.loop-next.next c.loop-next.invariant c.loop-next-test.true c.with_digit-value.result (sym c.is_digit.ensures ∙ c.if-not-is_digit.false) c.with_digit-value.ensures

pub returns-then-not-is_digit : goal.returns-then-not-is_digit
returns-then-not-is_digit c = read_stop c.args.text.now c.args.at c.loop-next.value c.loop-next.next c.loop-next.invariant c.loop-next-test.true (sym c.is_digit.ensures ∙ c.if-not-is_digit.true)

pub returns : goal.returns
returns c = read_over c.args.text.now c.args.at c.loop-next.value c.loop-next.next c.loop-next.invariant c.loop-next-test.false
