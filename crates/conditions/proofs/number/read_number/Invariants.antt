use Rattle.conditions.proofs.Numbers.{DigitsPassed}
use Rattle.conditions.proofs.number.read_number.Given as goal

abbrev pub invariant-loop-next : goal.invariant-loop-next
invariant-loop-next l = DigitsPassed l.text l.at l.value l.next
