use Rattle.printer.proofs.Measures.{one_digit, two_digits, three_digits}
use native.Mathlib.Omega.{arith}
use borrow.Author.Rules.{rules}
use Rattle.printer.proofs.measure.digits.Goals as goal

pub returns-then-n-lt10 : goal.returns-then-n-lt10
returns-then-n-lt10 c = let e = one_digit c.args.n (omega arith) in search (rules, e)

pub returns-then-n-lt100 : goal.returns-then-n-lt100
returns-then-n-lt100 c = let e = two_digits c.args.n (omega arith) (omega arith) in search (rules, e)

pub returns-else-n-lt100 : goal.returns-else-n-lt100
returns-else-n-lt100 c = let e = three_digits c.args.n (omega arith) (omega arith) in search (rules, e)
