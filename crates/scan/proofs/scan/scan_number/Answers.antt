use Rattle.scan.proofs.Scanning.{number_short, number_wrong, number_on}
use mathlib.Core.Path.{sym, ◌∙◌}
use native.Mathlib.Omega.{arith}
use Rattle.scan.proofs.scan.scan_number.Goals as goal

pub returns-then-at-text : goal.returns-then-at-text
returns-then-at-text c = (omega arith, λ k. number_short c.args.text.now c.args.at k c.if-at-text.true)

pub returns-then-is_digit : goal.returns-then-is_digit
returns-then-is_digit c =
    let a = c.requires in
    let b = c.if-at-text.false in
    let d = c.scan_digits.ensures in
    let m = c.scan_digits.ensures.0 in
    (omega arith, (omega arith, d.1, λ k. number_on c.args.text.now c.args.at k (omega arith) (sym c.is_digit.ensures ∙ c.if-is_digit.true) ∙ d.2 k))

pub returns-else-is_digit : goal.returns-else-is_digit
returns-else-is_digit c =
    let a = c.requires in
    let b = c.if-at-text.false in
    (omega arith, λ k. number_wrong c.args.text.now c.args.at k (omega arith) (sym c.is_digit.ensures ∙ c.if-is_digit.false))
