use Rattle.std.proofs.Common.{◌≡◌, length, ap, sym, arith, ◌∙◌}
use Rattle.scan.specs.Scans.{scan_from}
use Rattle.scan.proofs.Scanning.{digits-over, digits-stop, digits_on}
use Rattle.scan.proofs.scan.scan_digits.Goals as goal

pub returns-then-not-is_digit : goal.returns-then-not-is_digit
returns-then-not-is_digit c = (
  c.loop-n.invariant.0,
  c.loop-n.invariant.1,
  λ k. c.loop-n.invariant.2 k ∙ digits-stop c.args.text.now c.loop-n.n k c.loop-n-test.true (sym c.is_digit.ensures ∙ c.if-not-is_digit.true),
)

pub loop-n-preserved : goal.loop-n-preserved
loop-n-preserved c =
    let t = c.loop-n-test.true in
    let a = c.loop-n.invariant.0 in
    (omega arith, omega arith, λ k. c.loop-n.invariant.2 k ∙ digits_on c.args.text.now c.loop-n.n k t (sym c.is_digit.ensures ∙ c.if-not-is_digit.false))

pub returns : goal.returns
returns c =
    let a = c.loop-n.invariant.0 in
    let b = c.loop-n.invariant.1 in
    let t = c.loop-n-test.false in
    let e : c.loop-n.n ≡ length c.args.text.now = omega arith in
    (omega arith, omega arith, λ k. c.loop-n.invariant.2 k ∙ digits-over c.args.text.now c.loop-n.n k e ∙ ap (λ m. scan_from c.args.text.now m k) e)
