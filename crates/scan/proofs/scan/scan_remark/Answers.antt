use Rattle.std.proofs.Common.{◌≡◌, length, ap, arith, ◌∙◌}
use mathlib.Core.Option.{some}
use Rattle.scan.proofs.Scanning.{remark_short, remark_over, remark_on}
use Rattle.scan.proofs.scan.scan_remark.Goals as goal

pub returns-then-text-n-eq10 : goal.returns-then-text-n-eq10
returns-then-text-n-eq10 c =
    let t = c.loop-n-test.true in
    let l = c.loop-n.invariant.0 in
    (omega arith, omega arith, λ k. c.loop-n.invariant.2 k ∙ remark_over c.args.text.now c.loop-n.n k t c.if-text-n-eq10.true)

pub loop-n-preserved : goal.loop-n-preserved
loop-n-preserved c =
    let t = c.loop-n-test.true in
    let l = c.loop-n.invariant.0 in
    (omega arith, omega arith, λ k. c.loop-n.invariant.2 k ∙ remark_on c.args.text.now c.loop-n.n k t c.if-text-n-eq10.false)

pub returns : goal.returns
returns c k =
    let b = c.loop-n.invariant.1 in
    let t = c.loop-n-test.false in
    let e : c.loop-n.n ≡ length c.args.text.now = omega arith in
    c.loop-n.invariant.2 k ∙ remark_short c.args.text.now c.loop-n.n k e ∙ ap some e
