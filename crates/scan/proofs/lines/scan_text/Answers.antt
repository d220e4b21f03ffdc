use Rattle.scan.proofs.Stages.{text_failed, text_over, text_short}
use Rattle.std.proofs.Common.{refl, ◌∙◌, arith}
use Rattle.scan.proofs.lines.scan_text.Goals as goal

pub loop-n-init : goal.loop-n-init
loop-n-init c = (omega arith, refl)

pub returns-in_err-line : goal.returns-in_err-line
returns-in_err-line c =
    text_failed c.args.text.now c.loop-n.n c.loop-n.stage c.loop-n.invariant.1 c.from_residual.result _ c.from_residual.ensures.1 c.in_err-line.ensures

pub loop-n-smaller : goal.loop-n-smaller
loop-n-smaller c =
    let a = c.in_ok-line.ensures.0 in
    let t = c.loop-n-test.true in
    omega arith

pub loop-n-preserved : goal.loop-n-preserved
loop-n-preserved c = let x = c.in_ok-line.ensures in (x.1, c.loop-n.invariant.1 ∙ x.2)

pub returns-in-Ending : goal.returns-in-Ending
returns-in-Ending c =
    let a = c.loop-n.invariant.0 in
    let t = c.loop-n-test.false in
    text_over c.args.text.now c.loop-n.n c.loop-n.stage c.loop-n.invariant.1 (omega arith) c.in-Ending.is

pub returns-in_default : goal.returns-in_default
returns-in_default c =
    let a = c.loop-n.invariant.0 in
    let t = c.loop-n-test.false in
    text_short c.args.text.now c.loop-n.n c.loop-n.stage c.loop-n.invariant.1 (omega arith) c.in_default.not-Ending
