use Rattle.std.proofs.Common.{◌≡◌, length, drop, ap}
use Rattle.lines.proofs.Numbered.{line_none, line_here, line_on}
use mathlib.Core.Path.{sym, ◌∙◌}
use native.Mathlib.Omega.{arith}
use Rattle.lines.proofs.lists.behind_line.Goals as goal

pub returns-then-text-n-eq10 : goal.returns-then-text-n-eq10
returns-then-text-n-eq10 c =
    let l = c.loop-n.invariant in let h = c.loop-n-test.true in let a = l.0 in
    (omega arith, (λ q. omega arith), (omega arith, sym (line_here c.args.text.now c.loop-n.n h c.if-text-n-eq10.true) ∙ l.2))

pub loop-n-preserved : goal.loop-n-preserved
loop-n-preserved c =
    let l = c.loop-n.invariant in let h = c.loop-n-test.true in let a = l.0 in
    (omega arith, omega arith, sym (line_on c.args.text.now c.loop-n.n h c.if-text-n-eq10.false) ∙ l.2)

pub returns : goal.returns
returns c =
    let l = c.loop-n.invariant in
    let h = c.loop-n-test.false in
    let a = l.0 in
    let b = l.1 in
    let e : c.loop-n.n ≡ length c.args.text.now = omega arith in
    (omega arith, (λ q. q), (omega arith, sym (ap (λ k. drop k c.args.text.now) e) ∙ (sym (line_none c.args.text.now c.loop-n.n e) ∙ l.2)))
