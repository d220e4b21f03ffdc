use Rattle.scan.proofs.Scanning.{word_over, word_short, word_wrong, word_on}
use mathlib.Core.Path.{◌∙◌}
use native.Mathlib.Omega.{arith}
use Rattle.scan.proofs.scan.scan_word.Goals as goal

pub returns-then-n-text : goal.returns-then-n-text
returns-then-n-text c k =
    c.loop-x.invariant.2 k ∙ word_short c.args.text.now c.args.word.now c.loop-x.n c.loop-x.x-index k c.loop-x-test.true c.if-n-text.true

pub returns-then-text-n : goal.returns-then-text-n
returns-then-text-n c k =
    let a = c.loop-x.invariant.1 in
    let b = c.if-n-text.false in
    c.loop-x.invariant.2 k ∙ word_wrong c.args.text.now c.args.word.now c.loop-x.n c.loop-x.x-index k c.loop-x-test.true (omega arith) c.if-text-n.true

pub loop-x-preserved : goal.loop-x-preserved
loop-x-preserved c =
    let a = c.loop-x.invariant.1 in
    let b = c.if-n-text.false in
    let t = c.loop-x-test.true in
    let l = c.loop-x.invariant.0 in
    (omega arith, omega arith, λ k. c.loop-x.invariant.2 k ∙ word_on c.args.text.now c.args.word.now c.loop-x.n c.loop-x.x-index k t (omega arith) c.if-text-n.false)

pub returns : goal.returns
returns c =
    let t = c.loop-x-test.false in
    (c.loop-x.invariant.0, c.loop-x.invariant.1, λ k. c.loop-x.invariant.2 k ∙ word_over c.args.text.now c.args.word.now c.loop-x.n c.loop-x.x-index k (omega arith))
