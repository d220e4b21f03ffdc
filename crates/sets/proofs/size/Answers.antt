use Rattle.std.proofs.Common.{◌≡◌, ◌∙◌, ◌*◌, ◌+◌, ap, arith, rules}
use lib.Seq.{take_all}
use Rattle.paper.specs.Theorems.{AreBytes}
use Rattle.sets.specs.Ones.{ones_of}
use Rattle.sets.proofs.Ones.{ones_law, ones_more, ones_most}
use Rattle.sets.proofs.size.Goals as goal

pub overflow_add-n : goal.overflow_add-n
overflow_add-n c =
    let bytes : AreBytes c.args.s = λ i. search rules in
    let m = ones_most c.args.s bytes 8 (8 * c.loop-word.word) in
    omega (arith, m)

pub loop-word-preserved : goal.loop-word-preserved
loop-word-preserved c =
    let l = c.loop-word in
    let bytes : AreBytes c.args.s = λ i. search rules in
    let m = ones_most c.args.s bytes 8 (8 * l.word) in
    let e = ones_more c.args.s (8 * l.word) 8 in
    let k : 8 * (l.word + 1) ≡ 8 * l.word + 8 = omega arith in
    (rw k (omega (arith, e)), omega (arith, m))

pub returns : goal.returns
returns c =
    let l = c.loop-word in
    let bytes : AreBytes c.args.s = λ i. search rules in
    l.invariant.0 ∙ ap ones_of (take_all (8 * l.word) c.args.s (omega arith)) ∙ ones_law c.args.s bytes
