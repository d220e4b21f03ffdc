use Rattle.meaning.specs.Card.{part}
use Rattle.utf8.specs.Reading.{utf8}
use Rattle.utf8.proofs.Steps.{ends, rest_on, rest_over}
use Rattle.std.proofs.Common.{◌+◌, ◌-◌, take, drop, sym, ap, ◌∙◌}
use Rattle.utf8.proofs.utf8_part.Goals as goal

pub loop-x-preserved : goal.loop-x-preserved
loop-x-preserved c =
    let a = c.args in
    let s = take (a.to - a.from) (drop a.from a.bytes.now) in
    let i = c.loop-x.x-index in
    ap (λ x. ends x (drop (i + 1) s)) c.behind-a.ensures ∙ sym (rest_on s c.loop-x.a i c.loop-x-test.true) ∙ c.loop-x.invariant

pub returns : goal.returns
unfolding utf8 part
returns c =
    let a = c.args in
    sym (rest_over (take (a.to - a.from) (drop a.from a.bytes.now)) c.loop-x.a c.loop-x.x-index c.loop-x-test.false) ∙ c.loop-x.invariant
