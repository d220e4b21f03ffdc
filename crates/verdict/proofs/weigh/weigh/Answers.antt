use Rattle.std.proofs.Common.{arith, take}
use Rattle.verdict.proofs.Weights.{weigh_next, weigh_done}
use Rattle.meaning.specs.Card.{weight}
use Rattle.verdict.proofs.weigh.weigh.Goals as goal

pub loop-action-preserved : goal.loop-action-preserved
loop-action-preserved c =
    let a = c.args in
    let l = c.loop-action in
    let s = weigh_next (weight a.card.now.bytes.now) (take a.n a.plan.now) l.action-index (omega arith) in
    let e = c.action_weight-total.ensures.0 in
    let m = c.action_weight-total.ensures.1 in
    let u = l.invariant.1 in
    (omega arith, omega arith)

pub returns : goal.returns
returns c =
    let a = c.args in
    let l = c.loop-action in
    let s = weigh_done (weight a.card.now.bytes.now) (take a.n a.plan.now) l.action-index (omega arith) in
    let u = l.invariant.1 in
    omega arith
