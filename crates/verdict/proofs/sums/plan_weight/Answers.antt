use Rattle.meaning.specs.Card.{plan, weight}
use Rattle.verdict.proofs.Weights.{weigh_part, weighable_part}
use native.Mathlib.Omega.{arith}
use Rattle.verdict.proofs.sums.plan_weight.Goals as goal

pub part_weight-requires : goal.part_weight-requires
part_weight-requires c =
    let a = c.args in
    weighable_part a.card.now a.weights a.pool.offset a.pool.count c.requires.weighable.0 a.s.start a.s.length (omega arith)

pub returns-then-n-le32 : goal.returns-then-n-le32
unfolding plan
returns-then-n-le32 c = c.part_weight.ensures

pub overflow_sub-result : goal.overflow_sub-result
overflow_sub-result c =
    let a = c.args in
    let b = a.card.now in
    let e = weigh_part (weight b) b a.pool.offset a.s.start a.s.length in
    let f = c.first_weight-2.ensures in
    let g = c.first_weight.ensures in
    omega arith

pub returns : goal.returns
unfolding plan
returns c =
    let a = c.args in
    let b = a.card.now in
    let e = weigh_part (weight b) b a.pool.offset a.s.start a.s.length in
    let f = c.first_weight-2.ensures in
    let g = c.first_weight.ensures in
    omega arith
