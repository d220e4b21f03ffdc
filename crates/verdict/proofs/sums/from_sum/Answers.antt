use Rattle.std.proofs.Common.{◌*◌, ◌-◌, arith}
use Rattle.meaning.specs.Card.{weight}
use Rattle.verdict.proofs.Weights.{weigh_between, weighable_part, part_most}
use Rattle.verdict.proofs.sums.from_sum.Goals as goal

pub part_weight-requires : goal.part_weight-requires
part_weight-requires c =
    let a = c.args in
    weighable_part a.card.now a.weights a.pool.offset a.pool.count c.requires.weighable.0 a.n (32 * a.k - a.n) (omega arith)

pub overflow_sub-result : goal.overflow_sub-result
overflow_sub-result c =
    let a = c.args in
    let e = c.requires.weighable.1 a.k c.requires.within.1 in
    let s = weigh_between (weight a.card.now) a.card.now a.pool.offset a.n (32 * a.k) (omega arith) in
    omega (arith, c.part_weight.ensures)

pub part_weight-requires-else-n-k : goal.part_weight-requires-else-n-k
part_weight-requires-else-n-k c =
    let a = c.args in
    weighable_part a.card.now a.weights a.pool.offset a.pool.count c.requires.weighable.0 (32 * a.k) (a.n - 32 * a.k) (omega arith)

pub overflow_add-result : goal.overflow_add-result
overflow_add-result c =
    let a = c.args in
    let p = c.requires.weighable.0 in
    let few = p.few in
    let e = c.requires.weighable.1 a.k c.requires.within.1 in
    let s = weigh_between (weight a.card.now) a.card.now a.pool.offset (32 * a.k) a.n (omega arith) in
    let m = part_most a.card.now a.weights a.pool.offset a.pool.count p a.pool.offset a.n in
    omega (arith, c.part_weight-else-n-k.ensures)

pub returns-then-n-k : goal.returns-then-n-k
returns-then-n-k c =
    let a = c.args in
    let e = c.requires.weighable.1 a.k c.requires.within.1 in
    let s = weigh_between (weight a.card.now) a.card.now a.pool.offset a.n (32 * a.k) (omega arith) in
    omega (arith, c.part_weight.ensures)

pub returns-else-n-k : goal.returns-else-n-k
returns-else-n-k c =
    let a = c.args in
    let e = c.requires.weighable.1 a.k c.requires.within.1 in
    let s = weigh_between (weight a.card.now) a.card.now a.pool.offset (32 * a.k) a.n (omega arith) in
    omega (arith, c.part_weight-else-n-k.ensures)
