use Rattle.verdict.proofs.Weights.{weight_read, weight_none, weight_most}
use mathlib.Core.Path.{sym, ◌∙◌}
use native.Mathlib.Omega.{arith}
use borrow.Author.Rules.{rules}
use Rattle.verdict.proofs.weigh.action_weight.Goals as goal

pub returns-else-a-card : goal.returns-else-a-card
returns-else-a-card c =
    let a = c.args in
    (sym (weight_none a.card.now.layout a.card.now.bytes.now c.requires a.action (search rules)), omega arith)

pub returns-then-a-card : goal.returns-then-a-card
returns-then-a-card c =
    let a = c.args in
    let g = c.requires in
    let e = c.weight.ensures.0 ∙ sym (weight_read a.card.now.layout a.card.now.bytes.now g a.action (search rules)) in
    let m = weight_most a.card.now.layout a.card.now.bytes.now g a.action in
    (e, rw e m)
