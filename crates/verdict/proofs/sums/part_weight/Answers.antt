use Rattle.verdict.proofs.Weights.{weigh_next, weigh_done}
use Rattle.meaning.proofs.Parts.{length_part, part_at}
use Rattle.meaning.specs.Card.{byte, part, weight}
use mathlib.Core.Path.{◌≡◌, ap, ◌∙◌}
use Prim.Native.Nat.{◌+◌}
use native.Mathlib.Omega.{arith}
use borrow.Author.Rules.{rules}
use lib.ListN.{length, get_or}
use Rattle.verdict.proofs.sums.part_weight.Goals as goal

pub loop-i-init : goal.loop-i-init
loop-i-init c = (omega arith, omega arith)

pub overflow_add-at : goal.overflow_add-at
overflow_add-at c = let p = c.requires.near in search (rules, p)

pub bounds-card-at : goal.bounds-card-at
bounds-card-at c = let p = c.requires.inside in search (rules, p)

pub weight_of-total-requires : goal.weight_of-total-requires
weight_of-total-requires c =
    let p = c.requires in
    (p.there c.loop-i.i (omega arith), p.weights_near)

pub overflow_add-total : goal.overflow_add-total
overflow_add-total c =
    let p = c.requires in
    let few = p.few in
    let k = c.loop-i.i in
    let m = p.light (byte c.args.card.now (c.args.at + k)) in
    let e = c.weight_of-total.ensures ∙ p.weighs k (omega arith) in
    omega arith

pub loop-i-preserved : goal.loop-i-preserved
loop-i-preserved c =
    let a = c.args in
    let l = c.loop-i in
    let p = c.requires in
    let b = a.card.now in
    let π = part b a.at a.n in
    let e : c.weight_of-total.result ≡ weight b (byte b (a.at + l.i)) = c.weight_of-total.ensures ∙ p.weighs l.i (omega arith) in
    let m = p.light (byte b (a.at + l.i)) in
    let n : length π ≡ a.n = length_part b a.at a.n p.inside in
    let f : weight b (get_or π l.i 0) ≡ weight b (byte b (a.at + l.i)) = ap (weight b) (part_at b a.at a.n l.i (omega arith)) in
    let s = weigh_next (weight b) π l.i (omega arith) in
    let u = l.invariant.1 in
    (omega arith, omega arith)

pub returns : goal.returns
returns c =
    let a = c.args in
    let l = c.loop-i in
    let b = a.card.now in
    let π = part b a.at a.n in
    let n : length π ≡ a.n = length_part b a.at a.n c.requires.inside in
    let s = weigh_done (weight b) π l.i (omega arith) in
    let u = l.invariant.1 in
    omega arith
