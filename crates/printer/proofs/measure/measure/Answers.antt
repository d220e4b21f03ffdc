use Rattle.std.proofs.Common.{refl}
use Rattle.printer.specs.Measures.{MeasuredTo}
use Rattle.printer.proofs.Measuring.{measured_none, measured_turn}
use Rattle.printer.proofs.Trees.{some_node}
use mathlib.Core.Path.{◌≡◌, subst}
use native.Mathlib.Omega.{arith}
use Rattle.meaning.specs.Card.{tree_at}
use Rattle.printer.proofs.measure.measure.Goals as goal

pub loop-i-init : goal.loop-i-init
loop-i-init c =
    let a = c.args in
    let g = c.requires.0.layout.nodes in
    let n = c.requires.1 in
    (omega arith, omega arith, measured_none a.card.now.layout a.card.now.bytes.now _ _ _ refl refl refl)

pub beside_own-requires : goal.beside_own-requires
beside_own-requires c =
    let a = c.args in
    let e = c.measure_node-m.ensures.size in
    let p = some_node (tree_at a.card.now.layout a.card.now.bytes.now c.loop-i.i) in
    omega arith

pub measure_node-m-requires : goal.measure_node-m-requires
measure_node-m-requires c =
    let p = c.requires in
    let n = p.1 in
    let t = c.loop-i-test in
    (p.0, omega arith, c.loop-i.invariant.2)

pub loop-i-preserved : goal.loop-i-preserved
loop-i-preserved c =
    let a = c.args in
    let l = c.loop-i in
    let t = c.loop-i-test in
    let n = l.invariant.1 in
    (omega arith, n, measured_turn a.card.now.layout a.card.now.bytes.now _ _ _ l.i l.invariant.2 _ _ _ _ (omega arith) c.measure_node-m.ensures c.beside_own.ensures)

pub measure_node-requires : goal.measure_node-requires
measure_node-requires c =
    let a = c.args in
    let p = c.requires in
    let l = c.loop-i in
    let t = c.loop-i-test in
    let e : l.i ≡ a.node = omega arith in
    (p.0, p.1, subst (MeasuredTo a.card.now.layout a.card.now.bytes.now l.sizes l.depths l.lengths) e l.invariant.2)

pub returns : goal.returns
returns c = c.measure_node.ensures
