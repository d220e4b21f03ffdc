use Rattle.meaning.proofs.Nodes.{node_rule}
use Rattle.printer.proofs.Measuring.{measured_here}
use Rattle.printer.proofs.measure.measure_node.Goals as goal

pub size_by-requires : goal.size_by-requires
size_by-requires c =
    let a = c.args in
    let p = c.requires in
    rw c.node-x.ensures (node_rule a.card.now.layout a.card.now.bytes.now p.0.nodes a.i p.1).kinds

pub depth_by-requires : goal.depth_by-requires
depth_by-requires c =
    let a = c.args in
    let p = c.requires in
    rw c.node-x.ensures (node_rule a.card.now.layout a.card.now.bytes.now p.0.nodes a.i p.1).kinds

pub length_by-requires : goal.length_by-requires
length_by-requires c =
    let a = c.args in
    let p = c.requires in
    rw c.node-x.ensures (node_rule a.card.now.layout a.card.now.bytes.now p.0.nodes a.i p.1).kinds

pub returns : goal.returns
returns c =
    let a = c.args in
    let p = c.requires in
    let x = c.node-x in
    measured_here a.card.now.layout a.card.now.bytes.now p.0.nodes a.i p.1 x.result x.ensures _ _ c.kind_of-p.ensures c.kind_of-q.ensures _ _ _ p.2 _ _ _
    c.size_by.ensures c.depth_by.ensures c.length_by.ensures
