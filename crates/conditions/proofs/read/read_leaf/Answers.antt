use Rattle.conditions.proofs.Units.{read_T, read_B, read_G}
use mathlib.Core.Path.{sym, ◌∙◌}
use native.Mathlib.Omega.{arith}
use Rattle.conditions.proofs.read.read_leaf.Goals as goal

pub returns-in-84 : goal.returns-in-84
returns-in-84 c left =
    let a = c.args in
    let put = c.put_node.ensures in
    read_T a.text.now a.at left c.requires.at_in_bounds.0 a.nodes.now a.k c.put_node.new.nodes c.put_node.result
    c.in-84.is put.upper_bound (put.nodes_len_2 ∙ sym c.requires.nodes_len.0) put.nodes_after

pub returns-in-66 : goal.returns-in-66
returns-in-66 c left =
    let a = c.args in
    read_B a.text.now a.at left c.requires.at_in_bounds.0 a.nodes.now a.k c.read_atom.new.nodes
    c.read_atom.result c.in-66.is c.read_atom.ensures

pub returns-in_default : goal.returns-in_default
returns-in_default c left =
    let a = c.args in
    read_G a.text.now a.at left c.requires.at_in_bounds.0 a.nodes.now a.k c.read_atom-in_default.new.nodes
    c.read_atom-in_default.result c.requires.at_in_bounds.1 (omega arith) (omega arith) c.read_atom-in_default.ensures
