use Rattle.lines.proofs.Stepping.{lent_length, count_le, tree_nested, tree_steps}
use Rattle.notation.specs.Values.{condition_of}
use Rattle.std.specs.Prelude.{IfSome}
use mathlib.Core.Path.{subst, refl, sym}
use Prim.Native.Nat.{◌≤◌}
use native.Mathlib.Omega.{arith}
use lib.ListN.{drop}
use Rattle.lines.proofs.parts.read_tree.Goals as goal

pub read_condition-requires : goal.read_condition-requires
read_condition-requires c = record {
  at_in_bounds = c.requires.0;
  nodes_len = (
    (let r = c.requires.1.room in lent_length c.args.card.now 576 1024 (omega arith)),
    subst (λ k. IfSome k (λ n. n ≤ 256)) (sym c.count_in-k.ensures) (count_le c.args.m c.args.m.nodes 256 c.requires.1.bounded.nodes),
  );
}

pub returns-in_err-tree : goal.returns-in_err-tree
returns-in_err-tree c =
    tree_nested c.args.text.now c.args.at c.args.m c.args.card.now c.requires.1 c.count_in-k.result c.read_condition.new.nodes _ c.count_in-k.ensures refl
    (condition_of (drop c.args.at c.args.text.now)) c.in_err-tree.ensures c.from_residual.result c.from_residual.ensures.0

pub returns : goal.returns
returns c =
    tree_steps c.args.text.now c.args.at c.args.m c.args.card.now c.requires.1 c.count_in-k.result c.read_condition.new.nodes _ c.count_in-k.ensures refl
    (condition_of (drop c.args.at c.args.text.now)) c.in_ok-tree.tree c.in_ok-tree.ensures c.with_nodes.result c.with_nodes.ensures
