-- The nodes of the card that a text stands for are those of its trees, numbered as they are completed.
use mathlib.Core.Path.{◌≡◌, refl, ap, sym, ◌∙◌}
use mathlib.Core.Bool.{Bool}
use mathlib.Core.List.{List, [], map}
use Prim.Native.Nat.{ℕ, ◌+◌, ◌<◌}
use native.Mathlib.Nat.{add-zero}
use native.Mathlib.Omega.{arith}
use lib.ListN.{length, get_or, get_or-map}
use Rattle.paper.proofs.Relation.{both}
use Rattle.meaning.specs.Trees.{Tree}
use Rattle.meaning.specs.Card.{Bytes, byte, node_from, node_at, nodes, trees}
use Rattle.meaning.proofs.Nodes.{node_at_lem}
use Rattle.notation.specs.Conditions.{trees_of}
use Rattle.notation.specs.Lines.{Said, conditions}
use Rattle.notation.specs.Built.{sizes, all_nodes, built}
use Rattle.notation.specs.Completed.{AllCompleted}
use Rattle.notation.specs.Reading.{numbers_fit, entries_fit}
use Rattle.notation.specs.Theorems.{CompletedLaws, CompletedLaw}
use Rattle.notation.proofs.MadeNodes.{all_nodes_sized, all_nodes_counted}
use Rattle.notation.proofs.MadeWhole.{made_said}
use Rattle.notation.proofs.MadeCards.{built_layout}
use Rattle.notation.proofs.Standing.{StandsAt, byte_there, entries_read}
use Rattle.notation.proofs.StandingSections.{layout_said, nodes_stand}
use Rattle.notation.proofs.MadeOrder.{all_completed_lem}
use Rattle.notation.proofs.MadeCompleted.{node_of, all_completed, passed_trees, tree_among}

-- ---- a node where its entry stands

pub node_there : (b : Bytes) (at : ℕ) (e : Bytes) → StandsAt b at e → length e ≡ 4 → node_from b at ≡ node_of e
node_there b at e s g =
    let zeroth : byte b at ≡ byte e 0 = ap (byte b) (sym (add-zero at)) ∙ byte_there s 0 (omega arith) in
    let first : byte b (at + 1) ≡ byte e 1 = byte_there s 1 (omega arith) in
    let second : byte b (at + 2) ≡ byte e 2 = byte_there s 2 (omega arith) in
    let third : byte b (at + 3) ≡ byte e 3 = byte_there s 3 (omega arith) in
    λ i. record { kind = zeroth i; a = first i; b = second i; zero = third i }

-- ---- the card

module _ (s : Said) (n : numbers_fit s ≡ Bool.true) (e : entries_fit s ≡ Bool.true) where
  card_nodes : nodes (layout_said s) (built s) ≡ map node_of (all_nodes 0 (trees_of (conditions s)))
  unfolding nodes node_at made_said
  card_nodes =
      let ts : List Tree = trees_of (conditions s) in
      entries_read (built s) 4 (layout_said s).nodes.offset (node_from (built s)) node_of (node_there (built s))
      (sizes ts) (all_nodes 0 ts) (all_nodes_counted 0 ts) (all_nodes_sized 0 ts) (nodes_stand s n e)

  pub card_trees : trees (layout_said s) (built s) ≡ all_completed (trees_of (conditions s))
  unfolding trees
  card_trees = rw card_nodes (passed_trees (trees_of (conditions s)))

  in_order : AllCompleted (node_at (layout_said s) (built s)) 0 (trees_of (conditions s)) (sizes (trees_of (conditions s)))
  in_order =
      let ts : List Tree = trees_of (conditions s) in
      let told : (i : ℕ) → i < length (all_nodes 0 ts) → node_at (layout_said s) (built s) i ≡ node_of (get_or (all_nodes 0 ts) i []) =
      λ i h. sym (node_at_lem (layout_said s) (built s) i (node_of []) (omega (arith, all_nodes_counted 0 ts)))
      ∙ ap (λ ns. get_or ns i (node_of [])) card_nodes ∙ get_or-map node_of (all_nodes 0 ts) i [] in
      all_completed_lem (node_at (layout_said s) (built s)) (all_nodes 0 ts) told ts refl

  completed_laws : CompletedLaws s
  completed_laws = record {
    in_order = rw (built_layout s n e) in_order;
    one_each = ap (λ l. l.nodes.count) (built_layout s n e);
    same_tree = λ before t behind h. rw (built_layout s n e, card_trees, h) (tree_among before t behind);
  }

pub completed_law : CompletedLaw
completed_law s f = completed_laws s (both (numbers_fit s) (entries_fit s) f).0 (both (numbers_fit s) (entries_fit s) f).1
