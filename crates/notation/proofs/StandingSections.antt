-- Where the sections of the card that a text stands for stand in it.
use mathlib.Core.Path.{◌≡◌, refl, sym, ◌∙◌}
use mathlib.Core.Bool.{true}
use mathlib.Core.List.{[], ◌++◌, append-nil}
use Prim.Native.Nat.{◌-◌, ◌*◌}
use lib.ListN.{length}
use Rattle.meaning.specs.declared.Layout.{Layout}
use Rattle.meaning.specs.Card.{Bytes}
use Rattle.notation.specs.Conditions.{trees_of}
use Rattle.notation.specs.Lines.{Said, conditions}
use Rattle.notation.specs.Built.{sizes, pool, built}
use Rattle.notation.specs.Reading.{numbers_fit, entries_fit}
use Rattle.notation.specs.Making.{Sections, header_of, sections_of}
use Rattle.notation.proofs.MadeWhole.{made_said}
use Rattle.notation.proofs.MadeBuilt.{header_length, made_kept, weights_made, nodes_made, specifications_made, selections_made, revisions_made, built_header}
use Rattle.notation.proofs.MadeCards.{layout_of}
use Rattle.notation.proofs.Standing.{StandsAt, stands_first, stands_second}

-- the layout of the card
abbrev pub layout_said : Said → Layout
layout_said s =
    layout_of s.atoms (length s.weights) (sizes (trees_of (conditions s))) (length s.dos) (length s.selects) (length s.revises)
    (length (pool s)) (length (pool s) - length s.begin.plan) (length s.begin.plan)

module _ (s : Said) (n : numbers_fit s ≡ true) (e : entries_fit s ≡ true) where
  abbrev m : Sections
  m = made_said s

  abbrev l : Layout
  l = layout_said s

  abbrev header : Bytes
  header =
      header_of s.atoms (length s.weights) (sizes (trees_of (conditions s))) (length s.dos) (length s.selects) (length s.revises)
      (length (pool s)) (length (pool s) - length s.begin.plan) (length s.begin.plan)

  abbrev from_revisions : Bytes
  from_revisions = m.revisions ++ m.pool

  abbrev from_selections : Bytes
  from_selections = m.selections ++ from_revisions

  abbrev from_specifications : Bytes
  from_specifications = m.specifications ++ from_selections

  abbrev from_nodes : Bytes
  from_nodes = m.nodes ++ from_specifications

  abbrev from_weights : Bytes
  from_weights = m.weights ++ from_nodes

  all_stands : StandsAt (built s) 0 (header ++ (m.sets ++ from_weights))
  unfolding sections_of
  all_stands = record {
    front = [];
    behind = [];
    whole = built_header s n e ∙ sym (append-nil (header ++ (m.sets ++ from_weights)));
    there = refl;
  }

  sets_on : StandsAt (built s) 32 (m.sets ++ from_weights)
  sets_on = stands_second header (m.sets ++ from_weights) 32 (header_length s.atoms _ _ _ _ _ _ _ _) all_stands

  weights_on : StandsAt (built s) 64 from_weights
  weights_on = stands_second m.sets from_weights 32 (made_kept s n e).sets sets_on

  nodes_on : StandsAt (built s) l.nodes.offset from_nodes
  nodes_on = stands_second m.weights from_nodes (2 * length s.weights) (weights_made s n e) weights_on

  specifications_on : StandsAt (built s) l.specifications.offset from_specifications
  specifications_on = stands_second m.nodes from_specifications (4 * sizes (trees_of (conditions s))) (nodes_made s n e) nodes_on

  selections_on : StandsAt (built s) l.selections.offset from_selections
  selections_on = stands_second m.specifications from_selections (36 * length s.dos) (specifications_made s n e) specifications_on

  revisions_on : StandsAt (built s) l.revisions.offset from_revisions
  revisions_on = stands_second m.selections from_revisions (8 * length s.selects) (selections_made s n e) selections_on

  pub sets_stand : StandsAt (built s) 32 m.sets
  sets_stand = stands_first m.sets from_weights sets_on

  pub weights_stand : StandsAt (built s) 64 m.weights
  weights_stand = stands_first m.weights from_nodes weights_on

  pub nodes_stand : StandsAt (built s) l.nodes.offset m.nodes
  nodes_stand = stands_first m.nodes from_specifications nodes_on

  pub specifications_stand : StandsAt (built s) l.specifications.offset m.specifications
  specifications_stand = stands_first m.specifications from_selections specifications_on

  pub selections_stand : StandsAt (built s) l.selections.offset m.selections
  selections_stand = stands_first m.selections from_revisions selections_on

  pub revisions_stand : StandsAt (built s) l.revisions.offset m.revisions
  revisions_stand = stands_first m.revisions m.pool revisions_on

  pub pool_stands : StandsAt (built s) l.pool.offset m.pool
  pool_stands = stands_second m.revisions m.pool (12 * length s.revises) (revisions_made s n e) revisions_on
