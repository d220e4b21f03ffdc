-- A card's nodes and rules in flat tables of 256 entries (02, Wish 12).
use Rattle.std.specs.Prelude.{◌≡◌, List, ℕ, ◌<◌, get_or}
use Rattle.meaning.specs.declared.Layout.{Layout}
use Rattle.meaning.specs.declared.Node.{Node}
use Rattle.meaning.specs.declared.SelectionEntry.{SelectionEntry}
use Rattle.meaning.specs.declared.RevisionEntry.{RevisionEntry}
use Rattle.meaning.specs.Card.{Bytes, node_at, specification_at, selection_at, revision_at}
use Rattle.unpacked.specs.declared.tables.Specified.{Specified}
use Rattle.unpacked.specs.declared.tables.Tables.{Tables}

-- A table that has under each number below n what f has there. `other` is what a table is read as past its end.
abbrev pub Holds : {R : Type 0} → R → (ℕ → R) → ℕ → List R → Type 0
Holds other f n t = (i : ℕ) → i < n → get_or t i other ≡ f i

-- What stands past a card's last node, specification, selection rule and revision rule.
abbrev pub no_node : Node
no_node = record { kind = 0; a = 0; b = 0; zero = 0 }

abbrev pub no_specification : Specified
no_specification = record { action = 0; node = 0 }

abbrev pub no_selection : SelectionEntry
no_selection = record { belief = 0; goal = 0; plan = record { start = 0; length = 0 }; zero = 0 }

abbrev pub no_revision : RevisionEntry
no_revision = record { node = 0; plain = 0; head = record { start = 0; length = 0 }; body = record { start = 0; length = 0 }; zero = 0 }

-- Of specification i its action and its node.
abbrev pub specified_at : Layout → Bytes → ℕ → Specified
specified_at l b i = record { action = (specification_at l b i).action; node = (specification_at l b i).node }

-- 02, Wish 12: "it unpacks nodes and rules into flat tables of 256 entries": what the four tables have of a card.
pub record Tabled (l : Layout) (b : Bytes) (t : Tables) : Type 0 where
  pub nodes : Holds no_node (node_at l b) l.nodes.count t.nodes
  pub specifications : Holds no_specification (specified_at l b) l.specifications.count t.specifications
  pub selections : Holds no_selection (selection_at l b) l.selections.count t.selections
  pub revisions : Holds no_revision (revision_at l b) l.revisions.count t.revisions
