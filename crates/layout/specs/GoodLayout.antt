-- What is known of a layout: its numbers are of two bytes; and, once rows 1, 3 and 4 have passed, where everything lies.
use Rattle.std.specs.Prelude.{◌≡◌, ◌+◌, ◌*◌, ◌≤◌, length}
use Rattle.meaning.specs.declared.Section.{Section}
use Rattle.meaning.specs.declared.Span.{Span}
use Rattle.meaning.specs.declared.Layout.{Layout}
use Rattle.meaning.specs.Sizes.{set_bytes, most_atoms, header_bytes, specification_bytes}
use Rattle.meaning.specs.Card.{Bytes, layout}

-- a section whose count and offset are numbers of two bytes
pub record TwoByteSection (s : Section) : Type 0 where
  pub count : s.count ≤ 65535
  pub offset : s.offset ≤ 65535

-- a plan whose start and length are numbers of two bytes
pub record TwoByteSpan (s : Span) : Type 0 where
  pub start : s.start ≤ 65535
  pub length : s.length ≤ 65535

-- 01, "The card, edition 1": "Numbers are two bytes", of every number of a layout
pub record TwoByteLayout (l : Layout) : Type 0 where
  pub edition : l.edition ≤ 65535
  pub atoms : l.atoms ≤ 65535
  pub actions : l.actions ≤ 65535
  pub nodes : TwoByteSection l.nodes
  pub specifications : TwoByteSection l.specifications
  pub selections : TwoByteSection l.selections
  pub revisions : TwoByteSection l.revisions
  pub pool : TwoByteSection l.pool
  pub initial : TwoByteSpan l.initial

-- The numbers of atoms and of actions are in range.
pub record Counted (l : Layout) : Type 0 where
  pub most : most_atoms (set_bytes l) ≤ 256
  pub atoms : l.atoms ≤ most_atoms (set_bytes l)
  pub some_actions : 1 ≤ l.actions
  pub actions : l.actions ≤ 256

-- The counts are in range, the sections follow each other, and the card ends with the pool.
pub record GoodLayout (l : Layout) (b : Bytes) : Type 0 where
  pub says : l ≡ layout b
  pub set_least : 16 ≤ set_bytes l
  pub set_most : set_bytes l ≤ 32
  pub some_atoms : 1 ≤ l.atoms
  pub atoms : l.atoms ≤ most_atoms (set_bytes l)
  pub some_actions : 1 ≤ l.actions
  pub actions : l.actions ≤ 256
  pub nodes : l.nodes.count ≤ 256
  pub specifications : l.specifications.count ≤ 256
  pub selections : l.selections.count ≤ 256
  pub revisions : l.revisions.count ≤ 256
  pub pool : l.pool.count ≤ 8192
  pub nodes_at : l.nodes.offset ≡ header_bytes (set_bytes l) + 2 * l.actions
  pub specifications_at : l.specifications.offset ≡ l.nodes.offset + 4 * l.nodes.count
  pub selections_at : l.selections.offset ≡ l.specifications.offset + specification_bytes (set_bytes l) * l.specifications.count
  pub revisions_at : l.revisions.offset ≡ l.selections.offset + 8 * l.selections.count
  pub pool_at : l.pool.offset ≡ l.revisions.offset + 12 * l.revisions.count
  pub ends : length b ≡ l.pool.offset + l.pool.count
