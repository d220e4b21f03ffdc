-- A card in the making, as it stands in its 24,128 bytes.
use Rattle.std.proofs.Math.Option.{Option, none, some}
use Rattle.std.specs.Prelude.{◌+◌, ◌*◌, ◌≤◌}
use Rattle.paper.specs.Next.{if}
use Rattle.meaning.specs.Sizes.{edition1_set, header_bytes, specification_bytes}
use Rattle.meaning.specs.Card.{Bytes, part}
use Rattle.notation.specs.Making as Making
use Rattle.lines.specs.declared.made.Made.{Made}

-- no section has more than its room
pub record Bounded (m : Made) : Type 0 where
  pub atoms : m.atoms ≤ 65535
  pub weights : m.weights ≤ 256
  pub nodes : m.nodes ≤ 256
  pub specifications : m.specifications ≤ 256
  pub selections : m.selections ≤ 256
  pub revisions : m.revisions ≤ 256
  pub pool : m.pool ≤ 8192
  pub start : m.start + m.len ≤ 8192

-- what the sections hold: 64 bytes of a header come first, with the start's sets at 32
abbrev pub sections_in : Made → Bytes → Making.Sections
sections_in m card = record {
  atoms = m.atoms;
  weights = part card (header_bytes edition1_set) (2 * m.weights);
  nodes = part card 576 (4 * m.nodes);
  specifications = part card 1600 (specification_bytes edition1_set * m.specifications);
  selections = part card 10816 (8 * m.selections);
  revisions = part card 12864 (12 * m.revisions);
  pool = part card 15936 m.pool;
  sets = part card 32 32;
  start = m.start;
  len = m.len;
}

-- what is made so far, if nothing is too large
abbrev pub made_in : Made → Bytes → Option Making.Sections
made_in m card = if m.large none (some (sections_in m card))
