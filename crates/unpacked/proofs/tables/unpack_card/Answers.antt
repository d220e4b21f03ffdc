use Rattle.std.proofs.Common.{rules}
use Rattle.unpacked.proofs.tables.unpack_card.Goals as goal

pub returns : goal.returns
returns c = record {
  nodes = λ i h. (let p = c.table.ensures i h in search rules);
  specifications = λ i h. (let p = c.table-2.ensures i h in search rules);
  selections = λ i h. (let p = c.table-3.ensures i h in search rules);
  revisions = λ i h. (let p = c.table-4.ensures i h in search rules);
}
