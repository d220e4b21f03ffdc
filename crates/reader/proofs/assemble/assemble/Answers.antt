use Rattle.reader.proofs.Packing.{written_room, all_packed, assembled_so}
use native.Mathlib.Omega.{arith}
use Rattle.reader.proofs.assemble.assemble.Goals as goal

pub returns-clause-card_after : goal.returns-clause-card_after
returns-clause-card_after c =
    let m = c.args.m in
    let d = c.args.card.now in
    let h = c.write_header in
    let few = c.requires.0.weights in
    let l = written_room m c.requires.0 d h.new.card c.requires.1 h.ensures in
    assembled_so m c.requires.0 d h.new.card c.requires.1 h.ensures c.pack.result c.pack.new.card
    (all_packed m c.requires.0 h.new.card c.pack-nodes.new.card c.pack-specifications.new.card c.pack-selections.new.card c.pack-revisions.new.card c.pack.new.card
    _ c.pack-nodes.result c.pack-specifications.result c.pack-selections.result c.pack-revisions.result c.pack.result l (omega arith)
    c.pack-nodes.ensures c.pack-specifications.ensures c.pack-selections.ensures c.pack-revisions.ensures c.pack.ensures)
