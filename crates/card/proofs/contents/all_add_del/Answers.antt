use Rattle.std.proofs.Common.{arith, ◌∙◌}
use lib.ListN.{length-replicate}
use Rattle.card.proofs.AddDel.{joined_start, joined_turn, joined_all}
use Rattle.card.proofs.contents.all_add_del.Goals as goal

pub loop-i-init : goal.loop-i-init
loop-i-init g c = (length-replicate g.row.N 0, rw c.requires at (joined_start c.args.card.now.layout c.args.card.now.bytes.now))

pub loop-i-preserved : goal.loop-i-preserved
loop-i-preserved g c =
    let a = c.args in
    let l = c.loop-i in
    (c.add_bytes.auto.s ∙ l.invariant.0, joined_turn a.card.now.layout a.card.now.bytes.now l.all _ l.i _ g.row.N (omega arith) c.specification_at.ensures.value c.requires c.add_bytes.ensures l.invariant.1)

pub returns : goal.returns
returns g c =
    let a = c.args in
    let l = c.loop-i in
    joined_all a.card.now.layout a.card.now.bytes.now l.all l.i (omega arith) l.invariant.1
