use Rattle.sets.proofs.Loops.{kept_start, kept_turn, kept_all}
use Rattle.card.specs.Entries.{entry_good}
use Rattle.layout.specs.Entries.{count_of}
use Rattle.runs.specs.Kinds.{kind_number}
use Prim.Native.Nat.{◌≤◌, ◌<◌}
use Rattle.card.proofs.rules.entries_good.Goals as goal

pub loop-i-init : goal.loop-i-init
loop-i-init c = kept_start _ _

pub entry_good-good-requires : goal.entry_good-good-requires
entry_good-good-requires c =
    let p = c.requires in
    let h : c.loop-i.i < count_of c.args.card.now.layout (kind_number c.args.kind) = rw c.count_of-i-end.ensures at c.loop-i-test.true in
    record { there = h; marks = p.marks }

pub loop-i-preserved : goal.loop-i-preserved
loop-i-preserved c =
    let a = c.args in
    let l = c.loop-i in
    let h : l.i < count_of a.card.now.layout (kind_number a.kind) = rw c.count_of-i-end.ensures at c.loop-i-test.true in
    rw c.entry_good-good.ensures (kept_turn (entry_good a.card.now.layout a.card.now.bytes.now (kind_number a.kind)) _ l.good l.i h l.invariant)

pub returns : goal.returns
returns c =
    let a = c.args in
    let l = c.loop-i in
    let h : count_of a.card.now.layout (kind_number a.kind) ≤ l.i = rw c.count_of-i-end.ensures at c.loop-i-test.false in
    kept_all (entry_good a.card.now.layout a.card.now.bytes.now (kind_number a.kind)) _ l.good l.i h l.invariant
