use Rattle.printer.proofs.Writing.{short, writing_start, writing_end, writing_top, writing_good, byte_fits, writing_byte, byte_less, split_fits, writing_split, split_less}
use mathlib.Core.Path.{◌≡◌, refl}
use Prim.Native.Nat.{ℕ, ◌<◌}
use native.Mathlib.Omega.{arith}
use lib.ListN.{length-replicate}
use Rattle.printer.proofs.write.write_text.Goals as goal

pub overflow_cast-node : goal.overflow_cast-node
overflow_cast-node c =
    let p = c.requires.good_card in
    let g = p.0.layout.nodes in
    let n = p.1 in
    record { fits = omega arith }

pub put-top-requires : goal.put-top-requires
put-top-requires c = (length-replicate {A = ℕ} 291 0, omega arith)

pub loop-top-init : goal.loop-top-init
loop-top-init c =
    let a = c.args in
    let p = c.requires in
    let g = p.good_card.0.layout.nodes in
    let n = p.good_card.1 in
    writing_start a.card.now.layout a.card.now.bytes.now _ a.out.now a.node _ _ c.task.result (short a.card.now.layout a.card.now.bytes.now p.good_card.0 a.node n p.node_bound.0) p.node_in_bounds refl
    p.node_bound.0 p.node_bound.1 (omega arith) n c.task.ensures c.put-top.ensures.value.1 c.put-top.ensures.result_after

pub offset_bounds-stack-top : goal.offset_bounds-stack-top
offset_bounds-stack-top c =
    let a = c.args in
    let o = c.loop-top in
    let h : 0 < o.top = omega arith in
    let k = writing_top a.card.now.layout a.card.now.bytes.now _ a.out.now o.stack o.top o.out o.at o.invariant h in
    record { fits = omega arith }

pub bounds-stack-top : goal.bounds-stack-top
bounds-stack-top c =
    let a = c.args in
    let o = c.loop-top in
    let h : 0 < o.top = omega arith in
    let k = writing_top a.card.now.layout a.card.now.bytes.now _ a.out.now o.stack o.top o.out o.at o.invariant h in
    omega arith

pub overflow_cast-out : goal.overflow_cast-out
overflow_cast-out c = record { fits = omega arith }

pub bounds-out-at : goal.bounds-out-at
bounds-out-at c =
    let a = c.args in
    let o = c.loop-top in
    let h : 0 < o.top = omega arith in
    byte_fits a.card.now.layout a.card.now.bytes.now _ a.out.now o.stack o.top o.out o.at o.invariant h c.if-t-lt256.true

pub overflow_add-at : goal.overflow_add-at
overflow_add-at c =
    let a = c.args in
    let o = c.loop-top in
    let h : 0 < o.top = omega arith in
    let k = byte_fits a.card.now.layout a.card.now.bytes.now _ a.out.now o.stack o.top o.out o.at o.invariant h c.if-t-lt256.true in
    let f = o.invariant.long in
    let i = o.invariant.inside in
    record { fits = omega arith }

pub loop-top-smaller-then-t-lt256 : goal.loop-top-smaller-then-t-lt256
loop-top-smaller-then-t-lt256 c =
    let a = c.args in
    let o = c.loop-top in
    let h : 0 < o.top = omega arith in
    byte_less a.card.now.layout a.card.now.bytes.now _ a.out.now o.stack o.top o.out o.at o.invariant h c.if-t-lt256.true

pub loop-top-preserved-then-t-lt256 : goal.loop-top-preserved-then-t-lt256
loop-top-preserved-then-t-lt256 c =
    let a = c.args in
    let o = c.loop-top in
    let h : 0 < o.top = omega arith in
    writing_byte a.card.now.layout a.card.now.bytes.now _ a.out.now o.stack o.top o.out o.at o.invariant h c.if-t-lt256.true

pub split-p-requires : goal.split-p-requires
split-p-requires c =
    let a = c.args in
    let o = c.loop-top in
    let h : 0 < o.top = omega arith in
    (c.requires.good_card.0, c.if-t-lt256.false, writing_good a.card.now.layout a.card.now.bytes.now _ a.out.now o.stack o.top o.out o.at o.invariant h)

pub put-top-requires-else-t-lt256 : goal.put-top-requires-else-t-lt256
put-top-requires-else-t-lt256 c =
    let a = c.args in
    let o = c.loop-top in
    let h : 0 < o.top = omega arith in
    (o.invariant.room, split_fits a.card.now.layout a.card.now.bytes.now _ a.out.now o.stack o.top o.out o.at o.invariant h _ c.split-p.ensures)

pub loop-top-smaller : goal.loop-top-smaller
loop-top-smaller c =
    let a = c.args in
    let o = c.loop-top in
    let h : 0 < o.top = omega arith in
    split_less a.card.now.layout a.card.now.bytes.now _ a.out.now o.stack o.top o.out o.at o.invariant h _ c.split-p.ensures c.put-top-else-t-lt256.new.stack c.put-top-else-t-lt256.result c.put-top-else-t-lt256.ensures.value.1 c.put-top-else-t-lt256.ensures.result_after

pub loop-top-preserved : goal.loop-top-preserved
loop-top-preserved c =
    let a = c.args in
    let o = c.loop-top in
    let h : 0 < o.top = omega arith in
    writing_split a.card.now.layout a.card.now.bytes.now _ a.out.now o.stack o.top o.out o.at o.invariant h _ c.split-p.ensures _ _ c.put-top-else-t-lt256.ensures.value.1 c.put-top-else-t-lt256.ensures.result_after

pub shape_of-out : goal.shape_of-out
shape_of-out c = c.loop-top.invariant.same

pub returns : goal.returns
returns c =
    let a = c.args in
    let o = c.loop-top in
    let z : o.top ≡ 0 = omega arith in
    writing_end a.card.now.layout a.card.now.bytes.now _ a.out.now o.stack o.top o.out o.at o.invariant z
