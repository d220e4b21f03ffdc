use Rattle.std.proofs.Common.{◌+◌, ◌-◌, ◌&&◌, ◌∙◌, ap, arith, length, take, drop, get_or}
use lib.Dec.{eqb}
use lib.ListN.{length-drop}
use lib.Seq.{take_all}
use Rattle.sets.specs.Sets.{is_empty}
use Rattle.sets.proofs.Loops.{found_turn, found_all}
use Rattle.sets.proofs.Zeros.{none_more}
use Rattle.sets.proofs.zeros_from.Goals as goal

pub loop-x-preserved : goal.loop-x-preserved
loop-x-preserved c =
    let l = c.loop-x in
    let xs = take (length c.args.s.now - c.args.from) (drop c.args.from c.args.s.now) in
    ap (λ t. t && is_empty (drop (l.x-index + 1) xs)) (none_more l.bits (get_or xs l.x-index 0)) ∙ found_turn (λ x. eqb x 0) xs 0 (eqb l.bits 0) l.x-index 0 (omega arith) l.invariant

pub returns : goal.returns
returns c =
    let a = c.args in
    let l = c.loop-x in
    let xs = take (length a.s.now - a.from) (drop a.from a.s.now) in
    found_all (λ x. eqb x 0) xs 0 (eqb l.bits 0) l.x-index (omega arith) l.invariant
    ∙ ap is_empty (take_all (length a.s.now - a.from) (drop a.from a.s.now) (omega (arith, length-drop a.from a.s.now)))
