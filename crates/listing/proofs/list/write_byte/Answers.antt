use mathlib.Core.Path.{sym, ap, ◌∙◌}
use Prim.Native.Nat.{◌*◌}
use native.Mathlib.Omega.{arith}
use Rattle.listing.specs.Listed.{over_from}
use Rattle.listing.proofs.Writing.{wrote_none, one_room, one_yes, one_no, bit_yes, bit_no, byte_none}
use lib.ListN.{length, take-append-drop}
use Rattle.paper.specs.Atoms.{◌∈◌}
use Rattle.listing.proofs.list.write_byte.Goals as goal
use Rattle.listing.proofs.list.write_byte.Goals.{then-bits-i-eq1, else-bits-i-eq1}

pub returns-then-bits-eq0 : goal.returns-then-bits-eq0
returns-then-bits-eq0 c =
    let a = c.args in
    let e = byte_none a.codes.now a.b c.if-bits-eq0.true in
    let l = ap length e in record {
      value = omega arith;
      out_after = sym (ap (λ zs. over_from a.at zs a.out.now) e ∙ take-append-drop a.at a.out.now);
    }

pub loop-i-init : goal.loop-i-init
loop-i-init c =
    let a = c.args in
    wrote_none (λ k. k ∈ a.codes.now) (8 * a.b) 8 a.at a.out.now c.requires.2

pub bounds-out-j : goal.bounds-out-j
bounds-out-j c =
    let a = c.args in
    let l = c.loop-i in
    let r = one_room (λ k. k ∈ a.codes.now) (8 * a.b) 8 a.at a.out.now c.requires.2 l.i l.j l.out l.invariant c.loop-i-test.true (bit_yes a.codes.now a.b l.i c.loop-i-test.true c.if-bits-i-eq1.true) in
    r

pub loop-i-preserved : goal.loop-i-preserved
loop-i-preserved c =
    let a = c.args in
    let l = c.loop-i in
    let p = c.requires.2 in
    let h = c.loop-i-test.true in
    elim c.if-bits-i-eq1.branch [
      | then-bits-i-eq1 w ↦ rw (w.out-is, w.j-is) (one_yes (λ k. k ∈ a.codes.now) (8 * a.b) 8 a.at a.out.now p l.i l.j l.out l.invariant h (bit_yes a.codes.now a.b l.i h w.if-bits-i-eq1.true))
      | else-bits-i-eq1 w ↦ rw (w.out-is, w.j-is) (one_no (λ k. k ∈ a.codes.now) (8 * a.b) 8 a.at a.out.now p l.i l.j l.out l.invariant h (bit_no a.codes.now a.b l.i h w.if-bits-i-eq1.false))
    ]
