use mathlib.Core.Path.{◌≡◌}
use Rattle.paper.specs.Atoms.{◌∈◌}
use Rattle.listing.specs.Listed.{codes_in}
use Rattle.listing.proofs.Gathering.{codes_none}
use Rattle.listing.proofs.Writing.{Wrote, wrote_none, part_room, part-more, part_none}
use Prim.Native.Nat.{◌+◌, ◌-◌, ◌*◌}
use Rattle.runs.specs.Kinds.{kind_number}
use Rattle.door.proofs.Told.{kind_lt}
use native.Mathlib.Omega.{arith}
use Rattle.listing.proofs.list.write_kind.Goals as goal

pub loop-b-init : goal.loop-b-init
loop-b-init c =
    let a = c.args in
    let z : 8 * (32 * c.number_of.result - 32 * (kind_number a.kind)) ≡ 0 = omega arith in
    (rw z (wrote_none (λ k. k ∈ a.codes.now) (256 * (kind_number a.kind)) 256 a.at a.out.now c.requires.kind_in_bounds))

pub write_byte-j-requires : goal.write_byte-j-requires
write_byte-j-requires c =
    let a = c.args in
    let p = c.requires in
    let l = c.loop-b in
    let h = p.kind_bound.few (kind_number a.kind) in
    let m = 8 * (l.b - 32 * (kind_number a.kind)) in
    let q : 256 * (kind_number a.kind) + m ≡ 8 * l.b = omega arith in
    let r = part_room (λ k. k ∈ a.codes.now) (256 * (kind_number a.kind)) 256 a.at a.out.now p.kind_in_bounds m l.j l.out l.invariant 8 (omega arith) in
    (omega arith, p.kind_bound.long, rw q at r)

pub loop-b-preserved : goal.loop-b-preserved
loop-b-preserved c =
    let a = c.args in
    let p = c.requires in
    let l = c.loop-b in
    let f = c.write_byte-j in
    let h = p.kind_bound.few (kind_number a.kind) in
    let m = 8 * (l.b - 32 * (kind_number a.kind)) in
    let q : 256 * (kind_number a.kind) + m ≡ 8 * l.b = omega arith in
    let n : m + 8 ≡ 8 * (l.b + 1 - 32 * (kind_number a.kind)) = omega arith in
    let e = f.ensures in
    (rw (← n) (part-more (λ k. k ∈ a.codes.now) (256 * (kind_number a.kind)) 256 a.at a.out.now p.kind_in_bounds m l.j l.out l.invariant 8 (omega arith) f.result f.new.out (rw q e.value) (rw q e.out_after)))

pub returns : goal.returns
returns c =
    let a = c.args in
    let p = c.requires in
    let l = c.loop-b in
    let h = p.kind_bound.few (kind_number a.kind) in
    let m = 8 * (l.b - 32 * (kind_number a.kind)) in
    let n : m + (256 - m) ≡ 256 = omega arith in
    let w = part_none (λ k. k ∈ a.codes.now) (256 * (kind_number a.kind)) 256 a.at a.out.now p.kind_in_bounds m l.j l.out l.invariant (256 - m) (omega arith)
    (codes_none (λ k. k ∈ a.codes.now) (256 * (kind_number a.kind) + m) (256 - m) (λ i g. (let q : 256 * (kind_number a.kind) + m + i ≡ 256 * (kind_number a.kind) + (m + i) = omega arith in rw q (p.kind_bound.none_behind (kind_number a.kind) (m + i) (kind_lt a.kind) (omega arith) (omega arith))))) in
    let v : Wrote a.at (codes_in a.codes.now (256 * (kind_number a.kind)) 256) a.out.now l.j l.out = rw n at w in record {
      value = v.next;
      out_after = v.left;
    }
