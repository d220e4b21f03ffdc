use mathlib.Core.Path.{◌≡◌}
use Rattle.runs.specs.Kinds.{kind_number}
use Rattle.listing.proofs.Writing.{Kinds, no_kind, kind_room, kind_more}
use native.Mathlib.Omega.{arith}
use Rattle.listing.proofs.list.write.Goals as goal

pub loop-t-init : goal.loop-t-init
loop-t-init c = no_kind c.args.codes.now c.args.out.now c.requires.1

pub write_kind-at-requires : goal.write_kind-at-requires
write_kind-at-requires c =
    let p = c.requires in
    let l = c.loop-t in
    let k : kind_number c.kind_of.result ≡ l.t = omega arith in record {
      kind_bound = p.0;
      kind_in_bounds = rw k (kind_room c.args.codes.now c.args.out.now p.1 l.t (omega arith) l.at l.out l.invariant);
    }

pub loop-t-preserved : goal.loop-t-preserved
loop-t-preserved c =
    let l = c.loop-t in
    let f = c.write_kind-at in
    let e = f.ensures in
    let k : kind_number c.kind_of.result ≡ l.t = omega arith in
    kind_more c.args.codes.now c.args.out.now c.requires.1 l.t (omega arith) l.at l.out l.invariant f.result f.new.out (rw k at e.value) (rw k at e.out_after)

pub returns : goal.returns
returns c =
    let l = c.loop-t in
    let e : l.t ≡ 3 = omega arith in
    let w : Kinds c.args.codes.now c.args.out.now c.requires.1 3 l.at l.out = rw e at l.invariant in
    w.left
