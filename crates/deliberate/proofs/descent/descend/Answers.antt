use Rattle.paper.specs.Atoms.{◌∈◌}
use Rattle.deliberate.specs.Descent.{Into}
use Rattle.deliberate.proofs.Descending.{descended_start, descended_turn, next_lower, first_known, one_more}
use Rattle.meaning.specs.declared.Node.{Node}
use Rattle.deliberation.specs.Entries.{entry_of}
use mathlib.Core.Path.{sym, subst}
use Prim.Native.Nat.{◌≤◌, ◌<◌}
use native.Mathlib.Omega.{arith}
use lib.ListN.{drop}
use Rattle.deliberate.proofs.descent.descend.Goals as goal

pub loop-e-init : goal.loop-e-init
loop-e-init c =
    let a = c.args in
    let (ly, (b, g)) = c.requires.0 in
    (descended_start ly b a.program.now g (λ j. j ∈ a.movable.now) a.from a.top a.stack.now c.requires.1, c.read_entry-e.ensures)

pub into_part-part-requires : goal.into_part-part-requires
into_part-part-requires c =
    let a = c.args in
    let p = a.program.now in
    let (ly, (b, g)) = c.requires.0 in
    let l = c.loop-e in
    let d = l.invariant.0 in
    let w : 5 ≤ l.e.kind = (let t = c.loop-e-test.true in omega arith) in
    let k : 5 ≤ (entry_of p l.at).kind = subst (λ (x : Node). 5 ≤ x.kind) l.invariant.1 w in
    let m = subst (λ (x : Node). x.kind < 7) (sym l.invariant.1) (g.entries l.at d.known).kinds in
    let low = subst (λ (x : Node). x.a < 128) (sym l.invariant.1) (let u = first_known ly b p g (λ j. j ∈ a.movable.now) a.from a.top a.stack.now l.stack l.at l.rest d k in let v = d.known in let most = g.most in omega arith) in
    (w, m, low, one_more ly b p g (λ j. j ∈ a.movable.now) a.from a.top a.stack.now l.stack l.at l.rest d k, d.stack.within, d.stack.room)

pub read_entry-e-requires-in-loop-e : goal.read_entry-e-requires-in-loop-e
read_entry-e-requires-in-loop-e c =
    let a = c.args in
    let p = a.program.now in
    let (ly, (b, g)) = c.requires.0 in
    let l = c.loop-e in
    let r = c.into_part-part in
    let then = r.new.stack in
    let k = subst (λ (x : Node). Into x (x.a ∈ a.movable.now) (drop l.rest l.stack) r.result.at (drop r.result.top then)) l.invariant.1 r.ensures.into in
    let low = next_lower ly b p g (λ j. j ∈ a.movable.now) a.from a.top a.stack.now l.stack l.at l.rest l.invariant.0 k in
    let h = l.invariant.0.known in
    let bytes = g.bytes in
    omega arith

pub loop-e-smaller : goal.loop-e-smaller
loop-e-smaller c =
    let a = c.args in
    let p = a.program.now in
    let (ly, (b, g)) = c.requires.0 in
    let l = c.loop-e in
    let r = c.into_part-part in
    let then = r.new.stack in
    let k = subst (λ (x : Node). Into x (x.a ∈ a.movable.now) (drop l.rest l.stack) r.result.at (drop r.result.top then)) l.invariant.1 r.ensures.into in
    next_lower ly b p g (λ j. j ∈ a.movable.now) a.from a.top a.stack.now l.stack l.at l.rest l.invariant.0 k

pub loop-e-preserved : goal.loop-e-preserved
loop-e-preserved c =
    let a = c.args in
    let p = a.program.now in
    let (ly, (b, g)) = c.requires.0 in
    let l = c.loop-e in
    let r = c.into_part-part in
    let then = r.new.stack in
    let k = subst (λ (x : Node). Into x (x.a ∈ a.movable.now) (drop l.rest l.stack) r.result.at (drop r.result.top then)) l.invariant.1 r.ensures.into in
    let (h, s, f) = r.ensures.top_le_top in
    (descended_turn ly b p g (λ j. j ∈ a.movable.now) a.from a.top a.stack.now l.stack l.at l.rest l.invariant.0 then r.result.at r.result.top k h s f, c.read_entry-e-in-loop-e.ensures)
