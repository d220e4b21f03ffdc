use Rattle.plans.proofs.Laws.{differing_more}
use Rattle.sets.proofs.Loops.{Kept, kept_start, kept_turn, kept_all}
use Rattle.plans.specs.Plans.{same}
use lib.Dec.{eqb}
use mathlib.Core.Bool.{Bool, ◌&&◌}
use Prim.Native.Nat.{ℕ, ◌+◌}
use native.Mathlib.Omega.{arith}
use lib.ListN.{get_or}
use Rattle.plans.proofs.same_bytes.Goals as goal

pub loop-i-init : goal.loop-i-init
loop-i-init c = kept_start (same c.args.card.now c.args.at c.args.plan.now c.args.from) c.args.n

pub loop-i-preserved : goal.loop-i-preserved
loop-i-preserved c =
    let a = c.args in
    let l = c.loop-i in
    let t : ℕ → Bool = same a.card.now a.at a.plan.now a.from in
    let k : Kept t a.n (eqb l.differing 0 && t l.i) (l.i + 1) = kept_turn t a.n (eqb l.differing 0) l.i (omega arith) l.invariant in
    rw (← differing_more l.differing (get_or a.card.now (a.at + l.i) 0) (get_or a.plan.now (a.from + l.i) 0)) at k

pub returns : goal.returns
returns c =
    let a = c.args in
    let l = c.loop-i in
    kept_all (same a.card.now a.at a.plan.now a.from) a.n (eqb l.differing 0) l.i (omega arith) l.invariant
