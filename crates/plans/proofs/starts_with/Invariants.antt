use Rattle.plans.proofs.Laws.{Agree}
use Prim.Native.Nat.{◌-◌, ◌≤◌}
use Rattle.plans.proofs.starts_with.Given as goal

abbrev pub invariant-loop-i : goal.invariant-loop-i
invariant-loop-i l = (l.i ≤ l.hlen) × Agree l.card l.plan l.hstart l.i

abbrev pub decreases-loop-i : goal.decreases-loop-i
decreases-loop-i l = l.hlen - l.i
