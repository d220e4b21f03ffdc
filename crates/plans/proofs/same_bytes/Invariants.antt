use Rattle.sets.proofs.Loops.{Kept}
use Rattle.plans.specs.Plans.{same}
use lib.Dec.{eqb}
use Rattle.plans.proofs.same_bytes.Given as goal

abbrev pub invariant-loop-i : goal.invariant-loop-i
invariant-loop-i l = Kept (same l.card l.at l.plan l.from) l.n (eqb l.differing 0) l.i
