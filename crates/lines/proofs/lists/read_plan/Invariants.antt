use Rattle.lines.proofs.Filling.{PlanTo}
use Prim.Native.Nat.{◌-◌}
use lib.ListN.{length}
use Rattle.lines.proofs.lists.read_plan.Given as goal

abbrev pub invariant-loop-next : goal.invariant-loop-next
invariant-loop-next l = PlanTo l.text l.at l.initial.pool l.fn.start l.pool l.count l.next

abbrev pub decreases-loop-next : goal.decreases-loop-next
decreases-loop-next l = length l.text - l.next
