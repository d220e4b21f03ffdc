use Rattle.std.proofs.Common.{◌*◌, ◌≤◌}
use Rattle.rigtemple.proofs.plan_weight.Given as goal

abbrev pub invariant-loop-action : goal.invariant-loop-action
invariant-loop-action l = l.total ≤ 65535 * l.action-index
