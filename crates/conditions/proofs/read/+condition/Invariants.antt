use Rattle.std.proofs.Common.{length, ◌+◌, ◌-◌, ◌*◌}
use Rattle.conditions.proofs.Lists.{Before, and_kind, or_kind}
use Rattle.conditions.proofs.read.+condition.Given as goal

abbrev pub decreases-read_and_list : goal.decreases-read_and_list
decreases-read_and_list l = 3 * l.left + 1

abbrev pub decreases-read_or_list : goal.decreases-read_or_list
decreases-read_or_list l = 3 * l.left + 2

abbrev pub decreases-read_unit : goal.decreases-read_unit
decreases-read_unit l = 3 * l.left

abbrev pub invariant-read_and_list-loop-unit : goal.invariant-read_and_list-loop-unit
invariant-read_and_list-loop-unit l = Before (and_kind l.left) l.text l.at l.fn.k l.initial.nodes l.first l.place l.count l.nodes

abbrev pub decreases-read_and_list-loop-unit : goal.decreases-read_and_list-loop-unit
decreases-read_and_list-loop-unit l = length l.text - l.place

abbrev pub invariant-read_or_list-loop-list : goal.invariant-read_or_list-loop-list
invariant-read_or_list-loop-list l = Before (or_kind l.left) l.text l.at l.fn.k l.initial.nodes l.first l.place l.count l.nodes

abbrev pub decreases-read_or_list-loop-list : goal.decreases-read_or_list-loop-list
decreases-read_or_list-loop-list l = length l.text - l.place
