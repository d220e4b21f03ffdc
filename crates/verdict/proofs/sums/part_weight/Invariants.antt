use Rattle.meaning.specs.Card.{part, weight}
use Rattle.runs.specs.Weight.{weigh}
use mathlib.Core.Path.{◌≡◌}
use Prim.Native.Nat.{◌+◌, ◌*◌, ◌≤◌}
use lib.ListN.{drop}
use Rattle.verdict.proofs.sums.part_weight.Given as goal

abbrev pub invariant-loop-i : goal.invariant-loop-i
invariant-loop-i l = (l.total ≤ 1024 * l.i) × (l.total + weigh (weight l.card) (drop l.i (part l.card l.at l.n)) ≡ weigh (weight l.card) (part l.card l.at l.n))
