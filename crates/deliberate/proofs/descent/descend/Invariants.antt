use Rattle.paper.specs.Atoms.{◌∈◌}
use Rattle.deliberate.proofs.Descending.{Descended}
use Rattle.deliberation.specs.Entries.{entry_of}
use mathlib.Core.Path.{◌≡◌}
use Rattle.deliberate.proofs.descent.descend.Given as goal

abbrev pub invariant-loop-e : goal.invariant-loop-e
invariant-loop-e l = Descended l.program (λ j. j ∈ l.movable) l.initial.at l.top l.initial.stack l.stack l.at l.rest × (l.e ≡ entry_of l.program l.at)

abbrev pub decreases-loop-e : goal.decreases-loop-e
decreases-loop-e l = l.at
