use lib.ListN.{length, drop}
use mathlib.Core.Path.{◌≡◌}
use Rattle.choices.specs.Judged.{Marked}
use mathlib.Core.Bool.{true}
use Rattle.meaning.specs.Configurations.{state_of}
use Rattle.layout.specs.PlaceParts.{configured}
use Rattle.deliberate.proofs.Deliberating.{outcome, Deliberating}
use Rattle.deliberate.proofs.run.run_moves.Given as goal

abbrev pub invariant-loop-count : goal.invariant-loop-count
invariant-loop-count l =
    Deliberating l.card.layout l.card.bytes.now l.program l.budget (outcome l.card.layout l.card.bytes.now l.program l.budget (drop l.initial.here.top l.initial.stack) (state_of (configured l.initial.beliefs l.initial.goals l.initial.here.standing l.initial.plan))) (configured l.beliefs l.goals l.here.standing l.plan) l.stack l.here.top l.count
    × (length l.marks ≡ 256) × (l.known ≡ true → Marked l.card.layout l.card.bytes.now l.beliefs l.goals l.marks)
