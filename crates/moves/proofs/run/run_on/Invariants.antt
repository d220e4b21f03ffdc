use mathlib.Core.Bool.{true}
use lib.ListN.{length}
use Rattle.meaning.specs.Configurations.{state_of}
use Rattle.choices.specs.Judged.{Marked}
use Rattle.moves.proofs.Running.{Running}
use Rattle.layout.specs.PlaceParts.{configured}
use mathlib.Core.Path.{◌≡◌}
use Rattle.moves.proofs.run.run_on.Given as goal

abbrev pub invariant-loop-count : goal.invariant-loop-count
invariant-loop-count l =
    Running l.card.layout l.card.bytes.now l.budget (state_of (configured l.initial.beliefs l.initial.goals l.initial.cur l.initial.plan)) (configured l.beliefs l.goals l.cur l.plan) l.count × (length l.marks ≡ 256)
    × (l.known ≡ true → Marked l.card.layout l.card.bytes.now l.beliefs l.goals l.marks)
