use Rattle.paper.specs.Next.{is_some}
use Rattle.deliberation.specs.FirstMove.{lowest_action}
use Rattle.meaning.specs.Configurations.{state_of}
use Rattle.meaning.specs.Card.{agent_for}
use Rattle.deliberate.specs.First.{Movable}
use Rattle.choices.specs.Judged.{AllSets}
use mathlib.Core.Path.{◌≡◌}
use lib.ListN.{length}
use Rattle.deliberate.proofs.first.mark_moves.Given as goal

abbrev pub invariant-loop-i : goal.invariant-loop-i
invariant-loop-i l = (length l.movable ≡ 16)
    × AllSets l.card.layout l.card.bytes.now l.m l.plan l.marks (λ c. l.acts ≡ is_some (lowest_action (agent_for l.card.layout l.card.bytes.now) (state_of c).mental) → Movable l.card.layout l.card.bytes.now l.program c l.i l.movable)
