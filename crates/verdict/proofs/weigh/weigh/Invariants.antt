use Rattle.std.proofs.Common.{◌≡◌, ◌+◌, ◌*◌, ◌≤◌, drop}
use Rattle.meaning.specs.Card.{weight}
use Rattle.runs.specs.Weight.{weigh}
use Rattle.verdict.proofs.weigh.weigh.Given as goal

abbrev pub invariant-loop-action : goal.invariant-loop-action
invariant-loop-action l =
    (l.total ≤ 1024 * l.action-index)
    × (l.total + weigh (weight l.card.bytes.now) (drop l.action-index l.action-items) ≡ weigh (weight l.card.bytes.now) l.action-items)
