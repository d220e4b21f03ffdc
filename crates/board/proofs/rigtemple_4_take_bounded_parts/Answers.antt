use Rattle.layout.specs.PlaceParts.{configured}
use Rattle.bounded.proofs.Narrow.{bounded_node_narrow}
use Rattle.meaning.specs.declared.Standing.{Standing}
use Rattle.meaning.specs.BoundedCalls.{bounded_takes}
use mathlib.Core.Path.{ap, ◌∙◌}
use native.Mathlib.Omega.{arith}
use Rattle.board.proofs.rigtemple_4_take_bounded_parts.Goals as goal

pub overflow_cast-node : goal.overflow_cast-node
overflow_cast-node c =
    let a = c.args in
    let e = c.take-taken.ensures ∙ ap (λ (x : Standing). bounded_takes a.card.now (configured a.beliefs.now a.goals.now x a.plan.now) a.choice) c.standing.ensures in
    let h = bounded_node_narrow a.card.now _ a.choice _ e in
    omega (arith, c.bounded_answer_carried.ensures)
