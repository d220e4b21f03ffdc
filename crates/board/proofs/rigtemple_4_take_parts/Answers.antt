use Rattle.layout.specs.PlaceParts.{configured}
use Rattle.demands.proofs.Showing.{node_narrow}
use Rattle.meaning.specs.declared.Standing.{Standing}
use Rattle.meaning.specs.Calls.{takes}
use mathlib.Core.Path.{ap, ◌∙◌}
use native.Mathlib.Omega.{arith}
use Rattle.board.proofs.rigtemple_4_take_parts.Goals as goal

pub overflow_cast-node : goal.overflow_cast-node
overflow_cast-node c =
    let a = c.args in
    let e = c.take-taken.ensures ∙ ap (λ (x : Standing). takes a.card.now (configured a.beliefs.now a.goals.now x a.plan.now) a.choice) c.standing.ensures in
    let h = node_narrow a.card.now _ a.choice _ e in
    omega (arith, c.answer_carried.ensures)
