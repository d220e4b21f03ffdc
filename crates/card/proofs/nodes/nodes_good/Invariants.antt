use Rattle.sets.proofs.Loops.{Kept}
use Rattle.meaning.specs.Refusals.{node_good}
use Rattle.meaning.specs.Card.{node_at}
use Rattle.card.proofs.nodes.nodes_good.Given as goal

abbrev pub invariant-loop-i : goal.invariant-loop-i
invariant-loop-i l = Kept (λ i. node_good l.card.layout.atoms i (node_at l.card.layout l.card.bytes.now i)) l.card.layout.nodes.count l.good l.i
