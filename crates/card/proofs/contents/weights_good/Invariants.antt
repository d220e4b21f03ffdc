use Rattle.sets.proofs.Loops.{Kept}
use Rattle.meaning.specs.Refusals.{within}
use Rattle.meaning.specs.Card.{weight_at}
use Rattle.card.proofs.contents.weights_good.Given as goal

abbrev pub invariant-loop-a : goal.invariant-loop-a
invariant-loop-a l = Kept (λ a. within 1 1024 (weight_at l.card.layout l.card.bytes.now a)) l.card.layout.actions l.good l.a
