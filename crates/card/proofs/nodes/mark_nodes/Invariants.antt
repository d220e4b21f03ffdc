use Rattle.card.proofs.Laws.{MarkedTo}
use Rattle.card.proofs.nodes.mark_nodes.Given as goal

abbrev pub invariant-loop-i : goal.invariant-loop-i
invariant-loop-i l = MarkedTo 1 l.card.layout l.card.bytes.now l.marks l.i × MarkedTo 2 l.card.layout l.card.bytes.now l.marks l.i
