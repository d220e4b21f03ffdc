use Rattle.meaning.specs.Card.{tree_at}
use Rattle.notation.specs.Printing.{text_of}
use Rattle.printer.specs.Tasks.{works, tasks}
use Rattle.printer.proofs.Writing.{WritingOn}
use Rattle.printer.proofs.write.write_text.Given as goal

abbrev pub invariant-loop-top : goal.invariant-loop-top
invariant-loop-top l = WritingOn l.card.layout l.card.bytes.now (text_of (tree_at l.card.layout l.card.bytes.now l.node)) l.initial.out l.stack l.top l.out l.at

abbrev pub decreases-loop-top : goal.decreases-loop-top
decreases-loop-top l = works l.card.layout l.card.bytes.now (tasks l.stack l.top)
