use Rattle.sets.proofs.Loops.{Kept}
use Rattle.card.specs.Entries.{entry_good}
use Rattle.layout.specs.Entries.{count_of}
use Rattle.runs.specs.Kinds.{kind_number}
use Rattle.card.proofs.rules.entries_good.Given as goal

abbrev pub invariant-loop-i : goal.invariant-loop-i
invariant-loop-i l = Kept (entry_good l.card.layout l.card.bytes.now (kind_number l.kind)) (count_of l.card.layout (kind_number l.kind)) l.good l.i
