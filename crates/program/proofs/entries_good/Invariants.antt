use Rattle.deliberation.specs.Entries.{entry_of, entry_good}
use Rattle.card.specs.Marks.{Marks}
use Rattle.meaning.specs.Refusals.{containing}
use Rattle.meaning.specs.Card.{Bytes}
use Rattle.sets.proofs.Loops.{Kept}
use Rattle.program.proofs.entries_good.Given as goal

abbrev pub invariant-loop-i : goal.invariant-loop-i
invariant-loop-i l = (b : Bytes) → Marks 2 l.l b l.marks → Kept (λ i. entry_good (containing 2 l.l b) l.l i (entry_of l.program i)) l.n l.good l.i
