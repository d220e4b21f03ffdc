use Rattle.meaning.specs.Configurations.{state_of}
use Rattle.choices.specs.Judged.{AllSets}
use Rattle.door.proofs.First.{LeftOf}
use Rattle.choices.proofs.ask.first_of_kind.Given as goal

abbrev pub invariant-loop-number : goal.invariant-loop-number
invariant-loop-number l = AllSets l.card.layout l.card.bytes.now l.m l.plan l.marks (λ c. LeftOf l.card.layout l.card.bytes.now (state_of c).mental l.kind l.number)
