use Rattle.meaning.specs.Card.{agent_for}
use Rattle.meaning.specs.Configurations.{state_of}
use Rattle.choices.specs.Judged.{AllSets}
use Rattle.door.proofs.First.{Tried}
use Rattle.choices.proofs.ask.choose.Given as goal

abbrev pub invariant-loop-t : goal.invariant-loop-t
invariant-loop-t l = AllSets l.card.layout l.card.bytes.now l.m l.plan l.marks (λ c. Tried (agent_for l.card.layout l.card.bytes.now) (state_of c).mental l.m.phase l.t)
