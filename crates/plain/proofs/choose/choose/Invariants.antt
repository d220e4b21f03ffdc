use Rattle.meaning.specs.Card.{agent_for}
use Rattle.meaning.specs.Configurations.{state_of}
use Rattle.door.proofs.First.{Tried}
use Rattle.unpacked.specs.Truths.{configuration_from}
use Rattle.plain.proofs.choose.choose.Given as goal

abbrev pub invariant-loop-turn : goal.invariant-loop-turn
invariant-loop-turn l = Tried (agent_for l.card.layout l.card.bytes.now) (state_of (configuration_from l.u)).mental l.u.standing.phase l.turn
