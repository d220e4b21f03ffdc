use Rattle.meaning.specs.Configurations.{state_of}
use Rattle.moves.proofs.Running.{Running}
use Rattle.unpacked.specs.Truths.{configuration_from}
use Rattle.plain.proofs.run.run_on.Given as goal

abbrev pub invariant-loop-count : goal.invariant-loop-count
invariant-loop-count l = Running l.card.layout l.card.bytes.now l.budget (state_of (configuration_from l.initial.here)) (configuration_from l.here) l.count
