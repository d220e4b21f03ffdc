use mathlib.Core.Path.{◌≡◌}
use lib.ListN.{length}
use Rattle.runs.specs.Kinds.{kind_number}
use Rattle.meaning.specs.Configurations.{state_of}
use Rattle.door.specs.Asking.{asked, choice_at}
use Rattle.unpacked.specs.Truths.{configuration_from}
use Rattle.plain.specs.Asking.{Asks}
use Rattle.plain.proofs.ask.ask_kind.Given as goal

abbrev pub invariant-loop-number : goal.invariant-loop-number
invariant-loop-number l = (length l.answers ≡ 256) × Asks (λ i. asked l.card.layout l.card.bytes.now (state_of (configuration_from l.u)).mental (choice_at (kind_number l.kind) i)) l.number l.answers
