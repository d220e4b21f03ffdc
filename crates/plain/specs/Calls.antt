-- What the calls of the plain engine answer, packed.
use Rattle.std.specs.Prelude.{ℕ, ◌*◌, ◌%◌, List, get_or, Ok}
use Rattle.meaning.specs.declared.Reply.{Reply}
use Rattle.meaning.specs.declared.Ran.{Ran}
use Rattle.meaning.specs.Card.{Bytes}
use Rattle.meaning.specs.Calls.{reply}
use Rattle.door.specs.declared.asked.Asked.{Asked}
use Rattle.door.specs.declared.asked.Choice.{Choice}
use Rattle.moves.specs.declared.step.Transition.{Transition}
use Rattle.moves.specs.Steps.{taken_to}
use Rattle.listing.specs.Listed.{codes_of}
use Rattle.listing.specs.Looking.{look_by}
use Rattle.unpacked.specs.declared.configuration.Unpacked.{Unpacked}
use Rattle.unpacked.specs.Truths.{configuration_from}
use Rattle.plain.specs.declared.make.Made.{Made}
use Rattle.plain.specs.declared.load.Answered.{Answered}
use Rattle.plain.specs.declared.run.RunsTo.{RunsTo}

-- a move taken, by a choice, which leaves a plan of n actions
abbrev pub taken_from : Choice → Unpacked → Bytes → ℕ → Made
taken_from t u p n = record {
  transition = Transition.Taken t;
  unpacked = record { beliefs = u.beliefs; goals = u.goals; plan = p; standing = (taken_to n u.standing.finished t).standing };
}

-- of a chosen move
abbrev pub reply_from : Answered → Reply
reply_from r = reply r.answer (configuration_from r.unpacked)

-- of a run
abbrev pub ran_from : RunsTo → Ran
ran_from r = record { answer = Ok tt; count = r.count; ending = r.ending; configuration = configuration_from r.unpacked }

-- the codes of the enabled choices of a kind
abbrev pub codes_from : List Asked → ℕ → List ℕ
codes_from answers kind = codes_of (λ k. (look_by (get_or answers (k % 256) Asked.NoRule)).enabled) (256 * kind) 256
