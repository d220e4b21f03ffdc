-- A configuration as it is handed in and out, and the state that it stands for (01, "A configuration and its transitions").
use Rattle.std.specs.Prelude.{[], ◌++◌, ◌-◌, length, take, replicate}
use Rattle.paper.specs.Language.{Plan, ⟨◌/◌/◌⟩}
use Rattle.runs.specs.Limits.{longest_plan}
use Rattle.runs.specs.Order.{State}
use Rattle.meaning.specs.Sizes.{edition2_set}
use Rattle.meaning.specs.Card.{Bytes}
use Rattle.meaning.specs.declared.Mind.{Mind}
use Rattle.meaning.specs.declared.Configuration.{Configuration}

-- A plan in its 1,024 bytes, with zeros after its end. Serves configuration_of: 01, "Numbers the guide may answer", row 13:
-- "anything but zero after the plan's end" is refused.
unfoldable pub padded : Plan → Bytes
padded π = π ++ replicate (longest_plan - length π) 0

-- 01, "A configuration and its transitions": "A configuration is a set of believed atoms, a set of goal atoms, a plan (0 to
-- 1,024 action numbers) and a phase 0, 1 or 2.", and 02, Wish 4, the count: the one that is handed in.
unfoldable pub state_of : Configuration → State
state_of c = record {
  mental = ⟨ c.mind.beliefs / take c.mind.length c.plan / c.mind.goals ⟩;
  phase = c.mind.phase;
  finished = c.mind.finished;
}

-- The same sentence: all of the one that is handed out but its plan's actions. Serves configuration_of.
abbrev pub mind_of : State → Mind
mind_of s = record {
  beliefs = s.mental.σ;
  goals = s.mental.γ;
  length = length s.mental.π;
  phase = s.phase;
  finished = s.finished;
}

-- The same sentence: the one that is handed out, its plan with zeros after its end.
unfoldable pub configuration_of : State → Configuration
configuration_of s = record { mind = mind_of s; plan = padded s.mental.π }

-- 01, "Numbers the guide may answer": "the empty one (no atoms, empty plan, phase 0)". No transition has left its plan empty
-- (docs/DECISIONS.md, "Where the count begins").
unfoldable pub empty : Configuration
empty = configuration_of (record { mental = ⟨ replicate edition2_set 0 / [] / replicate edition2_set 0 ⟩; phase = 0; finished = 0 })
