-- What a transition comes to (01, "A configuration and its transitions").
use Rattle.std.specs.Prelude.{Bool, true, false, [], ◌∷◌, ℕ, suc, ◌+◌, ◌%◌, leb, length}
use Rattle.std.proofs.Math.Option.{Option, none, some}
use Rattle.paper.specs.Language.{Plan, Agent, Config}
use Rattle.paper.specs.Transitions.{Choice}
use Rattle.paper.specs.Next.{next}
use Rattle.runs.specs.Limits.{longest_plan, most_finished}
use Rattle.runs.specs.Order.{State, kind}

-- A number, or the most that there may be. Serves finished_with: 02, Wish 4: "stopping at 65,535".
abbrev pub up_to : ℕ → ℕ → ℕ
up_to most n = elim (leb n most) [ true ↦ n | false ↦ most ]

-- 02, Wish 4: "how many transitions have left the plan empty since load, stopping at 65,535": where they were n before a transition
-- that leaves this plan.
unfoldable pub finished_with : ℕ → Plan → ℕ
finished_with n [] = up_to most_finished (suc n)
finished_with n (a ∷ π) = n

-- 01, "A configuration and its transitions", The guide's order: "After any transition, the guide's or a chosen one, the phase
-- is the kind taken plus 1, modulo 3.": the state after the choice k is taken in the state s and leads to c.
unfoldable pub after : State → Choice → Config → State
after s k c = record { mental = c; phase = (kind k + 1) % 3; finished = finished_with s.finished c.π }

-- 01, "A configuration and its transitions": "a plan (0 to 1,024 action numbers)"; 00, demand 2: "its plan fits".
unfoldable pub fits : Config → Bool
fits c = leb (length c.π) longest_plan

-- What a transition comes to: there is none; it "would leave more than 1,024 actions, which is then not taken" (01, "A
-- configuration and its transitions"); or it leads to a state, by a choice.
pub data Reached : Type 0 where
  nothing full : Reached
  to : Choice → State → Reached

-- 00, demand 2: "A chosen move is taken exactly if it is such a transition and its plan fits."
unfoldable pub step : Agent → State → Choice → Reached
step A s k = elim (next A s.mental k) [
  | none ↦ nothing
  | some c ↦ elim (fits c) [ true ↦ to k (after s k c) | false ↦ full ]
]

-- The same of a choice, if there is one: of a code that stands for none, or of a guide at rest. Serves run and takes.
abbrev pub step_by : Agent → State → Option Choice → Reached
step_by A s none = nothing
step_by A s (some k) = step A s k
