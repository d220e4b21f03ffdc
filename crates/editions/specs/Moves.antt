-- Transitions with sets in 32 bytes are those with sets in 16 (02, Wish 9: "Accepted edition 1 files are read as before"): each set
-- of an agent and of a configuration is put into the 32 bytes that a configuration has for it, and nothing else comes of a
-- move, a list, a run or a verdict (proved in proofs/).
use Rattle.std.specs.Prelude.{◌≡◌, map, ℕ, ◌≤◌, length}
use Rattle.paper.specs.Atoms.{◌∈◌}
use Rattle.paper.specs.Language.{Plan, Specification, Agent, Config, ⟨◌/◌/◌⟩}
use Rattle.paper.specs.Transitions.{Choice, Step}
use Rattle.runs.specs.Order.{State, enabled_codes}
use Rattle.runs.specs.Step.{Reached, nothing, full, to, step}
use Rattle.runs.specs.Run.{Outcome, run}
use Rattle.runs.specs.Weight.{verdict}
use Rattle.meaning.specs.declared.Layout.{Layout}
use Rattle.meaning.specs.Sizes.{edition2_set}
use Rattle.meaning.specs.Card.{Bytes, widened}
use Rattle.meaning.specs.Why.{why}
use Rattle.meaning.specs.Looking.{conditions_judged, goals_open}
use Rattle.meaning.specs.Calls.{coming}

-- ---- sets of 16 bytes in 32

-- A state as edition 1 has it: 01, "The card, edition 1": "A set of atoms is 16 bytes".
abbrev pub OfSixteen : State → Type 0
OfSixteen s = (length s.mental.σ ≡ 16) × (length s.mental.γ ≡ 16)

-- A specification with each set in the 32 bytes that a configuration has for it.
unfoldable pub widened_specification : Specification → Specification
widened_specification s = record { β = s.β; a = s.a; Add = widened s.Add; Del = widened s.Del }

-- The same of an agent: its rules have no sets.
unfoldable pub widened_agent : Agent → Agent
widened_agent A = record { PS = A.PS; PR = A.PR; AS = map widened_specification A.AS }

-- The same of beliefs and goals.
unfoldable pub widened_config : Config → Config
widened_config c = ⟨ widened c.σ / c.π / widened c.γ ⟩

-- The same of a state.
unfoldable pub widened_state : State → State
widened_state s = record { mental = widened_config s.mental; phase = s.phase; finished = s.finished }

-- 01, "The card, edition 1": "atom k is bit (k modulo 8) of byte (k divided by 8)": the bytes above hold no atom.
abbrev pub SameMembers : Type 0
SameMembers = (k : ℕ) (s : Bytes) → k ∈ widened s ≡ k ∈ s

-- The same of what a transition comes to.
unfoldable pub widened_reached : Reached → Reached
widened_reached nothing = nothing
widened_reached full = full
widened_reached (to k s) = to k (widened_state s)

-- The same of what a run comes to: its count and its ending have no sets.
unfoldable pub widened_outcome : Outcome → Outcome
widened_outcome o = record { state = widened_state o.state; count = o.count; ending = o.ending }

-- ---- moves

-- Its sets have no more than the 32 bytes that they are put into.
abbrev pub SetsFit : Config → Type 0
SetsFit c = (length c.σ ≤ edition2_set) × (length c.γ ≤ edition2_set)

-- What an agent answers, with its sets and the configuration's in 32 bytes and as they are: the same.
pub record MovesAsBefore (A : Agent) : Type 0 where
  -- 00, demand 2: "moves are those of Definitions 8 to 11 of source document 004", "none missing"
  pub none_missing : (c c' : Config) (k : Choice) → SetsFit c → Step A c k c' → Step (widened_agent A) (widened_config c) k (widened_config c')
  -- "none added"
  pub none_added : (c d : Config) (k : Choice) → SetsFit c → Step (widened_agent A) (widened_config c) k d
      → (c' : Config) × (Step A c k c' × (d ≡ widened_config c'))
  -- 01, "Numbers the guide may answer": "The list of enabled choices"
  pub listed : (c : Config) → SetsFit c → enabled_codes (widened_agent A) (widened_config c) ≡ enabled_codes A c
  -- 02, Wish 11: "how many conditions one listing judges"
  pub judged : (c : Config) → conditions_judged (widened_agent A) (widened_config c) ≡ conditions_judged A c
  -- 02, Wish 11: "how many goals are open"
  pub goals : (c : Config) → SetsFit c → goals_open (widened_config c) ≡ goals_open c
  -- 01, "What the guide does": "take a chosen move"
  pub taken : (s : State) (k : Choice) → SetsFit s.mental → step (widened_agent A) (widened_state s) k ≡ widened_reached (step A s k)
  -- 00, the card: "The guide shows the next move."
  pub told : (s : State) → SetsFit s.mental → coming (widened_agent A) (widened_state s) ≡ coming A s
  -- 01, "What the guide does": "run by itself"
  pub ran : (s : State) (budget : ℕ) → SetsFit s.mental → run (widened_agent A) budget (widened_state s) ≡ widened_outcome (run A budget s)
  -- 01, "What the guide does": "grade the card"
  pub graded : (w : ℕ → ℕ) (π : Plan) → verdict w (widened_agent A) π ≡ verdict w A π

-- 02, Wish 1: why a choice is closed, and the node that settled it, are told as before.
abbrev pub ClosedAsBefore : Type 0
ClosedAsBefore = (l : Layout) (b : Bytes) (c : Config) (k : Choice) → why l b (widened_config c) k ≡ why l b c k
