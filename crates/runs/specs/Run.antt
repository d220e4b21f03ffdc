-- A run with a budget, and the definition's own chain (01, "A configuration and its transitions").
use Rattle.std.specs.Prelude.{List, [], ◌∷◌, ℕ, zero, suc}
use Rattle.paper.specs.Language.{Agent, Config}
use Rattle.paper.specs.Transitions.{Choice, Step}
use Rattle.runs.specs.declared.Ending.{Ending}
use Rattle.runs.specs.Order.{State, guide}
use Rattle.runs.specs.Step.{nothing, full, to, step_by}

infixr 30 ◌then◌
-- 01, "A configuration and its transitions": "The count is the number of steps in the definition's own chain from the first
-- configuration to the last." Transitions of 004, Definitions 9 to 11, one after the other, with the choices that were made;
-- 00, demand 3: "whoever chooses".
pub data Chain (A : Agent) : Config → List Choice → Config → Type 0 where
  -- no step: the first configuration is the last
  stay : {c : Config} → Chain A c [] c
  -- one step, and the chain from where it leads
  ◌then◌ : {c c' c'' : Config} {k : Choice} {ks : List Choice} → Step A c k c' → Chain A c' ks c'' → Chain A c (k ∷ ks) c''

-- 01, "A configuration and its transitions": "A run takes a budget of 0 to 65,535 transitions and answers the configuration
-- reached, how many transitions were taken, and one of three endings."
pub record Outcome : Type 0 where
  -- 01, "A configuration and its transitions": "the configuration reached"
  pub state : State
  -- 01, "A configuration and its transitions": "how many transitions were taken"
  pub count : ℕ
  -- 01, "A configuration and its transitions": "one of three endings"
  pub ending : Ending

-- A run that ends where it is, with no transition taken. Serves run.
abbrev pub ended : Ending → State → Outcome
ended e s = record { state = s; count = 0; ending = e }

-- A run with one transition before it. Serves run: 01, "A configuration and its transitions": "how many transitions were
-- taken".
abbrev pub one_more : Outcome → Outcome
one_more o = record { state = o.state; count = suc o.count; ending = o.ending }

-- 01, "A configuration and its transitions": "The budget is looked at first: spent when the count has reached it; rest when no
-- transition exists; full when the transition to be taken would leave more than 1,024 actions, which is then not taken."
unfoldable pub run : Agent → ℕ → State → Outcome
run A zero s = ended Ending.Spent s
run A (suc budget) s = elim (step_by A s (guide A s)) [
  | nothing ↦ ended Ending.Rest s
  | full ↦ ended Ending.Full s
  | to k s' ↦ one_more (run A budget s')
]
