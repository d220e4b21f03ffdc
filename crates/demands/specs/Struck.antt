-- Goals are struck by the beliefs (02, Wish 5), of every answer that meets a call's contract (proved in proofs/).
use Rattle.std.specs.Prelude.{◌≡◌, ◌↔◌, true, false, List, ℕ, Ok}
use Rattle.std.proofs.Math.Option.{some}
use Rattle.paper.specs.Atoms.{◌∈◌}
use Rattle.paper.specs.Transitions.{act}
use Rattle.runs.specs.Theorems.{NoneBelieved}
use Rattle.meaning.specs.declared.Configuration.{Configuration}
use Rattle.meaning.specs.declared.Reply.{Reply}
use Rattle.meaning.specs.declared.Graded.{Graded}
use Rattle.meaning.specs.declared.Written.{Written}
use Rattle.meaning.specs.declared.Listed.{Listed}
use Rattle.meaning.specs.declared.Ran.{Ran}
use Rattle.meaning.specs.Card.{Bytes, layout, initial_beliefs, initial_goals}
use Rattle.meaning.specs.Place.{placed}
use Rattle.meaning.specs.Configurations.{state_of}
use Rattle.meaning.specs.Calls.{choice}
use Rattle.demands.specs.CallContracts.{Loads, Grades, Lists, Takes, Runs, Saves, Restores}

-- No goal of a configuration is believed.
abbrev pub Unbelieved : Configuration → Type 0
Unbelieved c = NoneBelieved (state_of c).mental

pub record Struck : Type 0 where
  -- 02, Wish 5: "the goals are those not believed, and at load likewise": of the card's own goals; the beliefs are the card's own.
  pub load : (b : Bytes) (r : Reply) → Loads b r → r.answer ≡ Ok tt
      → (r.configuration.mind.beliefs ≡ initial_beliefs (layout b) b) × ((k : ℕ) → (k ∈ r.configuration.mind.goals ≡ true)
      ↔ ((k ∈ initial_goals (layout b) b ≡ true) × (k ∈ r.configuration.mind.beliefs ≡ false)))
  -- 02, Wish 5: "after an action the goals are those not believed": the code is that of a specification, and the move is taken.
  pub action : (b : Bytes) (c : Configuration) (n i : ℕ) → choice n ≡ some (act i) → (r : Reply) → Takes b c n r → r.answer ≡ Ok tt
      → (k : ℕ) → (k ∈ r.configuration.mind.goals ≡ true)
      ↔ ((k ∈ c.mind.goals ≡ true) × (k ∈ r.configuration.mind.beliefs ≡ false))
  -- 01, "What the guide does": "grade the card": the empty configuration has no goal
  pub grade : (b : Bytes) (r : Graded) → Grades b r → Unbelieved r.configuration
  -- from a configuration where no goal is believed, no call reaches one where one is, whoever chooses
  pub list : (b : Bytes) (c : Configuration) (out left : List ℕ) (r : Listed) → Lists b c out r left → Unbelieved c
      → Unbelieved r.configuration
  pub take : (b : Bytes) (c : Configuration) (n : ℕ) (r : Reply) → Takes b c n r → Unbelieved c → Unbelieved r.configuration
  pub run : (b : Bytes) (c : Configuration) (budget : ℕ) (r : Ran) → Runs b c budget r → Unbelieved c → Unbelieved r.configuration
  pub save : (b : Bytes) (c : Configuration) (out left : Bytes) (r : Written) → Saves b c out r left → Unbelieved c
      → Unbelieved r.configuration
  -- 02, Wish 5: "Restore strikes nothing.": the goals are those of the place.
  pub restore : (b p : Bytes) (r : Reply) → Restores b p r → r.answer ≡ Ok tt → r.configuration.mind.goals ≡ (placed (layout b) p).mental.γ
