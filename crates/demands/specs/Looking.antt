-- How much the list looks at (02, Wish 11), of every answer that meets list's contract (proved in proofs/).
use Rattle.std.specs.Prelude.{◌≡◌, List, ℕ, ◌*◌, ◌≤◌, length, Ok}
use Rattle.paper.specs.Atoms.{◌∈◌}
use Rattle.runs.specs.Order.{numbers}
use Rattle.meaning.specs.declared.Configuration.{Configuration}
use Rattle.meaning.specs.declared.Listed.{Listed}
use Rattle.meaning.specs.Card.{Bytes, agent}
use Rattle.meaning.specs.Configurations.{state_of}
use Rattle.meaning.specs.Looking.{how_many, conditions_judged}
use Rattle.demands.specs.CallContracts.{Lists}

-- 02, Wish 11, of every answer. That both are 0 in a refusal is Demand1.list-hands-back.
pub record HowMuch : Type 0 where
  -- "how many conditions one listing judges. By definition: …. The listing reports that number"
  pub judged : (b : Bytes) (c : Configuration) (out left : List ℕ) (r : Listed) → Lists b c out r left → r.answer ≡ Ok tt
      → r.judged ≡ conditions_judged (agent b) (state_of c).mental
  -- "and it is at most 512"
  pub most : (b : Bytes) (c : Configuration) (out left : List ℕ) (r : Listed) → Lists b c out r left → r.judged ≤ 512
  -- "Also report how many goals are open": the atoms that are in the goals of the configuration that was handed in
  pub goals : (b : Bytes) (c : Configuration) (out left : List ℕ) (r : Listed) → Lists b c out r left → r.answer ≡ Ok tt
      → r.goals ≡ how_many (λ k. k ∈ c.mind.goals) (numbers 0 (8 * length c.mind.goals))
