-- What a deliberation comes to, of what the code answers and leaves in the lent sets, the lent plan and the numbers that remain.
use Rattle.std.specs.Prelude.{◌≡◌, List, ℕ, ◌≤◌, length, drop}
use Rattle.paper.specs.Language.{𝐁}
use Rattle.meaning.specs.declared.Layout.{Layout}
use Rattle.meaning.specs.declared.Configuration.{Configuration}
use Rattle.meaning.specs.Card.{Bytes, conditions, agent_for}
use Rattle.meaning.specs.Configurations.{state_of, configuration_of}
use Rattle.door.specs.Ready.{Ready}
use Rattle.deliberation.specs.Entries.{entries_of}
use Rattle.deliberation.specs.Deliberate.{Outcome, deliberate}
use Rattle.program.specs.GoodProgram.{GoodProgram}
use Rattle.deliberate.specs.Made.{Remains}
use Rattle.deliberation.specs.declared.DeliberationEnding.{DeliberationEnding}
use Rattle.deliberate.specs.declared.made.MoveMade.{MoveMade}
use Rattle.deliberate.specs.declared.run.RanMoves.{RanMoves}

-- an accepted card, program and configuration, and a stack whose numbers from top on are accepted
pub record Starts (l : Layout) (b p : Bytes) (c : Configuration) (stack : Bytes) (top : ℕ) : Type 0 where
  pub ready : Ready l b c
  pub good : GoodProgram l b p
  pub remains : Remains p stack top

-- what a deliberation from a configuration and numbers comes to
abbrev pub outcome_of : Layout → Bytes → Bytes → ℕ → Configuration → List ℕ → Outcome
outcome_of l b p budget c ns = deliberate (agent_for l b) (conditions 𝐁 l b) (entries_of p) budget ns (state_of c)

-- of what the code answers, the configuration that it leaves, and the stack
pub record RanTo (o : Outcome) (r : RanMoves) (d : Configuration) (stack : Bytes) : Type 0 where
  pub count : r.count ≡ o.count
  pub ending : r.ending ≡ o.ending
  pub configuration : d ≡ configuration_of o.state
  pub numbers : drop r.top stack ≡ o.remaining
  pub within : r.top ≤ 128
  pub room : length stack ≡ 128

-- why a move that is not made ends a deliberation
abbrev pub stopped_by : MoveMade → DeliberationEnding
stopped_by MoveMade.On = DeliberationEnding.Spent
stopped_by MoveMade.Stuck = DeliberationEnding.Stuck
stopped_by MoveMade.Full = DeliberationEnding.Full
