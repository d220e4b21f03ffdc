-- What is proved of the guide's order, of a run and of a card's grade (in proofs/).
use Rattle.std.specs.Prelude.{◌≡◌, ◌↔◌, true, false, ℕ, suc, ◌+◌, ◌*◌, ◌%◌, ◌≤◌, ◌<◌, length}
use mathlib.Core.List.{List, [], ◌∷◌, ◌++◌, Memᴰ}
use Rattle.std.proofs.Math.Option.{none, some}
use Rattle.paper.specs.Language.{Plan, Selection, Revision, Agent, Config}
use Rattle.paper.specs.Atoms.{◌∈◌}
use Rattle.paper.specs.Transitions.{Choice, act, Entry, Step}
use Rattle.paper.specs.Next.{is_empty}
use Rattle.runs.specs.Limits.{longest_plan, heaviest_plan, most_finished}
use Rattle.runs.specs.declared.Ending.{Ending}
use Rattle.runs.specs.declared.Offender.{Offender}
use Rattle.runs.specs.declared.Verdict.{Verdict}
use Rattle.runs.specs.Order.{State, kind, in_turn, guide, code, enabled_codes}
use Rattle.runs.specs.Step.{up_to, after, to, step}
use Rattle.runs.specs.Run.{Chain, stay, ◌then◌, Outcome, run}
use Rattle.runs.specs.Weight.{weigh, Bounded, verdict, selections}

-- 01, "A configuration and its transitions": "no transition exists"
abbrev pub AtRest : Agent → Config → Type 0
AtRest A c = (k : Choice) (c' : Config) → Step A c k c' → ⊥

-- 00, demand 2: "The guide's own order is document 01's.": what a choice is that the guide takes.
pub record GuideTakes (A : Agent) (s : State) (k : Choice) : Type 0 where
  -- 00, demand 2: "moves are those of Definitions 8 to 11 of source document 004": where it leads
  pub leads : (c : Config) × Step A s.mental k c
  -- the choices that were tried before it
  pub before : List Choice
  -- those that were not tried
  pub behind : List Choice
  -- 01, "A configuration and its transitions", The guide's order: "From phase p the kinds p, p+1, p+2 (modulo 3) are tried in
  -- turn."
  pub tried : in_turn A s.phase ≡ before ++ (k ∷ behind)
  -- 01, "A configuration and its transitions", The guide's order: "In the first kind with an enabled transition, the lowest
  -- number is taken.": none of the choices tried before it has a transition.
  pub passed : (j : Choice) → Memᴰ j before → (c : Config) → Step A s.mental j c → ⊥
  -- 01, "A configuration and its transitions", The guide's order: "the phase is the kind taken plus 1, modulo 3"
  pub phase : (s' : State) → step A s k ≡ to k s' → s'.phase ≡ (kind k + 1) % 3

-- 00, demand 2: "The guide's own order is document 01's."
pub record OrderLaws (A : Agent) (s : State) : Type 0 where
  -- 01, "A configuration and its transitions", The guide's order: each choice that the guide takes is as GuideTakes has it.
  pub takes : (k : Choice) → guide A s ≡ some k → GuideTakes A s k
  -- 01, "A configuration and its transitions", The guide's order: "If no kind has one the guide is at rest": it takes none
  -- exactly when no transition exists.
  pub rests : (guide A s ≡ none) ↔ AtRest A s.mental

-- 00, demand 2: "The guide's own order is document 01's.", of every agent and state.
abbrev pub OrderLaw : Type 0
OrderLaw = (A : Agent) (s : State) → OrderLaws A s

-- 01, "Numbers the guide may answer": "rising, each once": each number is over the one before it. Serves ListLaws.
pub data Rising : List ℕ → Type 0 where
  no_number : Rising []
  one_number : {n : ℕ} → Rising (n ∷ [])
  more_numbers : {m n : ℕ} {ns : List ℕ} → m < n → Rising (n ∷ ns) → Rising (m ∷ (n ∷ ns))

-- 00, the machine: "up to … 256 action specifications, 256 rules for choosing a plan": then no two choices have one code.
-- Serves ListLaws.
pub record Numbered (A : Agent) : Type 0 where
  -- 00, the machine: "256 rules for choosing a plan"
  pub selections : length A.PS ≤ 256
  -- 00, the machine: "256 action specifications"
  pub specifications : length A.AS ≤ 256

-- 01, "Numbers the guide may answer": "The list of enabled choices goes as two-byte numbers, rising, each once": exactly the
-- codes of the choices that have a transition.
pub record ListLaws (A : Agent) (c : Config) : Type 0 where
  -- 00, demand 2: "none missing"
  pub has : (k : Choice) (c' : Config) → Step A c k c' → Memᴰ (code k) (enabled_codes A c)
  -- 00, demand 2: "none added"
  pub only : (n : ℕ) → Memᴰ n (enabled_codes A c) → (k : Choice) × (code k ≡ n) × ((c' : Config) × Step A c k c')
  -- 01, "Numbers the guide may answer": "rising, each once"
  pub rising : Numbered A → Rising (enabled_codes A c)

-- The same of every agent and configuration.
abbrev pub ListLaw : Type 0
ListLaw = (A : Agent) (c : Config) → ListLaws A c

-- 01, "A configuration and its transitions": "the definition's own chain", where each choice is the guide's and what it leaves
-- fits. Serves Traced.
pub data Guided (A : Agent) : State → List Choice → State → Type 0 where
  -- no step
  ends : {s : State} → Guided A s [] s
  -- 01, "A configuration and its transitions": a transition that "would leave more than 1,024 actions" is "not taken"; the
  -- guide's own that fits is, and the phase goes on with it.
  goes : {s s'' : State} {k : Choice} {ks : List Choice} {c : Config} → guide A s ≡ some k → Step A s.mental k c
      → length c.π ≤ longest_plan → Guided A (after s k c) ks s'' → Guided A s (k ∷ ks) s''

-- 01, "A configuration and its transitions": "one of three endings. The budget is looked at first": why a run with a budget
-- ends after n transitions, at a state.
pub data Because (A : Agent) (budget n : ℕ) (s : State) : Ending → Type 0 where
  -- 01, "A configuration and its transitions": "spent when the count has reached it"
  is_spent : n ≡ budget → Because A budget n s Ending.Spent
  -- 01, "A configuration and its transitions": "rest when no transition exists"
  is_rest : n < budget → AtRest A s.mental → Because A budget n s Ending.Rest
  -- 01, "A configuration and its transitions": "full when the transition to be taken would leave more than 1,024 actions"
  is_full : n < budget → (k : Choice) (c : Config) → guide A s ≡ some k → Step A s.mental k c → longest_plan < length c.π
      → Because A budget n s Ending.Full

-- 02, Wish 4: "how many transitions have left the plan empty": how many of a chain's led to a configuration with an empty plan.
-- Serves Traced.
unfoldable pub emptied : {A : Agent} {c c' : Config} {ks : List Choice} → Chain A c ks c' → ℕ
emptied stay = 0
emptied (◌then◌ {c' = c'} x r) = elim (is_empty c'.π) [ true ↦ suc (emptied r) | false ↦ emptied r ]

-- 01, "A configuration and its transitions": "A run … answers the configuration reached, how many transitions were taken, and
-- one of three endings."
pub record Traced (A : Agent) (budget : ℕ) (s : State) (o : Outcome) : Type 0 where
  -- the choices that were made
  pub choices : List Choice
  -- 01, "A configuration and its transitions": "the definition's own chain from the first configuration to the last"
  pub chain : Chain A s.mental choices o.state.mental
  -- 00, demand 2: "The guide's own order is document 01's."
  pub guided : Guided A s choices o.state
  -- 01, "A configuration and its transitions": "The count is the number of steps in the definition's own chain"
  pub counted : o.count ≡ length choices
  -- 01, "A configuration and its transitions": "The budget is looked at first"
  pub because : Because A budget o.count o.state o.ending
  -- 00, demand 2: "With budget left it says "rest" exactly when no transition exists."
  pub rests_exactly : o.count < budget → (o.ending ≡ Ending.Rest) ↔ AtRest A o.state.mental
  -- 02, Wish 4: "how many transitions have left the plan empty since load, stopping at 65,535"
  pub finished : s.finished ≤ most_finished → o.state.finished ≡ up_to most_finished (s.finished + emptied chain)

-- 01, "What the contracts settle": "it fixes result and count by the definition's chain": for every agent, budget and state.
abbrev pub RunLaw : Type 0
RunLaw = (A : Agent) (budget : ℕ) (s : State) → Traced A budget s (run A budget s)

-- An outcome with n transitions before it. Serves StopLaw.
abbrev pub counted : ℕ → Outcome → Outcome
counted n o = record { state = o.state; count = n + o.count; ending = o.ending }

-- 01, "A configuration and its transitions", The guide's order: "It can be stopped between moves.": a run of j and one of k from
-- where it stopped are one run of both budgets. (A run of no budget says spent wherever it stands.)
abbrev pub StopLaw : Type 0
StopLaw = (A : Agent) (j k : ℕ) (s : State) → 1 ≤ k → run A (j + k) s ≡ counted (run A j s).count (run A k (run A j s).state)

-- 02, Wish 5: "goals are struck by the beliefs": no atom is both believed and a goal.
abbrev pub NoneBelieved : Config → Type 0
NoneBelieved c = (k : ℕ) → k ∈ c.γ ≡ true → k ∈ c.σ ≡ false

-- 02, Wish 5: "A goal falls when its fact is believed.", along the transitions of an agent, whoever chooses.
pub record GoalLaws (A : Agent) : Type 0 where
  -- 02, Wish 5: "after an action the goals are those not believed"
  pub after_action : {c c' : Config} {n : ℕ} → Step A c (act n) c' → NoneBelieved c'
  -- from a configuration where no goal is believed, none is reached where one is
  pub stays_so : {c c' : Config} {ks : List Choice} → Chain A c ks c' → NoneBelieved c → NoneBelieved c'
  -- goals never grow: one that is struck does not come back
  pub never_back : {c c' : Config} {ks : List Choice} → Chain A c ks c' → (k : ℕ) → k ∈ c.γ ≡ false → k ∈ c'.γ ≡ false

-- The same of every agent.
abbrev pub GoalLaw : Type 0
GoalLaw = (A : Agent) → GoalLaws A

-- 01, "Weight and grading": "the first offender: the initial plan, then selection rule n, then revision rule n, in that order":
-- it offends, and nothing that is asked before it does.
pub data Offends (w : ℕ → ℕ) (A : Agent) (initial : Plan) : Offender → Type 0 where
  -- 01, "Weight and grading": "the initial plan"
  initial_plan : heaviest_plan < weigh w initial → Offends w A initial Offender.InitialPlan
  -- 01, "Weight and grading": "then selection rule n"
  selection : {n : ℕ} (r : Selection) → weigh w initial ≤ heaviest_plan
      → ((i : ℕ) (x : Selection) → i < n → Entry A.PS i x → weigh w x.π ≤ heaviest_plan)
      → Entry A.PS n r → heaviest_plan < weigh w r.π → Offends w A initial (Offender.Selection n)
  -- 01, "Weight and grading": "then revision rule n"
  revision : {n : ℕ} (r : Revision) → weigh w initial ≤ heaviest_plan
      → ((i : ℕ) (x : Selection) → Entry A.PS i x → weigh w x.π ≤ heaviest_plan)
      → ((i : ℕ) (x : Revision) → i < n → Entry A.PR i x → weigh w x.πb < weigh w x.πₕ)
      → Entry A.PR n r → weigh w r.πₕ ≤ weigh w r.πb → Offends w A initial (Offender.Revision n)

-- 00, demand 3, sentence by sentence, of an agent, its initial plan and weights.
pub record GradeLaws (w : ℕ → ℕ) (A : Agent) (initial : Plan) : Type 0 where
  -- 00, demand 3: "A card is graded bounded exactly if its starting plans weigh at most 1,024 and each revision lowers the
  -- weight."
  pub exactly : (verdict w A initial ≡ Verdict.Bounded) ↔ Bounded w A initial
  -- 01, "Weight and grading": "Otherwise it is open, and the verdict carries the first offender"
  pub offender : (o : Offender) → verdict w A initial ≡ Verdict.Open o → Offends w A initial o
  -- 00, demand 3: "Under such a card, from a configuration whose plan weighs W, at most 1,024, no run of more than W
  -- transitions without a plan selection exists, whoever chooses"
  pub without_selection : verdict w A initial ≡ Verdict.Bounded → {c c' : Config} {ks : List Choice} → weigh w c.π ≤ heaviest_plan
      → Chain A c ks c' → selections ks ≡ 0 → length ks ≤ weigh w c.π
  -- 00, demand 3: "a run with S selections has at most W plus 1,025 times S transitions"
  pub with_selections : verdict w A initial ≡ Verdict.Bounded → {c c' : Config} {ks : List Choice} → weigh w c.π ≤ heaviest_plan
      → Chain A c ks c' → length ks ≤ weigh w c.π + 1025 * selections ks
  -- 00, demand 3: "no run, selections included, ever meets a plan too long"
  pub never_too_long : verdict w A initial ≡ Verdict.Bounded → {c c' : Config} {ks : List Choice} → weigh w c.π ≤ heaviest_plan
      → Chain A c ks c' → length c'.π ≤ longest_plan
  -- 02, Wish 10: "a plan weighing at most 1,024": under such a card, from such a plan, no run leads to a heavier one
  pub stays_light : verdict w A initial ≡ Verdict.Bounded → {c c' : Config} {ks : List Choice} → weigh w c.π ≤ heaviest_plan
      → Chain A c ks c' → weigh w c'.π ≤ heaviest_plan
  -- 00, demand 3, the same sentence, of the guide's own run: its ending is never what 01, "A configuration and its transitions"
  -- has as "full".
  pub never_full : verdict w A initial ≡ Verdict.Bounded → (s : State) (budget : ℕ) → weigh w s.mental.π ≤ heaviest_plan
      → (run A budget s).ending ≡ Ending.Full → ⊥

-- 00, demand 3, for weights of which 01, "Weight and grading" has: "Each action weighs 1 to 1,024." At least 1 is enough.
abbrev pub BoundedLaw : Type 0
BoundedLaw = (w : ℕ → ℕ) → ((a : ℕ) → 1 ≤ w a) → (A : Agent) (initial : Plan) → GradeLaws w A initial
