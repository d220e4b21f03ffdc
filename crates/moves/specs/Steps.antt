-- What a transition comes to, as the code tells it and as it leaves the lent sets and plan.
use Rattle.std.specs.Prelude.{◌≡◌, true, ℕ, zero, suc, ◌+◌, ◌%◌, Ok, Err}
use Rattle.paper.specs.Atoms.{Atoms}
use Rattle.paper.specs.Transitions.{Choice}
use Rattle.paper.specs.Next.{enabled}
use Rattle.runs.specs.Limits.{most_finished}
use Rattle.runs.specs.Kinds.{kind_number}
use Rattle.runs.specs.Order.{guide}
use Rattle.runs.specs.Step.{up_to, Reached, nothing, full, to, step, step_by}
use Rattle.meaning.specs.declared.Refusal.{Refusal}
use Rattle.meaning.specs.Answers.{Answer}
use Rattle.meaning.specs.declared.Layout.{Layout}
use Rattle.meaning.specs.declared.Standing.{Standing}
use Rattle.meaning.specs.declared.Configuration.{Configuration}
use Rattle.meaning.specs.declared.Reply.{Reply}
use Rattle.meaning.specs.Card.{Bytes, agent_for, agent}
use Rattle.meaning.specs.Configurations.{state_of, configuration_of}
use Rattle.meaning.specs.Refusals.{configuration_answer}
use Rattle.meaning.specs.Calls.{reply}
use Rattle.layout.specs.PlaceParts.{configured}
use Rattle.door.specs.declared.asked.Choice as Told
use Rattle.door.specs.Ready.{Ready}
use Rattle.door.specs.Asking.{told}
use Rattle.moves.specs.declared.step.Transition.{Transition}
use Rattle.moves.specs.declared.step.Stepped.{Stepped}

-- what a transition comes to, as the code tells it
abbrev pub transition_of : Reached → Transition
transition_of nothing = Transition.Nothing
transition_of full = Transition.Full
transition_of (to k s) = Transition.Taken (told k)

-- the configuration afterwards: as it came in, unless a transition was taken
abbrev pub configuration_after : Reached → Configuration → Configuration
configuration_after nothing c = c
configuration_after full c = c
configuration_after (to k s) c = configuration_of s

-- both, of what the code tells and of the configuration that it leaves
abbrev pub Steps : Reached → Configuration → Transition → Configuration → Type 0
Steps o c t d = (t ≡ transition_of o) × (d ≡ configuration_after o c)

-- of a card's choice
abbrev pub StepsBy : Layout → Bytes → Configuration → Choice → Transition → Configuration → Type 0
StepsBy l b c k t d = Steps (step (agent_for l b) (state_of c) k) c t d

-- of the guide's own
abbrev pub Advances : Layout → Bytes → Configuration → Transition → Configuration → Type 0
Advances l b c t d = Steps (step_by (agent_for l b) (state_of c) (guide (agent_for l b) (state_of c))) c t d

-- the guide's own move on any card and configuration: none where they are refused
unfoldable pub own_move : Bytes → Configuration → Reached
own_move b c = elim (configuration_answer b c) [ Ok _ ↦ step_by (agent b) (state_of c) (guide (agent b) (state_of c)) | Err r ↦ nothing ]

-- a choice of a card is enabled
abbrev pub Enabled : Layout → Bytes → Configuration → Choice → Type 0
Enabled l b c k = enabled (agent_for l b) (state_of c).mental k ≡ true

-- an accepted card and configuration, of some beliefs and goals, in which a choice is enabled: what is no action looks at no set
pub record SomeOpen (l : Layout) (b : Bytes) (m : Standing) (p : Bytes) (k : Choice) : Type 0 where
  pub beliefs : Atoms
  pub goals : Atoms
  pub ready : Ready l b (configured beliefs goals m p)
  pub may : Enabled l b (configured beliefs goals m p) k

-- what is so of whichever beliefs and goals it is enabled in
abbrev pub AllOpen : Layout → Bytes → Standing → Bytes → Choice → (Atoms → Atoms → Type 0) → Type 0
AllOpen l b m p k so = (σ γ : Atoms) → Ready l b (configured σ γ m p) → Enabled l b (configured σ γ m p) k → so σ γ

-- the finished count after a transition that leaves so many actions, where it was f before: finished_with, by the plan's length
abbrev pub finished_at : ℕ → ℕ → ℕ
finished_at f zero = up_to most_finished (suc f)
finished_at f (suc n) = f

-- a transition taken: the plan's length, the finished count before, and the choice
abbrev pub taken_to : ℕ → ℕ → Told.Choice → Stepped
taken_to n f t = record {
  standing = record { length = n; phase = (kind_number t.kind + 1) % 3; finished = finished_at f n };
  transition = Transition.Taken t;
}

-- 01, "Numbers the guide may answer", rows 0 and 11; q is the refusal of a choice that has no transition
abbrev pub answer_to : Refusal → Transition → Answer
answer_to q (Transition.Taken t) = Ok tt
answer_to q Transition.Nothing = Err q
answer_to q Transition.Full = Err Refusal.PlanFull

-- what taking a choice answers
abbrev pub taken_by : Refusal → Reached → Configuration → Reply
taken_by q o c = reply (answer_to q (transition_of o)) (configuration_after o c)
