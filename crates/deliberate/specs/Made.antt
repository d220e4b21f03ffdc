-- What a move comes to, as the code tells it and as it leaves the lent sets, the lent plan and the numbers that remain.
use Rattle.std.specs.Prelude.{◌≡◌, Bool, true, false, not, List, ◌∷◌, ℕ, ◌+◌, ◌≤◌, eqb, length, drop, set, get_or}
use Rattle.std.proofs.Math.Option.{Option, none}
use Rattle.paper.specs.Language.{Agent, Config}
use Rattle.paper.specs.Transitions.{Choice}
use Rattle.runs.specs.Kinds.{kind_number}
use Rattle.meaning.specs.declared.Standing.{Standing}
use Rattle.meaning.specs.declared.Layout.{Layout}
use Rattle.meaning.specs.declared.Node.{Node}
use Rattle.meaning.specs.declared.Configuration.{Configuration}
use Rattle.meaning.specs.Card.{Bytes, agent_for}
use Rattle.meaning.specs.Configurations.{state_of, configuration_of}
use Rattle.choices.specs.Judged.{Marked}
use Rattle.moves.specs.declared.step.Transition.{Transition}
use Rattle.deliberation.specs.Kinds.{EntryKind, Execute, Apply, Select, WhilePlan, WhileBelief, Then, Or, entry_kind}
use Rattle.deliberation.specs.FirstMove.{lowest_action, if_enabled}
use Rattle.deliberation.specs.Entries.{entry_count, move_at}
use Rattle.deliberation.specs.Deliberate.{MoveResult, stuck, too_long, on, move_result}
use Rattle.deliberation.specs.Stacked.{Stacked}
use Rattle.door.specs.Asking.{first_of_kind}
use Rattle.deliberate.specs.declared.made.Reached.{Reached}
use Rattle.deliberate.specs.Descent.{AtLeaf}
use Rattle.deliberate.specs.declared.made.MoveMade.{MoveMade}
use Rattle.deliberate.specs.declared.made.AfterMove.{AfterMove}

-- ---- what a move comes to

-- as the code tells it
abbrev pub made_of : MoveResult → MoveMade
made_of stuck = MoveMade.Stuck
made_of too_long = MoveMade.Full
made_of (on ns s) = MoveMade.On

-- the configuration afterwards: as it was, unless a move was made
abbrev pub configuration_after : MoveResult → Configuration → Configuration
configuration_after stuck c = c
configuration_after too_long c = c
configuration_after (on ns s) c = configuration_of s

-- the numbers that then remain: 02, Wish 6: "the remaining program", as it was, unless a move was made
abbrev pub numbers_after : MoveResult → List ℕ → List ℕ
numbers_after stuck ns = ns
numbers_after too_long ns = ns
numbers_after (on ns' s) ns = ns'

-- all of it, of what the code answers, the configuration d that it leaves, and the stack; marks of nodes that are said to be known
-- stay true
pub record Makes (l : Layout) (b : Bytes) (c : Configuration) (ns : List ℕ) (o : MoveResult) (r : AfterMove) (d : Configuration)
    (stack : Bytes) : Type 0 where
  pub made : r.made ≡ made_of o
  pub configuration : d ≡ configuration_after o c
  pub numbers : drop r.top stack ≡ numbers_after o ns
  pub within : r.top ≤ 128
  pub room : length stack ≡ 128
  pub keeps : r.known ≡ true → (marks : List ℕ) → Marked l b c.mind.beliefs c.mind.goals marks
      → Marked l b d.mind.beliefs d.mind.goals marks

-- 128 bytes of which those from top on are the numbers that remain, stacked
pub record Remains (p stack : Bytes) (top : ℕ) : Type 0 where
  pub room : length stack ≡ 128
  pub within : top ≤ 128
  pub stacked : Stacked (entry_count p) (drop top stack)

-- the first move of the number at top, and those behind it
abbrev pub MakesNext : Layout → Bytes → Bytes → Configuration → Bytes → ℕ → AfterMove → Configuration → Bytes → Type 0
MakesNext l b p c stack top r d left =
    Makes l b c (drop top stack) (move_result (agent_for l b) (state_of c) (move_at l b p (state_of c).mental (get_or stack top 0)) (drop (top + 1) stack)) r d left

-- ---- a move, by its parts

-- a move or none that leaves all but the numbers; the marks of the nodes stay true
abbrev pub stayed : Standing → MoveMade → ℕ → AfterMove
stayed m x top = record { standing = m; made = x; known = true; top = top }

-- the choice that an execute, an apply or a select takes, if it takes one (move_of); no other kind takes one by itself
abbrev pub taken : Agent → Config → EntryKind → ℕ → Option Choice
taken A s Execute a = lowest_action A s
taken A s Apply a = if_enabled A s (Choice.revise a)
taken A s Select a = if_enabled A s (Choice.select a)
taken A s WhilePlan a = none
taken A s WhileBelief a = none
taken A s Then a = none
taken A s Or a = none

-- the entry in which the first move of entry n is made, which has numbers behind it as ns stand behind n, and the lowest enabled
-- action where it is an execute
pub record Found (l : Layout) (b p : Bytes) (c : Configuration) (n : ℕ) (ns : List ℕ) (r : Reached) (stack : Bytes) : Type 0 where
  pub leaf : AtLeaf p stack r.leaf
  pub same : move_result (agent_for l b) (state_of c) (move_at l b p (state_of c).mental n) ns
      ≡ move_result (agent_for l b) (state_of c) (move_at l b p (state_of c).mental r.leaf.at) (drop r.leaf.top stack)
  pub action : r.leaf.entry.kind ≡ 0 → r.action ≡ first_of_kind l b c 1

-- what a transition comes to, as a move
abbrev pub made_by : Transition → MoveMade
made_by (Transition.Taken t) = MoveMade.On
made_by Transition.Nothing = MoveMade.Stuck
made_by Transition.Full = MoveMade.Full

-- only an action changes beliefs and goals
abbrev pub known_after : Transition → Bool
known_after (Transition.Taken t) = not (eqb (kind_number t.kind) 1)
known_after Transition.Nothing = true
known_after Transition.Full = true

-- both, of what a transition answers
abbrev pub moved_by : Standing → Transition → ℕ → AfterMove
moved_by m x top = record { standing = m; made = made_by x; known = known_after x; top = top }

-- whether a while's condition holds, by the plan's length or the mark of its node
pub data HoldsBy (e : Node) (n : ℕ) (mark : Bool) : Bool → Type 0 where
  by_plan : entry_kind e.kind ≡ WhilePlan → HoldsBy e n mark (not (eqb n 0))
  by_mark : entry_kind e.kind ≡ WhileBelief → HoldsBy e n mark mark

-- what remains after a while with number i, by whether its condition holds: its body, itself and the numbers behind it, or these
abbrev pub again : Bool → ℕ → ℕ → List ℕ → List ℕ
again true b i ns = b ∷ i ∷ ns
again false b i ns = ns

-- a move that is not made leaves the top as it was
abbrev pub kept_as : MoveMade → AfterMove → ℕ → AfterMove
kept_as MoveMade.On r top = r
kept_as MoveMade.Stuck r top = stayed r.standing MoveMade.Stuck top
kept_as MoveMade.Full r top = stayed r.standing MoveMade.Full top

-- and the number that stood there
abbrev pub kept_in : MoveMade → Bytes → ℕ → ℕ → Bytes
kept_in MoveMade.On stack top n = stack
kept_in MoveMade.Stuck stack top n = set stack top n
kept_in MoveMade.Full stack top n = set stack top n
