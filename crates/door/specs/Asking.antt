-- What judging a condition and asking for a choice answer, and the guide's own choice, as the code tells them.
use Rattle.std.specs.Prelude.{Bool, not, ◌&&◌, ℕ, ltb, Ok, Err, Some, None}
use Rattle.std.specs.Prelude as Std
use Rattle.std.proofs.Math.Option.{Option, none, some}
use Rattle.paper.specs.Language.{Letter, 𝐁, 𝐆, Config}
use Rattle.paper.specs.Transitions.{◌⊨◌, Choice, select, act, revise}
use Rattle.paper.specs.Next.{if, is_empty, starts_with, is_prefix, enabled}
use Rattle.runs.specs.declared.Kind.{Kind}
use Rattle.runs.specs.Kinds.{kind_number}
use Rattle.runs.specs.Order.{by_kind, of_kind, first}
use Rattle.meaning.specs.declared.Refusal.{Refusal}
use Rattle.meaning.specs.Answers.{Answer}
use Rattle.meaning.specs.declared.Layout.{Layout}
use Rattle.meaning.specs.declared.Configuration.{Configuration}
use Rattle.meaning.specs.Card.{Bytes, conditions, condition, plan, specification_at, selection_at, revision_at, agent_for}
use Rattle.meaning.specs.Why.{settler}
use Rattle.meaning.specs.Configurations.{state_of}
use Rattle.door.specs.declared.asked.Asked.{Asked}
use Rattle.door.specs.declared.asked.Choice as Told

-- 02, Wish 1: "Judging a condition should also name the atom that settled it": the value of the condition of node n, read by a
-- letter, and the node that settled it
abbrev pub judging : Letter → Layout → Bytes → Config → ℕ → Bool × ℕ
judging L l b c n = (c ⊨ condition (conditions L l b) n, settler L l b c n)

-- both of two conditions: whether they hold, and the node of the first where that is false, else of the second. 02, Wish 1: "the
-- belief condition before the goal condition", and of an "and" "the left child's where the left alone settles the value, else the
-- right's"
abbrev pub both : Bool × ℕ → Bool × ℕ → Bool × ℕ
both p q = (p.0 && q.0, if (not p.0) p.1 q.1)

-- 02, Wish 1: "14 no such rule or specification", or there is
abbrev pub is_there : Layout → Choice → Bool
is_there l (select n) = ltb n l.selections.count
is_there l (act n) = ltb n l.specifications.count
is_there l (revise n) = ltb n l.revisions.count

-- 02, Wish 1: "15 the plan's front doesn't fit (empty, not empty, other first action, other head)", or it does
abbrev pub front_fits : Layout → Bytes → Config → Choice → Bool
front_fits l b c (select n) = is_empty c.π
front_fits l b c (act n) = starts_with (specification_at l b n).action c.π
front_fits l b c (revise n) = is_prefix (plan l b (revision_at l b n).head) c.π

-- 02, Wish 1: "16 a condition is false, with the node, the belief condition before the goal condition.", or both hold
abbrev pub conditions_of : Layout → Bytes → Config → Choice → Bool × ℕ
conditions_of l b c (select n) = both (judging 𝐁 l b c (selection_at l b n).belief) (judging 𝐆 l b c (selection_at l b n).goal)
conditions_of l b c (act n) = judging 𝐁 l b c (specification_at l b n).node
conditions_of l b c (revise n) = judging 𝐁 l b c (revision_at l b n).node

-- by the answers to the three: 02, Wish 1: "in its place and this order"
abbrev pub asked_by : Bool → Bool → Bool × ℕ → Asked
asked_by there front p = if there (if front (if p.0 Asked.Enabled (Asked.Condition p.1)) Asked.Front) Asked.NoRule

-- 02, Wish 1: "Say why a move is closed.", if it is; "Whoever judges a condition passes it on" (proofs/Asking.antt,
-- `asked_enabled`; proofs/Refusals.antt, `why_asked`)
unfoldable pub asked : Layout → Bytes → Config → Choice → Asked
asked l b c k = asked_by (is_there l k) (front_fits l b c k) (conditions_of l b c k)

-- 02, Wish 1: "only a refused choice shows it": done where a choice that was asked for is enabled, else its refusal
abbrev pub answer_asked : Asked → Answer
answer_asked Asked.Enabled = Ok tt
answer_asked Asked.NoRule = Err Refusal.NoRule
answer_asked Asked.Front = Err Refusal.Front
answer_asked (Asked.Condition n) = Err (Refusal.Condition n)

-- the choice of a kind and a number
abbrev pub choice_at : ℕ → ℕ → Choice
choice_at k n = by_kind k (select n) (act n) (revise n)

-- a choice as the code tells it
abbrev pub choice_of : Told.Choice → Choice
choice_of t = choice_at (kind_number t.kind) t.number

-- the same, told of a choice
abbrev pub told : Choice → Told.Choice
told (select n) = record { kind = Kind.Selection; number = n }
told (act n) = record { kind = Kind.Action; number = n }
told (revise n) = record { kind = Kind.Revision; number = n }

-- a choice, if there is one, as the code tells it
abbrev pub chosen : Option Choice → Std.Option Told.Choice
chosen none = None
chosen (some k) = Some (told k)

-- the lowest enabled choice of a kind
abbrev pub first_of_kind : Layout → Bytes → Configuration → ℕ → Std.Option Told.Choice
first_of_kind l b c k = chosen (first (enabled (agent_for l b) (state_of c).mental) (of_kind (agent_for l b) k))
