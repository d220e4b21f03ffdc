-- What a chosen move and a run for bounded cards answer, on all bytes and numbers, refusals too. 02, Wish 10: "Give a run and a
-- chosen move for bounded cards that start from a plan weighing at most 1,024, show that 11 and the ending "full" cannot arise
-- there, and take both out of these answers."
use Rattle.std.specs.Prelude.{◌≡◌, Bool, true, false, not, ◌&&◌, List, [], ◌∷◌, ℕ, Ok, Err}
use Rattle.runs.specs.declared.Ending.{Ending}
use Rattle.runs.specs.declared.Verdict.{Verdict}
use Rattle.runs.specs.Weight.{light, verdict}
use Rattle.meaning.specs.declared.Refusal.{Refusal}
use Rattle.meaning.specs.Answers.{Answer, BoundedAnswer}
use Rattle.meaning.specs.declared.Configuration.{Configuration}
use Rattle.meaning.specs.declared.Reply.{Reply}
use Rattle.meaning.specs.declared.Ran.{Ran}
use Rattle.meaning.specs.declared.BoundedRefusal.{BoundedRefusal}
use Rattle.meaning.specs.declared.BoundedEnding.{BoundedEnding}
use Rattle.meaning.specs.declared.BoundedReply.{BoundedReply}
use Rattle.meaning.specs.declared.BoundedRan.{BoundedRan}
use Rattle.meaning.specs.Card.{Bytes, weight, agent, initial_plan}
use Rattle.meaning.specs.Configurations.{state_of}
use Rattle.meaning.specs.Refusals.{Row, ◌given_when◌, first_given, and_then, configuration_answer}
use Rattle.meaning.specs.Calls.{reply, takes, runs}

-- ---- the table's words for what these calls answer

-- A refusal of these calls as the table has it. 02, Wish 10: 11 is not among them.
unfoldable pub as_refusal : BoundedRefusal → Refusal
as_refusal BoundedRefusal.Short = Refusal.Short
as_refusal BoundedRefusal.Mark = Refusal.Mark
as_refusal BoundedRefusal.Count = Refusal.Count
as_refusal BoundedRefusal.Offsets = Refusal.Offsets
as_refusal BoundedRefusal.Weight = Refusal.Weight
as_refusal BoundedRefusal.Node = Refusal.Node
as_refusal BoundedRefusal.Rule = Refusal.Rule
as_refusal BoundedRefusal.ActionByte = Refusal.ActionByte
as_refusal BoundedRefusal.Atom = Refusal.Atom
as_refusal BoundedRefusal.Configuration = Refusal.Configuration
as_refusal BoundedRefusal.OpenOrHeavy = Refusal.OpenOrHeavy
as_refusal BoundedRefusal.NoRule = Refusal.NoRule
as_refusal BoundedRefusal.Front = Refusal.Front
as_refusal (BoundedRefusal.Condition n) = Refusal.Condition n

-- An answer of these calls, done or refused.
unfoldable pub as_answer : BoundedAnswer → Answer
as_answer (Ok _) = Ok tt
as_answer (Err r) = Err (as_refusal r)

-- An ending of such a run. 02, Wish 10: "full" is not among them.
unfoldable pub as_ending : BoundedEnding → Ending
as_ending BoundedEnding.Spent = Ending.Spent
as_ending BoundedEnding.Rest = Ending.Rest

-- The whole of what the chosen move answers, in the words of take.
abbrev pub as_reply : BoundedReply → Reply
as_reply r = reply (as_answer r.answer) r.configuration

-- The whole of what the run answers, in the words of run.
abbrev pub as_ran : BoundedRan → Ran
as_ran r = record { answer = as_answer r.answer; count = r.count; ending = as_ending r.ending; configuration = r.configuration }

-- ---- refusal 22

-- 01, "Weight and grading": "A card is bounded exactly if …", as a test.
abbrev pub is_bounded : Verdict → Bool
is_bounded Verdict.Bounded = true
is_bounded (Verdict.Open o) = false

-- Not 02, Wish 10: "22 the card is open or the plan too heavy": a bounded card, and "a plan weighing at most 1,024".
unfoldable pub bounded_good : Bytes → Configuration → Bool
bounded_good b c = is_bounded (verdict (weight b) (agent b) (initial_plan b)) && light (weight b) (state_of c).mental.π

-- 02, Wish 10: "Refusals: 22 the card is open or the plan too heavy"
unfoldable pub bounded_table : Bytes → List (Row Configuration)
bounded_table b = (Refusal.OpenOrHeavy given_when (λ c. not (bounded_good b c))) ∷ []

-- 02, Wish 10: "22 …, after 13": the card first with 1 to 9, then the configuration with 13, then 22.
unfoldable pub bounded_answer : Bytes → Configuration → Answer
bounded_answer b c = and_then (configuration_answer b c) (first_given (bounded_table b) c)

-- ---- the two calls

-- 02, Wish 10: "a chosen move for bounded cards": where nothing is refused before it, what take answers.
unfoldable pub bounded_takes : Bytes → Configuration → ℕ → Reply
bounded_takes b c code = elim (bounded_answer b c) [
  | Ok _ ↦ takes b c code
  | Err r ↦ reply (Err r) c
]

-- 02, Wish 10: "a run … for bounded cards": where nothing is refused before it, what run answers. A refused one has count 0 and
-- ends spent (docs/DECISIONS.md, "What a refused run says beside its number").
unfoldable pub bounded_runs : Bytes → Configuration → ℕ → Ran
bounded_runs b c budget = elim (bounded_answer b c) [
  | Ok _ ↦ runs b c budget
  | Err r ↦ record { answer = Err r; count = 0; ending = Ending.Spent; configuration = c }
]

-- ---- 11 and full have no word

-- An answer for which these calls have a word. 02, Wish 10: "11 … cannot arise there".
abbrev pub HasWord : Answer → Type 0
HasWord a = (x : BoundedAnswer) × (as_answer x ≡ a)

-- An ending for which they have one. 02, Wish 10: "the ending "full" cannot arise there".
abbrev pub HasEnding : Ending → Type 0
HasEnding e = (x : BoundedEnding) × (as_ending x ≡ e)
