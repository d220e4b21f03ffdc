-- What each of the eight calls and `next` answer, on all bytes and numbers, refusals too; and what a lent buffer holds afterwards.
-- 01, "Numbers the guide may answer": "A refusal answers the number and the configuration as it came in; load, restore and
-- grading, which have none, answer the empty one (no atoms, empty plan, phase 0). Any count in a refusal is 0. No lent buffer
-- is written."
use Rattle.std.specs.Prelude.{true, false, List, [], ◌∷◌, ◌++◌, ℕ, ◌/◌, ◌%◌, leb, length, drop, Ok, Err}
use Rattle.std.proofs.Math.Option.{Option, none, some}
use Rattle.std.proofs.Math.ListN.{get_elem?}
use Rattle.paper.specs.Language.{Agent}
use Rattle.paper.specs.Transitions.{Choice, select, act, revise}
use Rattle.runs.specs.declared.Ending.{Ending}
use Rattle.runs.specs.declared.Offender.{Offender}
use Rattle.runs.specs.declared.Verdict.{Verdict}
use Rattle.runs.specs.Order.{State, code, guide, enabled_codes}
use Rattle.runs.specs.Step.{Reached, nothing, full, to, step, step_by}
use Rattle.runs.specs.Run.{Outcome, run}
use Rattle.runs.specs.Weight.{verdict}
use Rattle.meaning.specs.declared.Refusal.{Refusal}
use Rattle.meaning.specs.Answers.{Answer, Checked}
use Rattle.meaning.specs.declared.Configuration.{Configuration}
use Rattle.meaning.specs.declared.Reply.{Reply}
use Rattle.meaning.specs.declared.Graded.{Graded}
use Rattle.meaning.specs.declared.Written.{Written}
use Rattle.meaning.specs.declared.Listed.{Listed}
use Rattle.meaning.specs.declared.Ran.{Ran}
use Rattle.meaning.specs.declared.Coming.{Coming}
use Rattle.meaning.specs.declared.Next.{Next}
use Rattle.meaning.specs.Card.{Bytes, layout, weight, agent, initial_plan, start}
use Rattle.meaning.specs.Configurations.{state_of, configuration_of, empty}
use Rattle.meaning.specs.Place.{place, placed}
use Rattle.meaning.specs.Refusals.{card_answer, place_answer, configuration_answer}
use Rattle.meaning.specs.Why.{why_closed}
use Rattle.meaning.specs.Looking.{conditions_judged, goals_open}

-- ---- check, load, grade

-- 01, "What the guide does": "check a card": its layout, or the refusal (docs/DECISIONS.md, "What check answers").
unfoldable pub checks : Bytes → Checked
checks b = elim (card_answer b) [ Ok _ ↦ Ok (layout b) | Err r ↦ Err r ]

-- What load, take and restore answer: 01, "Numbers the guide may answer": "the number and the configuration". Serves loads,
-- takes and restores.
abbrev pub reply : Answer → Configuration → Reply
reply a c = record { answer = a; configuration = c }

-- 01, "A configuration and its transitions": "Loading answers the card's initial beliefs, goals and plan with phase 0".
-- Refused: 01, "Numbers the guide may answer": "load, restore and grading, which have none, answer the empty one".
unfoldable pub loads : Bytes → Reply
loads b = elim (card_answer b) [
  | Ok _ ↦ reply (Ok tt) (configuration_of (start b))
  | Err r ↦ reply (Err r) empty
]

-- What grading answers, with the empty configuration in any case (docs/DECISIONS.md, "What grading answers as configuration
-- when done"). Serves grades.
abbrev pub graded : Answer → Verdict → Graded
graded a v = record { answer = a; verdict = v; configuration = empty }

-- 01, "Weight and grading": "A card is bounded exactly if …" and "Otherwise it is open". A refused grading never says bounded
-- (docs/DECISIONS.md, "What a refused grading says").
unfoldable pub grades : Bytes → Graded
grades b = elim (card_answer b) [
  | Ok _ ↦ graded (Ok tt) (verdict (weight b) (agent b) (initial_plan b))
  | Err r ↦ graded (Err r) (Verdict.Open Offender.InitialPlan)
]

-- ---- list and save: the answer, and the lent buffer afterwards

-- What save answers, with the configuration as it came in (docs/DECISIONS.md, "What list and save hand back"), and what list
-- answers beside its two numbers. Serves writes.
abbrev pub written : Answer → ℕ → Configuration → Written
written a n c = record { answer = a; count = n; configuration = c }

-- 01, "Numbers the guide may answer", row 12: "the lent list or place buffer is too short": the room is looked at once what is
-- to be written is known (docs/DECISIONS.md, "Room").
abbrev pub room_for : List ℕ → List ℕ → Answer
room_for xs out = elim (leb (length xs) (length out)) [ true ↦ Ok tt | false ↦ Err Refusal.NoRoom ]

-- A lent buffer with something written at its front: 01, "Numbers the guide may answer": "what lies after them stays". Serves
-- leaves_by.
abbrev pub over : List ℕ → List ℕ → List ℕ
over xs out = xs ++ drop (length xs) out

-- 01, "Numbers the guide may answer": "They are tested in the table's order": rows 1 to 9, then 13, then 12. xs is to be written
-- to out. Serves writes and leaves.
abbrev pub write_answer : Bytes → Configuration → List ℕ → List ℕ → Answer
write_answer b c xs out = elim (configuration_answer b c) [ Ok _ ↦ room_for xs out | Err r ↦ Err r ]

-- 01, "Numbers the guide may answer": "the answer tells how many". "Any count in a refusal is 0." Serves writes, and printing a
-- condition.
abbrev pub count_by : Answer → List ℕ → ℕ
count_by (Ok _) xs = length xs
count_by (Err r) xs = 0

-- 01, "Numbers the guide may answer": "what lies after them stays". "No lent buffer is written" by a refusal. Serves leaves, and
-- printing a condition.
abbrev pub leaves_by : Answer → List ℕ → List ℕ → List ℕ
leaves_by (Ok _) xs out = over xs out
leaves_by (Err r) xs out = out

-- What list and save answer, and what they leave in the lent buffer.
unfoldable pub writes : Bytes → Configuration → List ℕ → List ℕ → Written
writes b c xs out = let a = write_answer b c xs out in written a (count_by a xs) c

unfoldable pub leaves : Bytes → Configuration → List ℕ → List ℕ → List ℕ
leaves b c xs out = leaves_by (write_answer b c xs out) xs out

-- ---- list

-- 01, "Numbers the guide may answer": "Any count in a refusal is 0.", of a number n. Serves listed.
abbrev pub number_by : Answer → ℕ → ℕ
number_by (Ok _) n = n
number_by (Err r) n = 0

-- What list answers: 02, Wish 11: "The listing reports that number …. Also report how many goals are open". Serves lists.
abbrev pub listed : Written → ℕ → ℕ → Listed
listed w judged goals = record {
  answer = w.answer;
  count = w.count;
  judged = number_by w.answer judged;
  goals = number_by w.answer goals;
  configuration = w.configuration;
}

-- 01, "Numbers the guide may answer": "The list of enabled choices …; the answer tells how many". 02, Wish 11: "how many
-- conditions one listing judges" and "how many goals are open".
unfoldable pub lists : Bytes → Configuration → List ℕ → Listed
lists b c out =
    let s = (state_of c).mental in
    listed (writes b c (enabled_codes (agent b) s) out) (conditions_judged (agent b) s) (goals_open s)

-- 01, "Numbers the guide may answer": "The list of enabled choices goes …, rising, each once, into the lent list; …, and what
-- lies after them stays."
unfoldable pub list_leaves : Bytes → Configuration → List ℕ → List ℕ
list_leaves b c out = leaves b c (enabled_codes (agent b) (state_of c).mental) out

-- ---- take

-- 01, "A configuration and its transitions": "the kind (0 selection, 1 action, 2 revision) plus the number". There is no kind 3
-- (docs/DECISIONS.md, "Codes"). Serves choice.
abbrev pub choice_of : ℕ → ℕ → Option Choice
choice_of k n = get_elem? (select n ∷ act n ∷ revise n ∷ []) k

-- 01, "A configuration and its transitions": "A choice is coded as 256 times the kind (0 selection, 1 action, 2 revision) plus
-- the number of the rule or specification, from 0."
unfoldable pub choice : ℕ → Option Choice
choice k = choice_of (k / 256) (k % 256)

-- 00, demand 2: "A chosen move is taken exactly if it is such a transition and its plan fits." 02, Wish 1: "Refusals: 10 gives
-- way to three in its place", where 01, "Numbers the guide may answer", row 10 has "the code is no enabled choice"; row 11: "the
-- choice is enabled, but leaves more than 1,024 actions".
unfoldable pub takes : Bytes → Configuration → ℕ → Reply
takes b c code = elim (configuration_answer b c) [
  | Err r ↦ reply (Err r) c
  | Ok _ ↦ elim (step_by (agent b) (state_of c) (choice code)) [
    | nothing ↦ reply (Err (why_closed (layout b) b (state_of c).mental (choice code))) c
    | full ↦ reply (Err Refusal.PlanFull) c
    | to k s ↦ reply (Ok tt) (configuration_of s)
  ]
]

-- ---- run

-- A run's outcome as it is answered: 01, "A configuration and its transitions": "the configuration reached, how many
-- transitions were taken, and one of three endings". Serves runs.
abbrev pub ran : Outcome → Ran
ran o = record { answer = Ok tt; count = o.count; ending = o.ending; configuration = configuration_of o.state }

-- 01, "A configuration and its transitions": "A run takes a budget of 0 to 65,535 transitions and answers …". A refused one has
-- count 0 and ends spent (docs/DECISIONS.md, "What a refused run says beside its number").
unfoldable pub runs : Bytes → Configuration → ℕ → Ran
runs b c budget = elim (configuration_answer b c) [
  | Ok _ ↦ ran (run (agent b) budget (state_of c))
  | Err r ↦ record { answer = Err r; count = 0; ending = Ending.Spent; configuration = c }
]

-- ---- next

-- What is told of a choice, by what its transition comes to: its code, and whether the plan fits. Serves coming_of.
abbrev pub coming_by : Choice → Reached → Coming
coming_by k nothing = Coming.Rest
coming_by k full = Coming.Full (code k)
coming_by k (to j s) = Coming.Move (code k)

-- The same of a choice, if there is one. Serves coming.
abbrev pub coming_of : Agent → State → Option Choice → Coming
coming_of A s none = Coming.Rest
coming_of A s (some k) = coming_by k (step A s k)

-- 00, the card: "The guide shows the next move.": the guide's own, which is not made.
unfoldable pub coming : Agent → State → Coming
coming A s = coming_of A s (guide A s)

-- What next answers, with the configuration as it came in. A refused one says rest, and no move (docs/DECISIONS.md, "What a
-- refused next says").
unfoldable pub nexts : Bytes → Configuration → Next
nexts b c = elim (configuration_answer b c) [
  | Ok _ ↦ record { answer = Ok tt; coming = coming (agent b) (state_of c); configuration = c }
  | Err r ↦ record { answer = Err r; coming = Coming.Rest; configuration = c }
]

-- ---- save

-- 01, "What the guide does": "save a place": how many bytes were written.
unfoldable pub saves : Bytes → Configuration → Bytes → Written
saves b c out = writes b c (place (layout b) (state_of c)) out

-- 01, "Numbers the guide may answer": "Saving writes 44 + L bytes and no others."
unfoldable pub save_leaves : Bytes → Configuration → Bytes → Bytes
save_leaves b c out = leaves b c (place (layout b) (state_of c)) out

-- ---- restore

-- 01, "What the guide does": "save a place and restore it". Refused: 01, "Numbers the guide may answer": "load, restore and
-- grading, which have none, answer the empty one".
unfoldable pub restores : Bytes → Bytes → Reply
restores b p = elim (place_answer b p) [
  | Ok _ ↦ reply (Ok tt) (configuration_of (placed (layout b) p))
  | Err r ↦ reply (Err r) empty
]
