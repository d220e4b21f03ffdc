-- What the contract of each of the eight calls, of next and of the two calls for bounded cards says of an answer r, and of what a
-- lent buffer holds afterwards (left). The definitions are meaning's.
use Rattle.std.specs.Prelude.{◌≡◌, List, ℕ, ◌≤◌, length}
use Rattle.paper.specs.Theorems.{AreBytes}
use Rattle.runs.specs.Limits.{longest_plan, most_finished}
use Rattle.meaning.specs.declared.Configuration.{Configuration}
use Rattle.meaning.specs.Answers.{Checked}
use Rattle.meaning.specs.declared.Reply.{Reply}
use Rattle.meaning.specs.declared.Graded.{Graded}
use Rattle.meaning.specs.declared.Written.{Written}
use Rattle.meaning.specs.declared.Listed.{Listed}
use Rattle.meaning.specs.declared.Ran.{Ran}
use Rattle.meaning.specs.declared.Next.{Next}
use Rattle.meaning.specs.declared.BoundedReply.{BoundedReply}
use Rattle.meaning.specs.declared.BoundedRan.{BoundedRan}
use Rattle.meaning.specs.Sizes.{edition2_set}
use Rattle.meaning.specs.Card.{Bytes}
use Rattle.meaning.specs.Calls.{checks, loads, grades, lists, list_leaves, takes, runs, nexts, saves, save_leaves, restores}
use Rattle.meaning.specs.BoundedCalls.{as_reply, as_ran, bounded_takes, bounded_runs}

-- 01, "What the guide does": "check a card"
abbrev pub Checks : Bytes → Checked → Type 0
Checks b r = r ≡ checks b

-- 01, "What the guide does": "load it"
abbrev pub Loads : Bytes → Reply → Type 0
Loads b r = r ≡ loads b

-- 01, "What the guide does": "grade the card"
abbrev pub Grades : Bytes → Graded → Type 0
Grades b r = r ≡ grades b

-- 01, "What the guide does": "list the enabled moves"
abbrev pub Lists : Bytes → Configuration → List ℕ → Listed → List ℕ → Type 0
Lists b c out r left = (r ≡ lists b c out) × (left ≡ list_leaves b c out)

-- 01, "What the guide does": "take a chosen move"
abbrev pub Takes : Bytes → Configuration → ℕ → Reply → Type 0
Takes b c n r = r ≡ takes b c n

-- 01, "What the guide does": "run by itself"
abbrev pub Runs : Bytes → Configuration → ℕ → Ran → Type 0
Runs b c budget r = r ≡ runs b c budget

-- 01, "What the guide does": "save a place"
abbrev pub Saves : Bytes → Configuration → Bytes → Written → Bytes → Type 0
Saves b c out r left = (r ≡ saves b c out) × (left ≡ save_leaves b c out)

-- 01, "What the guide does": "and restore it"
abbrev pub Restores : Bytes → Bytes → Reply → Type 0
Restores b p r = r ≡ restores b p

-- 00, the card: "The guide shows the next move."
abbrev pub Nexts : Bytes → Configuration → Next → Type 0
Nexts b c r = r ≡ nexts b c

-- 02, Wish 10: "a chosen move for bounded cards": an answer that has no word for 11, in the table's words (docs/DECISIONS.md,
-- "Answers without 11 and full").
abbrev pub BoundedTakes : Bytes → Configuration → ℕ → BoundedReply → Type 0
BoundedTakes b c n r = as_reply r ≡ bounded_takes b c n

-- 02, Wish 10: "a run … for bounded cards": an answer that has no word for "full", in the table's words.
abbrev pub BoundedRuns : Bytes → Configuration → ℕ → BoundedRan → Type 0
BoundedRuns b c budget r = as_ran r ≡ bounded_runs b c budget

-- What the types of its fields say of any configuration: how long its sets and its plan are, that the sets are bytes, and that the
-- count is a number of two bytes. Load, take, run, both calls for bounded cards and restore ensure it of what they answer, and save
-- of what it is handed.
pub record Shaped (c : Configuration) : Type 0 where
  -- 02, Wish 9: "sets of 32 bytes" (docs/DECISIONS.md, "A configuration has no edition")
  pub beliefs : length c.mind.beliefs ≡ edition2_set
  pub belief_bytes : AreBytes c.mind.beliefs
  -- the same of its goals
  pub goals : length c.mind.goals ≡ edition2_set
  pub goal_bytes : AreBytes c.mind.goals
  -- 00, the machine: "A plan holds up to 1,024 actions."
  pub plan : length c.plan ≡ longest_plan
  -- 02, Wish 4: "stopping at 65,535"
  pub finished : c.mind.finished ≤ most_finished
