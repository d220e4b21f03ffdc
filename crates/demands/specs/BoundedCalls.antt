-- A chosen move and a run for bounded cards (02, Wish 10), beside take and run, of every answer that meets a call's contract
-- (proved in proofs/). b is the card, c a configuration. What is so of every call is said of these two in every_call.
use Rattle.std.specs.Prelude.{◌≡◌, ◌↔◌, ℕ, ◌≤◌, ◌<◌, Err}
use Rattle.runs.specs.Limits.{heaviest_plan}
use Rattle.runs.specs.declared.Offender.{Offender}
use Rattle.runs.specs.declared.Verdict.{Verdict}
use Rattle.runs.specs.Weight.{weigh}
use Rattle.meaning.specs.declared.Refusal.{Refusal}
use Rattle.meaning.specs.declared.Configuration.{Configuration}
use Rattle.meaning.specs.declared.Reply.{Reply}
use Rattle.meaning.specs.declared.Graded.{Graded}
use Rattle.meaning.specs.declared.Written.{Written}
use Rattle.meaning.specs.declared.Ran.{Ran}
use Rattle.meaning.specs.declared.BoundedRefusal.{BoundedRefusal}
use Rattle.meaning.specs.declared.BoundedReply.{BoundedReply}
use Rattle.meaning.specs.declared.BoundedRan.{BoundedRan}
use Rattle.meaning.specs.Card.{Bytes, weight}
use Rattle.meaning.specs.Configurations.{state_of}
use Rattle.meaning.specs.Refusals.{configuration_answer}
use Rattle.meaning.specs.Calls.{reply}
use Rattle.meaning.specs.BoundedCalls.{as_reply, as_ran}
use Rattle.demands.specs.CallContracts.{Loads, Grades, Takes, Runs, Saves, BoundedTakes, BoundedRuns, Shaped}
use Rattle.demands.specs.Demands.{OnAccepted}
use Rattle.demands.specs.TurnedScreen.{Turn, held, refused_run}

-- ---- where these calls are not refused with 22

-- 01, "Weight and grading": "A plan weighs the sum of its actions": a configuration's plan, under a card.
abbrev pub plan_weighs : Bytes → Configuration → ℕ
plan_weighs b c = weigh (weight b) (state_of c).mental.π

-- 02, Wish 10: "bounded cards that start from a plan weighing at most 1,024": an accepted card that grade calls bounded, and an
-- accepted configuration with such a plan.
pub record OnBounded (b : Bytes) (c : Configuration) : Type 0 where
  pub accepted : OnAccepted b c
  pub bounded : (g : Graded) → Grades b g → g.verdict ≡ Verdict.Bounded
  pub light : plan_weighs b c ≤ heaviest_plan

-- 02, Wish 10: "22 the card is open or the plan too heavy", of an accepted card and configuration.
pub data OpenOrHeavy (b : Bytes) (c : Configuration) : Type 0 where
  is_open : (o : Offender) → ((g : Graded) → Grades b g → g.verdict ≡ Verdict.Open o) → OpenOrHeavy b c
  is_heavy : heaviest_plan < plan_weighs b c → OpenOrHeavy b c

-- ---- a weaver's day on a bounded card

-- What may have been done from load on, in any order, done or refused: chosen moves, runs, saves and turns of the screen, by these
-- calls.
pub data Day (b : Bytes) : Configuration → Type 0 where
  -- load of a card that grade calls bounded
  begins : (r : Reply) → Loads b r → (g : Graded) → Grades b g → g.verdict ≡ Verdict.Bounded → Day b r.configuration
  -- 02, Wish 10: "a chosen move for bounded cards"
  moves : {c : Configuration} → Day b c → (n : ℕ) (r : BoundedReply) → BoundedTakes b c n r → Day b r.configuration
  -- 02, Wish 10: "a run … for bounded cards"
  goes : {c : Configuration} → Day b c → (budget : ℕ) (r : BoundedRan) → BoundedRuns b c budget r → Day b r.configuration
  -- 01, "What the guide does": "save a place"
  saved : {c : Configuration} → Day b c → (out left : Bytes) (r : Written) → Saves b c out r left → Day b r.configuration
  -- 02, Wish 7: "save, restore under the same card"
  turned : {c : Configuration} → Day b c → (t : Turn b c) → Day b (held t)

-- ---- the theorem

pub record BoundedCalls : Type 0 where
  -- 02, Wish 10: "Open cards keep the old calls.": on a bounded card, from such a plan, both answer what the old ones do
  pub take_as_take : (b : Bytes) (c : Configuration) → OnBounded b c → (n : ℕ) (r : BoundedReply) → BoundedTakes b c n r
      → (old : Reply) → Takes b c n old → as_reply r ≡ old
  pub run_as_run : (b : Bytes) (c : Configuration) → OnBounded b c → (budget : ℕ) (r : BoundedRan) → BoundedRuns b c budget r
      → (old : Ran) → Runs b c budget old → as_ran r ≡ old
  -- 02, Wish 10: "show that 11 and the ending "full" cannot arise there": on all bytes and numbers there is an answer in words that
  -- have neither
  pub take_has_answer : (b : Bytes) (c : Configuration) (n : ℕ) → (r : BoundedReply) × BoundedTakes b c n r
  pub run_has_answer : (b : Bytes) (c : Configuration) (budget : ℕ) → (r : BoundedRan) × BoundedRuns b c budget r
  -- 02, Wish 10: "22 the card is open or the plan too heavy": exactly then
  pub take_refused_exactly : (b : Bytes) (c : Configuration) (n : ℕ) (r : BoundedReply) → BoundedTakes b c n r
      → (r.answer ≡ Err BoundedRefusal.OpenOrHeavy) ↔ (OnAccepted b c × OpenOrHeavy b c)
  pub run_refused_exactly : (b : Bytes) (c : Configuration) (budget : ℕ) (r : BoundedRan) → BoundedRuns b c budget r
      → (r.answer ≡ Err BoundedRefusal.OpenOrHeavy) ↔ (OnAccepted b c × OpenOrHeavy b c)
  -- 02, Wish 10: "22 …, after 13": 1 to 9 and 13 first, as take and run have them
  pub before_22 : (b : Bytes) (c : Configuration) (q : Refusal) → configuration_answer b c ≡ Err q
      → ((n : ℕ) (r : BoundedReply) → BoundedTakes b c n r → as_reply r ≡ reply (Err q) c)
      × ((budget : ℕ) (r : BoundedRan) → BoundedRuns b c budget r → as_ran r ≡ refused_run q c)
  -- what is refused with 22 is refused with nothing else, whatever the code and the budget: the configuration comes back as it came
  -- in
  pub by_22 : (b : Bytes) (c : Configuration) → OnAccepted b c → OpenOrHeavy b c
      → ((n : ℕ) (r : BoundedReply) → BoundedTakes b c n r → as_reply r ≡ reply (Err Refusal.OpenOrHeavy) c)
      × ((budget : ℕ) (r : BoundedRan) → BoundedRuns b c budget r → as_ran r ≡ refused_run Refusal.OpenOrHeavy c)
  -- after such a call the plan still weighs at most 1,024, and the same card is bounded: closed under both calls, done or refused
  pub take_again : (b : Bytes) (c : Configuration) → OnBounded b c → (n : ℕ) (r : BoundedReply) → BoundedTakes b c n r
      → OnBounded b r.configuration
  pub run_again : (b : Bytes) (c : Configuration) → OnBounded b c → (budget : ℕ) (r : BoundedRan) → BoundedRuns b c budget r
      → OnBounded b r.configuration
  -- closed under load of a bounded card
  pub load_again : (b : Bytes) (r : Reply) → Loads b r → (g : Graded) → Grades b g → g.verdict ≡ Verdict.Bounded
      → OnBounded b r.configuration
  -- and under save and restore
  pub turn_again : (b : Bytes) (c : Configuration) → Shaped c → OnBounded b c → (t : Turn b c) → OnBounded b (held t)
  -- so that 22 never comes in the middle of a weaver's day
  pub never_22 : (b : Bytes) (c : Configuration) → Day b c → OnBounded b c
