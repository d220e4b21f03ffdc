-- "Accepted edition 1 files are read as before" (02, Wish 9), call by call, under a card that document 01 accepts: what each
-- answers is told by document 01's own agent, start and place, with sets of 16 bytes (proved in proofs/).
use Rattle.std.specs.Prelude.{◌≡◌, true, false, List, ℕ, Ok, Err}
use Rattle.runs.specs.Order.{State, enabled_codes}
use Rattle.runs.specs.Step.{Reached, nothing, full, to, step_by}
use Rattle.runs.specs.Run.{run}
use Rattle.runs.specs.Weight.{verdict}
use Rattle.meaning.specs.declared.Refusal.{Refusal}
use Rattle.meaning.specs.declared.Configuration.{Configuration}
use Rattle.meaning.specs.declared.Reply.{Reply}
use Rattle.meaning.specs.Card.{Bytes, layout, initial_plan}
use Rattle.meaning.specs.Configurations.{configuration_of}
use Rattle.meaning.specs.Refusals.{configuration_good, configuration_answer}
use Rattle.meaning.specs.Why.{why_closed}
use Rattle.meaning.specs.Looking.{conditions_judged, goals_open}
use Rattle.meaning.specs.Calls.{checks, reply, loads, graded, grades, writes, leaves, listed, lists, list_leaves, choice, takes, ran, runs, coming, nexts, saves, save_leaves, restores}
use Rattle.editions.specs.Edition1.{edition1_weight, edition1_agent, edition1_start, edition1_place, edition1_placed, edition1_place_answer}
use Rattle.editions.specs.Moves.{OfSixteen, widened_state, widened_outcome}

-- A state of edition 1 as it is handed in and out.
abbrev pub handed : State → Configuration
handed s = configuration_of (widened_state s)

-- What take answers in a state of edition 1, by what the choice comes to there.
abbrev pub taken_reply : Bytes → State → ℕ → Reached → Reply
taken_reply b s code nothing = reply (Err (why_closed (layout b) b s.mental (choice code))) (handed s)
taken_reply b s code full = reply (Err Refusal.PlanFull) (handed s)
taken_reply b s code (to k t) = reply (Ok tt) (handed t)

-- The calls that are handed a configuration, in a state that document 01's row 13 lets through.
pub record StateCalls (b : Bytes) (s : State) : Type 0 where
  pub accepted : configuration_answer b (handed s) ≡ Ok tt
  -- 01, "What the guide does": "list the enabled moves"
  pub list : (out : List ℕ) → lists b (handed s) out
      ≡ listed (writes b (handed s) (enabled_codes (edition1_agent b) s.mental) out)
      (conditions_judged (edition1_agent b) s.mental) (goals_open s.mental)
  pub list_leaves_lem : (out : List ℕ) → list_leaves b (handed s) out ≡ leaves b (handed s) (enabled_codes (edition1_agent b) s.mental) out
  -- "take a chosen move"
  pub take : (code : ℕ) → takes b (handed s) code ≡ taken_reply b s code (step_by (edition1_agent b) s (choice code))
  -- "run by itself"
  pub run : (budget : ℕ) → runs b (handed s) budget ≡ ran (widened_outcome (run (edition1_agent b) budget s))
  -- 00, the card: "The guide shows the next move."
  pub next : nexts b (handed s) ≡ record { answer = Ok tt; coming = coming (edition1_agent b) s; configuration = handed s }
  -- "save a place"
  pub save : (out : Bytes) → saves b (handed s) out ≡ writes b (handed s) (edition1_place s) out
  pub save_leaves_lem : (out : Bytes) → save_leaves b (handed s) out ≡ leaves b (handed s) (edition1_place s) out

-- All calls of document 01, and next.
pub record CallsAsBefore (b : Bytes) : Type 0 where
  -- 01, "What the guide does": "check a card, load it", "grade the card"
  pub check : checks b ≡ Ok (layout b)
  pub load : loads b ≡ reply (Ok tt) (handed (edition1_start b))
  pub grade : grades b ≡ graded (Ok tt) (verdict (edition1_weight b) (edition1_agent b) (initial_plan b))
  -- "restore it"
  pub restore : (p : Bytes) → edition1_place_answer (layout b) p ≡ Ok tt → restores b p ≡ reply (Ok tt) (handed (edition1_placed p))
  -- 01, "Numbers the guide may answer", row 13, with document 01's sets
  pub refused : (s : State) → OfSixteen s → configuration_good (layout b) (configuration_of s) ≡ false
      → configuration_answer b (handed s) ≡ Err Refusal.Configuration
  pub state : (s : State) → OfSixteen s → configuration_good (layout b) (configuration_of s) ≡ true → StateCalls b s
