-- The P cases of 01, "The stripe card", as one table over the eight calls: on the left what a call answers, on the right what
-- the document says.
use Rattle.std.specs.Prelude.{◌≡◌, List, [], ◌∷◌, ◌++◌, ℕ, suc, length, replicate}
use Rattle.std.proofs.Math.Option.{none, some}
use Rattle.std.proofs.Math.ListN as ListN
use Rattle.paper.specs.Language.{⟨◌/◌/◌⟩}
use Rattle.runs.specs.Order.{code, guide}
use Rattle.runs.specs.Weight.{weigh}
use Rattle.meaning.specs.Answers.{Answer, Checked}
use Rattle.meaning.specs.declared.Configuration.{Configuration}
use Rattle.meaning.specs.declared.Reply.{Reply}
use Rattle.meaning.specs.declared.Graded.{Graded}
use Rattle.meaning.specs.declared.Written.{Written}
use Rattle.meaning.specs.declared.Listed.{Listed}
use Rattle.meaning.specs.declared.Ran.{Ran}
use Rattle.meaning.specs.declared.Next.{Next}
use Rattle.meaning.specs.Card.{Bytes, weight, agent}
use Rattle.meaning.specs.Configurations.{state_of, configuration_of}
use Rattle.meaning.specs.Refusals.{answer_number, answer_carried}
use Rattle.meaning.specs.Numbers.{checked_number, ending_number, coming_number, coming_choice, verdict_number, verdict_offender, verdict_rule}
use Rattle.meaning.specs.Calls.{checks, loads, grades, lists, list_leaves, takes, runs, nexts, saves, save_leaves, restores}
use Rattle.meaning.specs.Stripe.{set, stripe, stripe_P4, stripe_P5, stripe_P9, stripe_P10, stripe_P13, stripe_two}

-- ---- answers as numbers

-- A configuration in numbers: beliefs, goals, phase, plan. Serves PCases.
unfoldable pub shown : Configuration → List ℕ
shown c = c.mind.beliefs ++ (c.mind.goals ++ (c.mind.phase ∷ ListN.take c.mind.length c.plan))

-- What check answers in numbers: 01, "Numbers the guide may answer": "no.". Serves PCases.
unfoldable pub shown_check : Checked → List ℕ
shown_check v = checked_number v ∷ []

-- What load, take and restore answer in numbers: 01, "Numbers the guide may answer": "no."; then the configuration. Serves
-- PCases.
unfoldable pub shown_reply : Reply → List ℕ
shown_reply r = answer_number r.answer ∷ shown r.configuration

-- What take answers: the number, the node that is shown, then the configuration.
unfoldable pub shown_take : Reply → List ℕ
shown_take r = answer_number r.answer ∷ answer_carried r.answer ∷ shown r.configuration

-- What grading answers in numbers: 01, "Numbers the guide may answer": "no."; then the verdict, its
-- offender's kind and number. Serves PCases.
unfoldable pub shown_grade : Graded → List ℕ
shown_grade g = answer_number g.answer ∷ verdict_number g.verdict ∷ verdict_offender g.verdict ∷ verdict_rule g.verdict ∷ []

-- What save answers in numbers: 01, "Numbers the guide may answer": "no."; the count; and the lent buffer afterwards. Serves
-- PCases.
unfoldable pub shown_written : Written → List ℕ → List ℕ
shown_written w out = answer_number w.answer ∷ w.count ∷ out

-- What list answers in numbers: 01, "Numbers the guide may answer": "no."; the count; 02, Wish 11: "how many conditions one
-- listing judges", "how many goals are open"; and the lent list afterwards. Serves PCases.
unfoldable pub shown_listed : Listed → List ℕ → List ℕ
shown_listed r out = answer_number r.answer ∷ r.count ∷ r.judged ∷ r.goals ∷ out

-- What a run answers in numbers: 01, "Numbers the guide may answer": "no."; the ending, the count, the configuration. Serves
-- PCases.
unfoldable pub shown_run : Ran → List ℕ
shown_run r = answer_number r.answer ∷ ending_number r.ending ∷ r.count ∷ shown r.configuration

-- ---- what the cases hand in

-- A configuration of beliefs, goals, a phase and a plan, as a case has it. Serves PCases.
unfoldable pub configuration : Bytes → Bytes → ℕ → List ℕ → Configuration
configuration beliefs goals phase π = configuration_of (record { mental = ⟨ beliefs / π / goals ⟩; phase = phase; finished = 0 })

-- 01, P12: "At the start": the stripe card, loaded.
unfoldable pub loaded : Configuration
loaded = (loads stripe).configuration

-- 01, P7: "After step 4" and the like: after a number of the guide's own transitions from the start.
unfoldable pub after_steps : ℕ → Configuration
after_steps n = (runs stripe loaded n).configuration

-- 01, "The stripe card": "kind, number" of a step line: the code of the guide's own move, or none.
unfoldable pub guide_code : Configuration → List ℕ
guide_code c = elim (guide (agent stripe) (state_of c)) [ none ↦ [] | some k ↦ code k ∷ [] ]

-- 01, "The stripe card": "count, kind, number, plan length after, plan weight after", of the step after n steps.
unfoldable pub step_line : ℕ → List ℕ
step_line n =
    let c = after_steps (suc n) in
    suc n ∷ (guide_code (after_steps n) ++ (c.mind.length ∷ weigh (weight stripe) (state_of c).mental.π ∷ []))

-- Some codes taken one after the other. Serves PCases.
unfoldable pub taken_in_turn : Configuration → List ℕ → Configuration
taken_in_turn c [] = c
taken_in_turn c (k ∷ ks) = taken_in_turn (takes stripe c k).configuration ks

-- 01, P7: "33 50 01 00 02 00 2C 00 00 00 00 00, then 0B and 15 zeros, 04 and 15 zeros, 02 00", with a phase.
unfoldable pub place_p7 : ℕ → Bytes
place_p7 phase =
    0x33 ∷ 0x50 ∷ 0x01 ∷ 0x00 ∷ 0x02 ∷ 0x00 ∷ 0x2C ∷ 0x00 ∷ phase ∷ 0x00 ∷ 0x00 ∷ 0x00
    ∷ ((0x0B ∷ replicate 15 0) ++ ((0x04 ∷ replicate 15 0) ++ (0x02 ∷ 0x00 ∷ [])))

-- 01, P1: "beliefs {0, 2}, no goals, phase 2", and an empty plan.
unfoldable pub resting : List ℕ
resting = set 5 ++ (set 0 ++ (2 ∷ []))

-- ---- the table

-- 01, "What the contracts settle": "The P cases are one table under a single theorem".
pub record PCases : Type 0 where
  -- 01, "The stripe card": "The card is 255 bytes." It is accepted, and bounded: "card 255 bounded".
  pub accepted : length stripe ∷ (shown_check (checks stripe) ++ shown_grade (grades stripe)) ≡ 255 ∷ 0 ∷ 0 ∷ 0 ∷ 0 ∷ 0 ∷ []
  -- 01, "The stripe card": "1 select 0 1 5", "2 revise 0 2 4", "3 act 1 1 3", kind and number as a code.
  pub first_steps : step_line 0 ++ (step_line 1 ++ step_line 2) ≡ 1 ∷ 0 ∷ 1 ∷ 5 ∷ 2 ∷ 512 ∷ 2 ∷ 4 ∷ 3 ∷ 257 ∷ 1 ∷ 3 ∷ []
  -- 01, "The stripe card": "4 revise 1 2 2", "5 act 2 1 1", "6 act 0 0 0", likewise.
  pub last_steps : step_line 3 ++ (step_line 4 ++ step_line 5) ≡ 4 ∷ 513 ∷ 2 ∷ 2 ∷ 5 ∷ 258 ∷ 1 ∷ 1 ∷ 6 ∷ 256 ∷ 0 ∷ 0 ∷ []
  -- 01, "The stripe card": the same six as chosen moves: select 0, revise 0, act 1, revise 1, act 2, act 0.
  pub six_chosen : shown (taken_in_turn loaded (0 ∷ 512 ∷ 257 ∷ 513 ∷ 258 ∷ 256 ∷ [])) ≡ resting
  -- 01, P1: "The six steps above end with beliefs {0, 2}, no goals, phase 2."
  pub P1 : shown_run (runs stripe loaded 1000) ≡ 0 ∷ 1 ∷ 6 ∷ resting
  -- 01, P2: "Budget 6: spent, 6."
  pub P2_six : shown_run (runs stripe loaded 6) ≡ 0 ∷ 0 ∷ 6 ∷ resting
  -- 01, P2: "Budget 7: rest, 6."
  pub P2_seven : shown_run (runs stripe loaded 7) ≡ 0 ∷ 1 ∷ 6 ∷ resting
  -- 01, P3: "Budget 0 at rest: spent, 0."
  pub P3 : shown_run (runs stripe (after_steps 6) 0) ≡ 0 ∷ 0 ∷ 0 ∷ resting
  -- 01, P4: "Add {2}, Del {2}, goals {2}"; 02, Wish 5: "P4 then ends with the goal kept". Atom 1 is believed, so that weave is
  -- enabled.
  pub P4 : shown_reply (takes stripe_P4 (configuration (set 2) (set 4) 0 (0 ∷ [])) 256) ≡ 0 ∷ (set 2 ++ (set 4 ++ (2 ∷ [])))
  -- 01, P5: "Plan 3, head 3 0: not enabled."; 02, Wish 1: "15 the plan's front doesn't fit (…, other head)".
  pub P5 : shown_take (takes stripe_P5 (configuration (set 8) (set 4) 0 (3 ∷ [])) 513) ≡ 15 ∷ 0 ∷ (set 8 ++ (set 4 ++ (0 ∷ 3 ∷ [])))
  -- 01, P6: "Plan 3, atom 3 not believed, choice 513: refusal 10."; 02, Wish 1: "P6 becomes 16 with node 2."
  pub P6 : shown_take (takes stripe (configuration (set 1) (set 4) 0 (3 ∷ [])) 513) ≡ 16 ∷ 2 ∷ (set 1 ++ (set 4 ++ (0 ∷ 3 ∷ [])))
  -- 01, P7: "After step 4 the place is 33 50 01 00 02 00 2C 00 00 00 00 00, then …"; the lent buffer has a byte more, which stays.
  pub P7 : shown_written (saves stripe (after_steps 4) (replicate 47 0xEE)) (save_leaves stripe (after_steps 4) (replicate 47 0xEE))
      ≡ 0 ∷ 46 ∷ (place_p7 0 ++ (0xEE ∷ []))
  -- 01, P7, the other way; 00, demand 2: "A place saved and restored is the same configuration".
  pub P7_restored : shown_reply (restores stripe (place_p7 0)) ≡ 0 ∷ shown (after_steps 4)
  -- 01, P8: "The same with phase 3: refusal 3."
  pub P8 : shown_reply (restores stripe (place_p7 3)) ≡ 3 ∷ (set 0 ++ (set 0 ++ (0 ∷ [])))
  -- 01, P9: "Plan 3, a revision of 3 to the empty body: empty plan."
  pub P9 : shown_reply (takes stripe_P9 (configuration (set 8) (set 4) 0 (3 ∷ [])) 513) ≡ 0 ∷ (set 8 ++ (set 4 ++ (0 ∷ [])))
  -- 01, P10: "Revision 1's body weighing 3: open, revision 1."
  pub P10 : shown_grade (grades stripe_P10) ≡ 0 ∷ 1 ∷ 3 ∷ 1 ∷ []
  -- 01, P11: "Plan of 1,024: head 1 and body 2 long, refusal 11"
  pub P11_full : shown_reply (takes stripe (configuration (set 8) (set 0) 0 (replicate 1024 3)) 513)
      ≡ 11 ∷ (set 8 ++ (set 0 ++ (0 ∷ replicate 1024 3)))
  -- 01, P11: "body 1 long, taken"
  pub P11_taken : shown_reply (takes stripe (configuration (set 0) (set 0) 0 (replicate 1024 3)) 514)
      ≡ 0 ∷ (set 0 ++ (set 0 ++ (0 ∷ 0 ∷ replicate 1023 3)))
  -- 01, P12: "At the start the list is 0 alone". 02, Wish 11: "one for each selection rule, and one more where its belief
  -- condition holds": 2; and 1 goal.
  pub P12_start : shown_listed (lists stripe loaded (7 ∷ 7 ∷ [])) (list_leaves stripe loaded (7 ∷ 7 ∷ []))
      ≡ 0 ∷ 1 ∷ 2 ∷ 1 ∷ 0 ∷ 7 ∷ []
  -- 01, P12: "a list buffer of length 0 gives 12"
  pub P12_no_room : shown_listed (lists stripe loaded []) (list_leaves stripe loaded []) ≡ 12 ∷ 0 ∷ 0 ∷ 0 ∷ []
  -- 01, P12: "At rest it gives 0 (done) and a count of 0, with nothing written." No goal is left.
  pub P12_rest : shown_listed (lists stripe (after_steps 6) (7 ∷ [])) (list_leaves stripe (after_steps 6) (7 ∷ []))
      ≡ 0 ∷ 0 ∷ 2 ∷ 0 ∷ 7 ∷ []
  -- 01, P12: the same of "a list buffer of length 0".
  pub P12_rest_no_room : shown_listed (lists stripe (after_steps 6) []) (list_leaves stripe (after_steps 6) []) ≡ 0 ∷ 0 ∷ 2 ∷ 0 ∷ []
  -- 01, P13: "Node 0 "not 0": refusal 6."
  pub P13 : shown_check (checks stripe_P13) ≡ 6 ∷ []

-- 01, "The stripe card": "Selection 0: true, node 5, plan 4.", here with node 1 for its belief condition: its first byte is byte
-- 206 of the card. Serves ClosedCases.
unfoldable pub stripe_bobbin : Bytes
stripe_bobbin = ListN.take 206 stripe ++ (1 ∷ ListN.drop 207 stripe)

-- 02, Wish 1: why a choice is closed. In `missing` and `in_the_way`, where P6 cannot tell the node from the condition's root, the
-- condition is node 4: 01, "The stripe card": "Specifications: 0 weave if node 4", "1 believes 1; 2 believes 3; 3 not 2; 4 1 and
-- 3".
pub record ClosedCases : Type 0 where
  -- 02, Wish 1: "the left child's where the left alone settles the value": atom 1 is missing.
  pub missing : shown_take (takes stripe (configuration (set 8) (set 4) 0 (0 ∷ [])) 256) ≡ 16 ∷ 1 ∷ (set 8 ++ (set 4 ++ (0 ∷ 0 ∷ [])))
  -- 02, Wish 1: "else the right's", "for "not", its child's": atom 3 is in the way.
  pub in_the_way : shown_take (takes stripe (configuration (set 10) (set 4) 0 (0 ∷ [])) 256) ≡ 16 ∷ 2 ∷ (set 10 ++ (set 4 ++ (0 ∷ 0 ∷ [])))
  -- 02, Wish 1: "15 the plan's front doesn't fit (…, other first action, …)", though the condition is false too.
  pub front : shown_take (takes stripe (configuration (set 8) (set 4) 0 (1 ∷ [])) 256) ≡ 15 ∷ 0 ∷ (set 8 ++ (set 4 ++ (0 ∷ 1 ∷ [])))
  -- 02, Wish 1: "empty", and "not empty" of selection 0, whose conditions hold
  pub empty_plan : shown_take (takes stripe (configuration (set 8) (set 4) 0 []) 256) ≡ 15 ∷ 0 ∷ (set 8 ++ (set 4 ++ (0 ∷ [])))
  pub not_empty : shown_take (takes stripe (configuration (set 8) (set 4) 0 (0 ∷ [])) 0) ≡ 15 ∷ 0 ∷ (set 8 ++ (set 4 ++ (0 ∷ 0 ∷ [])))
  -- 02, Wish 1: "other head": revision 0's head is 4.
  pub other_head : shown_take (takes stripe (configuration (set 8) (set 4) 0 (3 ∷ [])) 512) ≡ 15 ∷ 0 ∷ (set 8 ++ (set 4 ++ (0 ∷ 3 ∷ [])))
  -- 02, Wish 1: "16 a condition is false, with the node": the goal condition of selection 0.
  pub no_goal : shown_take (takes stripe (configuration (set 8) (set 0) 0 []) 0) ≡ 16 ∷ 5 ∷ (set 8 ++ (set 0 ++ (0 ∷ [])))
  -- 02, Wish 1: "the belief condition before the goal condition": both are false; the goal condition alone; the belief condition
  -- alone.
  pub both_false : shown_take (takes stripe_bobbin (configuration (set 8) (set 0) 0 []) 0) ≡ 16 ∷ 1 ∷ (set 8 ++ (set 0 ++ (0 ∷ [])))
  pub goal_false : shown_take (takes stripe_bobbin (configuration (set 2) (set 0) 0 []) 0) ≡ 16 ∷ 5 ∷ (set 2 ++ (set 0 ++ (0 ∷ [])))
  pub belief_false : shown_take (takes stripe_bobbin (configuration (set 8) (set 4) 0 []) 0) ≡ 16 ∷ 1 ∷ (set 8 ++ (set 4 ++ (0 ∷ [])))
  -- 02, Wish 1: "14 no such rule or specification": selection 1, revision 3, specification 3, and a kind that there is not.
  pub no_selection : shown_take (takes stripe (configuration (set 8) (set 4) 0 (0 ∷ [])) 1) ≡ 14 ∷ 0 ∷ (set 8 ++ (set 4 ++ (0 ∷ 0 ∷ [])))
  pub no_revision : shown_take (takes stripe (configuration (set 8) (set 4) 0 (0 ∷ [])) 515) ≡ 14 ∷ 0 ∷ (set 8 ++ (set 4 ++ (0 ∷ 0 ∷ [])))
  pub no_specification : shown_take (takes stripe (configuration (set 8) (set 4) 0 (0 ∷ [])) 259) ≡ 14 ∷ 0 ∷ (set 8 ++ (set 4 ++ (0 ∷ 0 ∷ [])))
  pub no_kind : shown_take (takes stripe (configuration (set 8) (set 4) 0 (0 ∷ [])) 768) ≡ 14 ∷ 0 ∷ (set 8 ++ (set 4 ++ (0 ∷ 0 ∷ [])))

-- A configuration in which n transitions have left the plan empty. Serves FinishedCases.
unfoldable pub having_finished : ℕ → Configuration → Configuration
having_finished n c = configuration_of (record { mental = (state_of c).mental; phase = (state_of c).phase; finished = n })

-- What take, run and restore answer of the count: the number, then how many transitions have left the plan empty. Serves
-- FinishedCases.
unfoldable pub shown_finished : Answer → Configuration → List ℕ
shown_finished a c = answer_number a ∷ c.mind.finished ∷ []

-- 02, Wish 4: "how many transitions have left the plan empty since load, stopping at 65,535", on the stripe card unless said.
pub record FinishedCases : Type 0 where
  -- "since load"
  pub at_load : loaded.mind.finished ≡ 0
  -- 01, "The stripe card": "6 act 0 0 0": of the six steps the last alone leaves the plan empty.
  pub five_steps : (after_steps 5).mind.finished ≡ 0
  pub six_steps : (after_steps 6).mind.finished ≡ 1
  -- the same six as chosen moves
  pub six_taken : (taken_in_turn loaded (0 ∷ 512 ∷ 257 ∷ 513 ∷ 258 ∷ 256 ∷ [])).mind.finished ≡ 1
  -- 01, P9: "a revision of 3 to the empty body: empty plan"
  pub empty_body : (let r = takes stripe_P9 (configuration (set 8) (set 4) 0 (3 ∷ [])) 513 in shown_finished r.answer r.configuration) ≡ 0 ∷ 1 ∷ []
  -- "stopping at 65,535": the move is taken
  pub stops : (let r = takes stripe_P9 (having_finished 65535 (configuration (set 8) (set 4) 0 (3 ∷ []))) 513 in
      shown_finished r.answer r.configuration ++ shown r.configuration) ≡ 0 ∷ 65535 ∷ (set 8 ++ (set 4 ++ (0 ∷ [])))
  -- "It stands in bytes 10 and 11 of the place", low byte first
  pub in_place : ListN.take 2 (ListN.drop 10 (save_leaves stripe (having_finished 259 (after_steps 6)) (replicate 44 0xEE))) ≡ 3 ∷ 1 ∷ []
  -- "Saving and restoring keep it"
  pub kept : (let r = restores stripe (save_leaves stripe (having_finished 259 (after_steps 6)) (replicate 44 0xEE)) in
      shown_finished r.answer r.configuration) ≡ 0 ∷ 259 ∷ []
  -- "old places read as count 0"
  pub old_place : (let r = restores stripe (place_p7 0) in shown_finished r.answer r.configuration) ≡ 0 ∷ 0 ∷ []

-- What next answers in numbers: the number; what comes, and its code; the configuration. Serves NextCases.
unfoldable pub shown_next : Next → List ℕ
shown_next r = answer_number r.answer ∷ coming_number r.coming ∷ coming_choice r.coming ∷ shown r.configuration

-- What comes next, on the stripe card unless said: 0 a move, 1 rest, 2 full, and the code.
pub record NextCases : Type 0 where
  -- 01, "The stripe card": "1 select 0 1 5", and "4 revise 1 2 2" after three steps: told, and not made.
  pub at_the_start : shown_next (nexts stripe loaded) ≡ 0 ∷ 0 ∷ 0 ∷ shown loaded
  pub after_three : shown_next (nexts stripe (after_steps 3)) ≡ 0 ∷ 0 ∷ 513 ∷ shown (after_steps 3)
  -- 01, "A configuration and its transitions", The guide's order: "From phase p the kinds p, p+1, p+2 (modulo 3) are tried in
  -- turn.": action 0 and revision 1 are open, and from phase 2 it is the revision, from phase 0 the action.
  pub own_order : shown_next (nexts stripe_two (configuration (set 2) (set 4) 2 (0 ∷ []))) ≡ 0 ∷ 0 ∷ 513 ∷ (set 2 ++ (set 4 ++ (2 ∷ 0 ∷ [])))
  pub other_phase : shown_next (nexts stripe_two (configuration (set 2) (set 4) 0 (0 ∷ []))) ≡ 0 ∷ 0 ∷ 256 ∷ (set 2 ++ (set 4 ++ (0 ∷ 0 ∷ [])))
  -- 01, "The stripe card": "rest 6"
  pub at_rest : shown_next (nexts stripe (after_steps 6)) ≡ 0 ∷ 1 ∷ 0 ∷ resting
  -- 01, P11: "Plan of 1,024: head 1 and body 2 long": revision 1, by its code, would be too long.
  pub too_long : shown_next (nexts stripe (configuration (set 8) (set 0) 0 (replicate 1024 3)))
      ≡ 0 ∷ 2 ∷ 513 ∷ (set 8 ++ (set 0 ++ (0 ∷ replicate 1024 3)))
  -- 01, "Numbers the guide may answer", row 13: "a phase over 2": no move is told.
  pub refused : shown_next (nexts stripe (configuration (set 8) (set 4) 3 (3 ∷ []))) ≡ 13 ∷ 1 ∷ 0 ∷ (set 8 ++ (set 4 ++ (3 ∷ 3 ∷ [])))
