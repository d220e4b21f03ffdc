-- The letter's three demands over the eight calls' own contracts, and that a contract leaves one answer: of every answer that
-- meets the contract (proved in proofs/).
use Rattle.std.specs.Prelude.{◌≡◌, ◌↔◌, ℕ, ◌+◌, ◌*◌, ◌≤◌, ◌<◌, length, take, drop, Ok, Err}
use mathlib.Core.List.{List, [], ◌∷◌, ◌++◌, Memᴰ}
use Rattle.std.proofs.Math.Option.{some}
use Rattle.paper.specs.Language.{Config}
use Rattle.paper.specs.Transitions.{Choice, Step}
use Rattle.paper.specs.Theorems.{AreBytes}
use Rattle.runs.specs.Limits.{longest_plan, heaviest_plan}
use Rattle.runs.specs.declared.Ending.{Ending}
use Rattle.runs.specs.declared.Verdict.{Verdict}
use Rattle.runs.specs.Order.{State, code}
use Rattle.runs.specs.Step.{after}
use Rattle.runs.specs.Run.{Chain, Outcome}
use Rattle.runs.specs.Weight.{weigh, Bounded, selections}
use Rattle.runs.specs.Theorems.{AtRest, Rising}
use Rattle.runs.specs.Theorems as Runs
use Rattle.meaning.specs.declared.Refusal.{Refusal}
use Rattle.meaning.specs.Answers.{Answer, Checked}
use Rattle.meaning.specs.declared.Configuration.{Configuration}
use Rattle.meaning.specs.declared.Reply.{Reply}
use Rattle.meaning.specs.declared.Graded.{Graded}
use Rattle.meaning.specs.declared.Written.{Written}
use Rattle.meaning.specs.declared.Listed.{Listed}
use Rattle.meaning.specs.declared.Ran.{Ran}
use Rattle.meaning.specs.Sizes.{set_bytes, plan_at}
use Rattle.meaning.specs.Card.{Bytes, layout, weight, agent, initial_plan}
use Rattle.meaning.specs.Configurations.{state_of, configuration_of, empty}
use Rattle.meaning.specs.Numbers.{checked_number}
use Rattle.meaning.specs.Refusals.{answer_number, card_answer, configuration_answer}
use Rattle.meaning.specs.Calls.{choice}
use Rattle.demands.specs.CallContracts.{Checks, Loads, Grades, Lists, Takes, Runs, Saves, Restores, Shaped}

-- ---- demand 1

-- 01, "Numbers the guide may answer": "done", and "the card first with 1 to 9"; a place's 1, 2, 3, 4, 8 and 9 are among them.
unfoldable pub done_or_card : List ℕ
done_or_card = 0 ∷ 1 ∷ 2 ∷ 3 ∷ 4 ∷ 5 ∷ 6 ∷ 7 ∷ 8 ∷ 9 ∷ []

-- 00, demand 1, of every answer that meets a call's contract. That each call ends is proved with its code.
pub record Demand1 : Type 0 where
  -- 00, demand 1: "Every public call ends, on all bytes and numbers, with an answer listed in document 01."
  pub check_listed : (b : Bytes) (r : Checked) → Checks b r → Memᴰ (checked_number r) done_or_card
  pub load_listed : (b : Bytes) (r : Reply) → Loads b r → Memᴰ (answer_number r.answer) done_or_card
  pub grade_listed : (b : Bytes) (r : Graded) → Grades b r → Memᴰ (answer_number r.answer) done_or_card
  pub list-listed : (b : Bytes) (c : Configuration) (out left : List ℕ) (r : Listed) → Lists b c out r left
      → Memᴰ (answer_number r.answer) (done_or_card ++ (13 ∷ 12 ∷ []))
  pub take_listed : (b : Bytes) (c : Configuration) (n : ℕ) (r : Reply) → Takes b c n r
      → Memᴰ (answer_number r.answer) (done_or_card ++ (13 ∷ 14 ∷ 15 ∷ 16 ∷ 11 ∷ []))
  pub run_listed : (b : Bytes) (c : Configuration) (budget : ℕ) (r : Ran) → Runs b c budget r
      → Memᴰ (answer_number r.answer) (done_or_card ++ (13 ∷ []))
  pub save_listed : (b : Bytes) (c : Configuration) (out left : Bytes) (r : Written) → Saves b c out r left
      → Memᴰ (answer_number r.answer) (done_or_card ++ (13 ∷ 12 ∷ []))
  pub restore_listed : (b p : Bytes) (r : Reply) → Restores b p r → Memᴰ (answer_number r.answer) done_or_card
  -- 00, demand 1: "A refusal hands back the configuration it was given"; 01, "Numbers the guide may answer": "Any count in a
  -- refusal is 0."
  pub list_hands_back : (b : Bytes) (c : Configuration) (out left : List ℕ) (r : Listed) → Lists b c out r left
      → (q : Refusal) → r.answer ≡ Err q → (r.configuration ≡ c) × (r.count ≡ 0) × (r.judged ≡ 0) × (r.goals ≡ 0)
  pub take_hands_back : (b : Bytes) (c : Configuration) (n : ℕ) (r : Reply) → Takes b c n r
      → (q : Refusal) → r.answer ≡ Err q → r.configuration ≡ c
  pub run_hands_back : (b : Bytes) (c : Configuration) (budget : ℕ) (r : Ran) → Runs b c budget r
      → (q : Refusal) → r.answer ≡ Err q → (r.configuration ≡ c) × (r.count ≡ 0)
  pub save_hands_back : (b : Bytes) (c : Configuration) (out left : Bytes) (r : Written) → Saves b c out r left
      → (q : Refusal) → r.answer ≡ Err q → (r.configuration ≡ c) × (r.count ≡ 0)
  -- 00, demand 1: "or the empty one where it was given none"
  pub load_hands_empty : (b : Bytes) (r : Reply) → Loads b r → (q : Refusal) → r.answer ≡ Err q → r.configuration ≡ empty
  pub grade_hands_empty : (b : Bytes) (r : Graded) → Grades b r → (q : Refusal) → r.answer ≡ Err q → r.configuration ≡ empty
  pub restore_hands_empty : (b p : Bytes) (r : Reply) → Restores b p r → (q : Refusal) → r.answer ≡ Err q → r.configuration ≡ empty
  -- 00, demand 1: "and writes to no lent buffer"
  pub list_leaves : (b : Bytes) (c : Configuration) (out left : List ℕ) (r : Listed) → Lists b c out r left
      → (q : Refusal) → r.answer ≡ Err q → left ≡ out
  pub save_leaves : (b : Bytes) (c : Configuration) (out left : Bytes) (r : Written) → Saves b c out r left
      → (q : Refusal) → r.answer ≡ Err q → left ≡ out

-- ---- demand 2

-- 00, demand 2: "On an accepted card and configuration": rows 1 to 9 and 13 do not hold.
abbrev pub OnAccepted : Bytes → Configuration → Type 0
OnAccepted b c = configuration_answer b c ≡ Ok tt

-- 00, demand 2: "moves are those of Definitions 8 to 11 of source document 004": from the configuration handed in, by the
-- card's agent.
abbrev pub Transition : Bytes → Configuration → Choice → Config → Type 0
Transition b c k c' = Step (agent b) (state_of c).mental k c'

-- 00, demand 2: "moves are those of Definitions 8 to 11 of source document 004, …, none missing and none added", by their codes.
pub record AllMoves (b : Bytes) (c : Configuration) (ns : List ℕ) : Type 0 where
  -- 00, demand 2: "none missing"
  pub none_missing : (k : Choice) (c' : Config) → Transition b c k c' → Memᴰ (code k) ns
  -- 00, demand 2: "none added"
  pub none_added : (n : ℕ) → Memᴰ n ns → (k : Choice) × (code k ≡ n) × ((c' : Config) × Transition b c k c')
  -- 01, "Numbers the guide may answer": "rising, each once"
  pub rising : Rising ns

-- 01, "Numbers the guide may answer": "The list of enabled choices goes …, rising, each once, into the lent list; the answer
-- tells how many, and what lies after them stays."
pub record ListedMoves (b : Bytes) (c : Configuration) (out left : List ℕ) (count : ℕ) : Type 0 where
  -- 01, "Numbers the guide may answer": "the answer tells how many"
  pub counted : length (take count left) ≡ count
  -- 01, "Numbers the guide may answer": "The list of enabled choices"
  pub moves : AllMoves b c (take count left)
  -- 01, "Numbers the guide may answer": "what lies after them stays"
  pub stays : drop count left ≡ drop count out

-- 01, "Numbers the guide may answer", row 12: "the lent list or place buffer is too short": for n entries.
pub record RoomFor (n : ℕ) (out : List ℕ) (a : Answer) : Type 0 where
  -- 01, "Numbers the guide may answer", row 0: "none below holds"
  pub done_exactly : (a ≡ Ok tt) ↔ (n ≤ length out)
  -- 01, "Numbers the guide may answer", row 12: "too short"
  pub no_room_exactly : (a ≡ Err Refusal.NoRoom) ↔ (length out < n)

-- 00, demand 2: "A chosen move … such a transition": the one that the code n stands for. 01, "A configuration and its
-- transitions": "A choice is coded as 256 times the kind (0 selection, 1 action, 2 revision) plus the number".
pub record ChosenMove (b : Bytes) (c : Configuration) (n : ℕ) (k : Choice) (c' : Config) : Type 0 where
  pub coded : code k ≡ n
  pub transition : Transition b c k c'

-- 02, Wish 1: "10 gives way to three in its place": what a choice that is closed is answered with.
pub data IsClosed : Answer → Type 0 where
  -- 02, Wish 1: "14 no such rule or specification"
  no_rule : IsClosed (Err Refusal.NoRule)
  -- 02, Wish 1: "15 the plan's front doesn't fit"
  front : IsClosed (Err Refusal.Front)
  -- 02, Wish 1: "16 a condition is false, with the node"
  condition : {node : ℕ} → IsClosed (Err (Refusal.Condition node))

-- The configuration answered is the one that is handed out for a state, and stands for that state.
pub record StandsFor (c : Configuration) (s : State) : Type 0 where
  pub handed_out : c ≡ configuration_of s
  pub stands_for : state_of c ≡ s

-- 01, "A configuration and its transitions": "answers the configuration reached, how many transitions were taken, and one of
-- three endings": those of a run's outcome.
pub record Tells (r : Ran) (o : Outcome) : Type 0 where
  pub done : r.answer ≡ Ok tt
  -- 01, "A configuration and its transitions": "the configuration reached"
  pub reached : StandsFor r.configuration o.state
  -- 01, "A configuration and its transitions": "how many transitions were taken"
  pub count : r.count ≡ o.count
  -- 01, "A configuration and its transitions": "one of three endings"
  pub ending : r.ending ≡ o.ending

-- 00, demand 2, of every answer that meets a call's contract.
pub record Demand2 : Type 0 where
  -- 00, demand 2: "On an accepted card and configuration, moves are those of Definitions 8 to 11 of source document 004, with
  -- document 01's limits, none missing and none added."
  pub moves : (b : Bytes) (c : Configuration) → OnAccepted b c → (out left : List ℕ) (r : Listed) → Lists b c out r left
      → r.answer ≡ Ok tt → ListedMoves b c out left r.count
  -- 01, "Numbers the guide may answer", row 12: "the lent list … is too short" for the moves, and no other refusal.
  pub moves_room : (b : Bytes) (c : Configuration) → OnAccepted b c → (out left : List ℕ) (r : Listed) → Lists b c out r left
      → (ns : List ℕ) × (AllMoves b c ns × RoomFor (length ns) out r.answer)
  -- 01, "Numbers the guide may answer": "rising, each once": one list alone has a configuration's moves.
  pub moves_one : (b : Bytes) (c : Configuration) (ns ms : List ℕ) → AllMoves b c ns → AllMoves b c ms → ns ≡ ms
  -- 00, demand 2: "A chosen move is taken exactly if it is such a transition and its plan fits."
  pub taken_exactly : (b : Bytes) (c : Configuration) → OnAccepted b c → (n : ℕ) (r : Reply) → Takes b c n r
      → (r.answer ≡ Ok tt) ↔ ((k : Choice) × ((c' : Config) × (ChosenMove b c n k c' × (length c'.π ≤ longest_plan))))
  -- The configuration it leads to: 01, "A configuration and its transitions", The guide's order: "After any transition, the
  -- guide's or a chosen one, the phase is the kind taken plus 1, modulo 3."
  pub taken_to : (b : Bytes) (c : Configuration) → OnAccepted b c → (n : ℕ) (r : Reply) → Takes b c n r
      → (k : Choice) (c' : Config) → ChosenMove b c n k c' → length c'.π ≤ longest_plan → StandsFor r.configuration (after (state_of c) k c')
  -- 02, Wish 1: "Which choices are refused does not change": with 14, 15 or 16 exactly where 01, "Numbers the guide may answer",
  -- row 10 has "the code is no enabled choice".
  pub closed_exactly : (b : Bytes) (c : Configuration) → OnAccepted b c → (n : ℕ) (r : Reply) → Takes b c n r
      → IsClosed r.answer ↔ ((k : Choice) (c' : Config) → ChosenMove b c n k c' → ⊥)
  -- 01, "Numbers the guide may answer", row 11: "the choice is enabled, but leaves more than 1,024 actions"
  pub plan_full_exactly : (b : Bytes) (c : Configuration) → OnAccepted b c → (n : ℕ) (r : Reply) → Takes b c n r
      → (r.answer ≡ Err Refusal.PlanFull) ↔ ((k : Choice) × ((c' : Config) × (ChosenMove b c n k c' × (longest_plan < length c'.π))))
  -- 01, "A configuration and its transitions": "A choice is coded as …": a code in the list is read as the choice it stands for.
  pub read_back : (b : Bytes) (c : Configuration) → OnAccepted b c → (k : Choice) (c' : Config) → Transition b c k c'
      → choice (code k) ≡ some k
  -- 01, "Numbers the guide may answer", row 10: "the code is no enabled choice": none of "The list of enabled choices".
  pub offered : (b : Bytes) (c : Configuration) → OnAccepted b c → (out left : List ℕ) (r : Listed) → Lists b c out r left
      → r.answer ≡ Ok tt → (n : ℕ) (r' : Reply) → Takes b c n r'
      → Memᴰ n (take r.count left) ↔ (IsClosed r'.answer → ⊥)
  -- 00, demand 2: "The guide's own order is document 01's.": which move is the guide's, from any state.
  pub own_move : (b : Bytes) (s : State) → Runs.OrderLaws (agent b) s
  -- 00, demand 2: "The guide's own order is document 01's.": a run takes the guide's moves, each step of the chain.
  pub own_order : (b : Bytes) (c : Configuration) → OnAccepted b c → (budget : ℕ) (r : Ran) → Runs b c budget r
      → (o : Outcome) × (Runs.Traced (agent b) budget (state_of c) o × Tells r o)
  -- 00, demand 2: "With budget left it says "rest" exactly when no transition exists."
  pub rest_exactly : (b : Bytes) (c : Configuration) → OnAccepted b c → (budget : ℕ) (r : Ran) → Runs b c budget r
      → r.count < budget → (r.ending ≡ Ending.Rest) ↔ AtRest (agent b) (state_of r.configuration).mental
  -- 00, demand 2: "with room to save": 01, "The place": "Exactly 44 + L bytes."; 02, Wish 9: "a place's plan starts at 76".
  pub saved_room : (b : Bytes) (c : Configuration) → Shaped c → OnAccepted b c → (out left : Bytes) (r : Written) → Saves b c out r left
      → RoomFor (plan_at (set_bytes (layout b)) + c.mind.length) out r.answer
  -- 01, "Numbers the guide may answer": "Saving writes 44 + L bytes and no others."; in edition 2 76 + L.
  pub saved : (b : Bytes) (c : Configuration) → Shaped c → (out left : Bytes) (r : Written) → Saves b c out r left → r.answer ≡ Ok tt
      → (r.count ≡ plan_at (set_bytes (layout b)) + c.mind.length) × (drop r.count left ≡ drop r.count out)
  -- 00, demand 2: "A place saved and restored is the same configuration", "under one card and with room to save".
  pub saved_restored : (b : Bytes) (c : Configuration) → Shaped c → (out left : Bytes) (r : Written) → Saves b c out r left
      → r.answer ≡ Ok tt → (r' : Reply) → Restores b (take r.count left) r'
      → (r'.answer ≡ Ok tt) × (r'.configuration ≡ c)
  -- 00, demand 2: "an accepted place, restored and saved, is the same bytes, under one card and with room to save."
  pub restored_saved : (b p : Bytes) → AreBytes p → (r : Reply) → Restores b p r → r.answer ≡ Ok tt
      → (out left : Bytes) → length p ≤ length out → (r' : Written) → Saves b r.configuration out r' left
      → (r'.answer ≡ Ok tt) × ((r'.count ≡ length p) × ((take (length p) left ≡ p) × (drop (length p) left ≡ drop (length p) out)))

-- ---- demand 3

-- 01, "Expected forms by place": "count of transitions taken is in the answer and equals the steps of the definition's chain,
-- bounded also by plan weight on bounded cards": of a run's answer on a bounded card, from a plan that weighs w.
pub record BoundedCount (b : Bytes) (c : Configuration) (w : ℕ) (r : Ran) : Type 0 where
  -- its choices
  pub choices : List Choice
  -- 00, demand 2: "The guide's own order is document 01's.": they are the guide's own, from the configuration handed in to the
  -- one reached
  pub guided : Runs.Guided (agent b) (state_of c) choices (state_of r.configuration)
  -- 01, "Expected forms by place": "equals the steps of the definition's chain"
  pub chain : Chain (agent b) (state_of c).mental choices (state_of r.configuration).mental
  pub counted : r.count ≡ length choices
  -- 00, demand 3: "a run with S selections has at most W plus 1,025 times S transitions"
  pub at_most : r.count ≤ w + 1025 * selections choices
  -- 00, demand 3: "no run of more than W transitions without a plan selection exists"
  pub without_selection : selections choices ≡ 0 → r.count ≤ w

-- 00, demand 3, of every answer that meets a call's contract.
pub record Demand3 : Type 0 where
  -- 00, demand 3: "A card is graded bounded exactly if its starting plans weigh at most 1,024 and each revision lowers the
  -- weight."
  pub exactly : (b : Bytes) → card_answer b ≡ Ok tt → (g : Graded) → Grades b g
      → (g.verdict ≡ Verdict.Bounded) ↔ Bounded (weight b) (agent b) (initial_plan b)
  -- the same sentence of a refused card: it is never called bounded.
  pub refused_never : (b : Bytes) (g : Graded) → Grades b g → (q : Refusal) → g.answer ≡ Err q
      → g.verdict ≡ Verdict.Bounded → ⊥
  -- 00, demand 3: "Under such a card, from a configuration whose plan weighs W, at most 1,024, no run of more than W
  -- transitions without a plan selection exists, whoever chooses"
  pub without_selection : (b : Bytes) (g : Graded) → Grades b g → g.verdict ≡ Verdict.Bounded
      → (c c' : Config) (ks : List Choice) → weigh (weight b) c.π ≤ heaviest_plan → Chain (agent b) c ks c'
      → selections ks ≡ 0 → length ks ≤ weigh (weight b) c.π
  -- 00, demand 3: "a run with S selections has at most W plus 1,025 times S transitions"
  pub with_selections : (b : Bytes) (g : Graded) → Grades b g → g.verdict ≡ Verdict.Bounded
      → (c c' : Config) (ks : List Choice) → weigh (weight b) c.π ≤ heaviest_plan → Chain (agent b) c ks c'
      → length ks ≤ weigh (weight b) c.π + 1025 * selections ks
  -- 00, demand 3: "and no run, selections included, ever meets a plan too long"
  pub never_too_long : (b : Bytes) (g : Graded) → Grades b g → g.verdict ≡ Verdict.Bounded
      → (c c' : Config) (ks : List Choice) → weigh (weight b) c.π ≤ heaviest_plan → Chain (agent b) c ks c'
      → length c'.π ≤ longest_plan
  -- the same sentence of run: 01, "A configuration and its transitions": "full" is never its ending.
  pub never_full : (b : Bytes) (g : Graded) → Grades b g → g.verdict ≡ Verdict.Bounded
      → (c : Configuration) → weigh (weight b) (state_of c).mental.π ≤ heaviest_plan
      → (budget : ℕ) (r : Ran) → Runs b c budget r → r.ending ≡ Ending.Full → ⊥
  -- 00, demand 3: "a run with S selections has at most W plus 1,025 times S transitions", of the count that run answers.
  pub run_count : (b : Bytes) (g : Graded) → Grades b g → g.verdict ≡ Verdict.Bounded
      → (c : Configuration) → weigh (weight b) (state_of c).mental.π ≤ heaviest_plan
      → (budget : ℕ) (r : Ran) → Runs b c budget r → BoundedCount b c (weigh (weight b) (state_of c).mental.π) r
  -- 00, demand 3: "no run, selections included, ever meets a plan too long", of take: 01, "Numbers the guide may answer", row 11:
  -- "plan full" is never its answer.
  pub never_plan_full : (b : Bytes) (g : Graded) → Grades b g → g.verdict ≡ Verdict.Bounded
      → (c : Configuration) → weigh (weight b) (state_of c).mental.π ≤ heaviest_plan
      → (n : ℕ) (r : Reply) → Takes b c n r → r.answer ≡ Err Refusal.PlanFull → ⊥

-- ---- one answer

-- 01, "What the contracts settle": "For each public function and each input, refusals too, the contract determines the answer
-- and every byte and number in lent buffers afterwards; equality of any two conforming answers is proved".
pub record Determined : Type 0 where
  pub check : (b : Bytes) (r r' : Checked) → Checks b r → Checks b r' → r ≡ r'
  pub load : (b : Bytes) (r r' : Reply) → Loads b r → Loads b r' → r ≡ r'
  pub grade : (b : Bytes) (r r' : Graded) → Grades b r → Grades b r' → r ≡ r'
  pub list : (b : Bytes) (c : Configuration) (out left left' : List ℕ) (r r' : Listed)
      → Lists b c out r left → Lists b c out r' left' → (r ≡ r') × (left ≡ left')
  pub take : (b : Bytes) (c : Configuration) (n : ℕ) (r r' : Reply) → Takes b c n r → Takes b c n r' → r ≡ r'
  pub run : (b : Bytes) (c : Configuration) (budget : ℕ) (r r' : Ran) → Runs b c budget r → Runs b c budget r' → r ≡ r'
  pub save : (b : Bytes) (c : Configuration) (out left left' : Bytes) (r r' : Written)
      → Saves b c out r left → Saves b c out r' left' → (r ≡ r') × (left ≡ left')
  pub restore : (b p : Bytes) (r r' : Reply) → Restores b p r → Restores b p r' → r ≡ r'
