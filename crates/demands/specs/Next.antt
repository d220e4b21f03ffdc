-- What comes next, beside what a run does; and the rule for an app that shows it: of every answer that meets a call's contract
-- (proved in proofs/). b is the card, c a configuration.
use Rattle.std.specs.Prelude.{◌≡◌, ◌↔◌, ℕ, suc, ◌<◌, Ok, Err}
use mathlib.Core.List.{[], ◌∷◌, ◌++◌, Memᴰ}
use Rattle.std.proofs.Math.Option.{some}
use Rattle.paper.specs.Transitions.{Choice}
use Rattle.runs.specs.declared.Ending.{Ending}
use Rattle.runs.specs.Order.{code, guide}
use Rattle.runs.specs.Theorems.{AtRest}
use Rattle.meaning.specs.declared.Refusal.{Refusal}
use Rattle.meaning.specs.declared.Configuration.{Configuration}
use Rattle.meaning.specs.declared.Reply.{Reply}
use Rattle.meaning.specs.declared.Written.{Written}
use Rattle.meaning.specs.declared.Ran.{Ran}
use Rattle.meaning.specs.declared.Coming.{Coming}
use Rattle.meaning.specs.declared.Next.{Next}
use Rattle.meaning.specs.Card.{Bytes, agent}
use Rattle.meaning.specs.Configurations.{state_of}
use Rattle.meaning.specs.Refusals.{answer_number, configuration_answer}
use Rattle.meaning.specs.Calls.{reply}
use Rattle.demands.specs.CallContracts.{Takes, Runs, Saves, Nexts, Shaped}
use Rattle.demands.specs.Demands.{done_or_card, OnAccepted}
use Rattle.demands.specs.TurnedScreen.{Turn, held, TurnDone}

-- ---- next, beside a run with budget 1

-- The code n is that of the guide's own choice: 00, demand 2: "The guide's own order is document 01's."
pub record OwnChoice (b : Bytes) (c : Configuration) (n : ℕ) : Type 0 where
  pub chosen : Choice
  pub own : guide (agent b) (state_of c) ≡ some chosen
  -- 01, "A configuration and its transitions": "A choice is coded as 256 times the kind … plus the number"
  pub coded : code chosen ≡ n

-- A run that is done: its count, its ending and the configuration reached.
abbrev pub ran_to : ℕ → Ending → Configuration → Ran
ran_to n e c = record { answer = Ok tt; count = n; ending = e; configuration = c }

-- A move is told, by its code n: it is the one that a run with budget 1 makes, and taking it leads where that run leads.
pub record MoveTold (b : Bytes) (c : Configuration) (n : ℕ) (one : Ran) : Type 0 where
  pub own : OwnChoice b c n
  pub run : one ≡ ran_to 1 Ending.Spent one.configuration
  pub taken : (t : Reply) → Takes b c n t → t ≡ reply (Ok tt) one.configuration

-- Full is told, with the code n that does not fit: 01, "A configuration and its transitions": "full when the transition to be taken
-- would leave more than 1,024 actions, which is then not taken"; 01, "Numbers the guide may answer", row 11, of the same choice.
pub record FullTold (b : Bytes) (c : Configuration) (n : ℕ) (one : Ran) : Type 0 where
  pub own : OwnChoice b c n
  pub run : one ≡ ran_to 0 Ending.Full c
  pub refused : (t : Reply) → Takes b c n t → t ≡ reply (Err Refusal.PlanFull) c

-- What next answers on an accepted card and configuration, beside a run with budget 1: each of the three exactly where the run
-- says so.
pub record BesideOne (b : Bytes) (c : Configuration) (r : Next) (one : Ran) : Type 0 where
  pub done : r.answer ≡ Ok tt
  pub move_exactly : ((n : ℕ) × (r.coming ≡ Coming.Move n)) ↔ (one.count ≡ 1)
  pub move : (n : ℕ) → r.coming ≡ Coming.Move n → MoveTold b c n one
  pub full_exactly : ((n : ℕ) × (r.coming ≡ Coming.Full n)) ↔ (one.ending ≡ Ending.Full)
  pub full : (n : ℕ) → r.coming ≡ Coming.Full n → FullTold b c n one
  pub rest_exactly : (r.coming ≡ Coming.Rest) ↔ (one.ending ≡ Ending.Rest)
  pub rest : r.coming ≡ Coming.Rest → one ≡ ran_to 0 Ending.Rest c
  -- 00, demand 2: "it says "rest" exactly when no transition exists."
  pub no_transition : (r.coming ≡ Coming.Rest) ↔ AtRest (agent b) (state_of c).mental

-- Of every answer that next may give.
pub record NextLaws : Type 0 where
  -- 00, the card: "The guide shows the next move.", on an accepted card and configuration
  pub beside_one : (b : Bytes) (c : Configuration) → Shaped c → OnAccepted b c → (r : Next) → Nexts b c r
      → (one : Ran) → Runs b c 1 one → BesideOne b c r one
  -- 01, "Numbers the guide may answer": "the card first with 1 to 9, then … a configuration with 13": no other refusal
  pub answered : (b : Bytes) (c : Configuration) (r : Next) → Nexts b c r → r.answer ≡ configuration_answer b c
  pub listed : (b : Bytes) (c : Configuration) (r : Next) → Nexts b c r → Memᴰ (answer_number r.answer) (done_or_card ++ (13 ∷ []))
  -- a refusal says rest, and no move
  pub refused : (b : Bytes) (c : Configuration) (r : Next) → Nexts b c r → (q : Refusal) → r.answer ≡ Err q → r.coming ≡ Coming.Rest
  -- nothing is changed: 00, demand 1: "A refusal hands back the configuration it was given", and so where it is done
  pub unchanged : (b : Bytes) (c : Configuration) (r : Next) → Nexts b c r → r.configuration ≡ c
  -- 01, "What the contracts settle": "the contract determines the answer"
  pub determined : (b : Bytes) (c : Configuration) (r r' : Next) → Nexts b c r → Nexts b c r' → r ≡ r'
  -- 02, Wish 7: "The turned screen": after a turn the same is told
  pub after_a_turn : (b : Bytes) (c : Configuration) → Shaped c → (t : Turn b c) → (turned : Next) → Nexts b (held t) turned
      → (r : Next) → Nexts b c r → turned ≡ r

-- ---- the rule for an app

-- 00: "Save the pick before anything else". What an app has done that keeps to the rule, from a configuration c₀ on: how many moves
-- are made, and where it stands. A tablet that dies goes on from its last place: that is a turn of what was done up to that save,
-- and the move that was shown is shown again.
pub data Woven (b : Bytes) (c₀ : Configuration) : ℕ → Configuration → Type 0 where
  -- the app begins
  begun : Woven b c₀ 0 c₀
  -- it shows what next told, and takes it when the weaver says that it is made
  made : {n : ℕ} {c : Configuration} → Woven b c₀ n c → (r : Next) → Nexts b c r → (k : ℕ) → r.coming ≡ Coming.Move k
      → (t : Reply) → Takes b c k t → Woven b c₀ (suc n) t.configuration
  -- it saves, anywhere and with any room, and goes on with what save hands back
  saved : {n : ℕ} {c : Configuration} → Woven b c₀ n c → (out left : Bytes) (r : Written) → Saves b c out r left
      → Woven b c₀ n r.configuration
  -- 02, Wish 7: "save, restore under the same card": the screen is turned, or the app starts again from its last place
  turned : {n : ℕ} {c : Configuration} → Woven b c₀ n c → (t : Turn b c) → Woven b c₀ n (held t)

-- Every move that was told is taken, and every turn of the screen is done.
abbrev pub EachDone : {b : Bytes} {c₀ c : Configuration} {n : ℕ} → Woven b c₀ n c → Type 0
EachDone begun = Unit
EachDone (made w r v k e t u) = (t.answer ≡ Ok tt) × EachDone w
EachDone (saved w out left r v) = EachDone w
EachDone (turned {c = c} w t) = TurnDone c t × EachDone w

-- What was woven is one run that was never stopped: no pick is skipped, and none made twice.
pub record AsOne {b : Bytes} {c₀ c : Configuration} {n : ℕ} (w : Woven b c₀ n c) : Type 0 where
  pub each_done : EachDone w
  -- one run with as many moves
  pub one_run : (one : Ran) → Runs b c₀ n one → one ≡ ran_to n Ending.Spent c
  -- where next says rest, a run with any greater budget rests there
  pub at_rest : (r : Next) → Nexts b c r → r.coming ≡ Coming.Rest → (budget : ℕ) → n < budget → (one : Ran) → Runs b c₀ budget one
      → one ≡ ran_to n Ending.Rest c
  -- where next says full, it is full there
  pub is_full : (r : Next) → Nexts b c r → (k : ℕ) → r.coming ≡ Coming.Full k → (budget : ℕ) → n < budget → (one : Ran) → Runs b c₀ budget one
      → one ≡ ran_to n Ending.Full c

-- The rule for an app, from an accepted card and configuration on.
pub record AppsRule : Type 0 where
  -- taking what next told, move after move, with any number of turns and with saves anywhere, is one run
  pub as_one : (b : Bytes) (c₀ : Configuration) → Shaped c₀ → OnAccepted b c₀ → (n : ℕ) (c : Configuration) (w : Woven b c₀ n c) → AsOne w
  -- and every run is woven so: what next tells misses none of its moves
  pub any_run : (b : Bytes) (c₀ : Configuration) → Shaped c₀ → OnAccepted b c₀ → (budget : ℕ) (one : Ran) → Runs b c₀ budget one
      → Woven b c₀ one.count one.configuration
