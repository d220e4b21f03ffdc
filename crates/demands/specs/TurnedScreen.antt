-- The turned screen (02, Wish 7), of every answer that meets a call's contract (proved in proofs/). b is the card, c a
-- configuration.
use Rattle.std.specs.Prelude.{◌≡◌, List, [], ◌∷◌, ℕ, ◌+◌, ◌≤◌, length, take, Ok, Err}
use Rattle.runs.specs.declared.Ending.{Ending}
use Rattle.meaning.specs.declared.Refusal.{Refusal}
use Rattle.meaning.specs.declared.Configuration.{Configuration}
use Rattle.meaning.specs.declared.Reply.{Reply}
use Rattle.meaning.specs.declared.Written.{Written}
use Rattle.meaning.specs.declared.Ran.{Ran}
use Rattle.meaning.specs.Sizes.{set_bytes, plan_at}
use Rattle.meaning.specs.Card.{Bytes, layout}
use Rattle.meaning.specs.Configurations.{empty}
use Rattle.meaning.specs.Refusals.{and_then, card_answer, configuration_answer}
use Rattle.meaning.specs.Calls.{reply, written}
use Rattle.demands.specs.CallContracts.{Takes, Runs, Saves, Restores, Shaped}
use Rattle.demands.specs.Demands.{OnAccepted}

-- ---- a turn of the screen

-- 02, Wish 7: "save, restore under the same card": at a configuration c, with any lent buffer that has room for it, and any
-- answers that meet the contracts.
pub record Turn (b : Bytes) (c : Configuration) : Type 0 where
  -- the lent buffer
  pub out : Bytes
  -- 02, Wish 7: "given room to save": 01, "The place": "Exactly 44 + L bytes."; 02, Wish 9: "a place's plan starts at 76"
  pub room : plan_at (set_bytes (layout b)) + c.mind.length ≤ length out
  -- 02, Wish 7: "save": its answer, and what it leaves in the buffer
  pub saved : Written
  pub left : Bytes
  pub saves : Saves b c out saved left
  -- 02, Wish 7: "restore under the same card": as many of the bytes as save told
  pub restored : Reply
  pub restores : Restores b (take saved.count left) restored

-- What a caller goes on with: what restore answered; where that is refused, what save handed back. 00, demand 1: "A refusal
-- hands back the configuration it was given".
abbrev pub held : {b : Bytes} {c : Configuration} → Turn b c → Configuration
held t = elim t.restored.answer [ Ok _ ↦ t.restored.configuration | Err q ↦ t.saved.configuration ]

-- Both calls are done, and what was saved is restored, all of it.
pub record TurnDone {b : Bytes} (c : Configuration) (t : Turn b c) : Type 0 where
  pub save : t.saved.answer ≡ Ok tt
  pub restore : t.restored.answer ≡ Ok tt
  pub whole : t.restored.configuration ≡ c

-- Both calls are refused, save with q: 01, "Numbers the guide may answer": "A refusal answers the number and the configuration
-- as it came in". "Any count in a refusal is 0. No lent buffer is written." So restore is given no bytes: it answers what the
-- card is refused with, and 1 under a card that is accepted: 02, Wish 9: "a file under 4 bytes is 1".
pub record TurnRefused {b : Bytes} (q : Refusal) (c : Configuration) (t : Turn b c) : Type 0 where
  pub save : t.saved ≡ written (Err q) 0 c
  pub left : t.left ≡ t.out
  pub restore : t.restored ≡ reply (and_then (card_answer b) (Err Refusal.Short)) empty

-- ---- runs, with a turn of the screen between any two

-- 02, Wish 7: "run with budget j, save, restore under the same card, run with budget k", with any number of turns: from a
-- configuration, with the first budget and those after it; the answer of the last run, and all counts together.
pub data TurnedRuns (b : Bytes) : Configuration → ℕ → List ℕ → Ran → ℕ → Type 0 where
  -- the last run: no turn after it
  last_run : {c : Configuration} {j : ℕ} (r : Ran) → Runs b c j r → TurnedRuns b c j [] r r.count
  -- 02, Wish 7: "run with budget j, save, restore under the same card, run with budget k, where k is at least 1", and what follows
  run_turned : {c : Configuration} {j k n : ℕ} {ks : List ℕ} {last : Ran} (r : Ran) → Runs b c j r → (t : Turn b r.configuration)
      → 1 ≤ k → TurnedRuns b (held t) k ks last n → TurnedRuns b c j (k ∷ ks) last (r.count + n)

-- What holds of each run and of each turn.
abbrev pub Each : {b : Bytes} {c : Configuration} {j n : ℕ} {ks : List ℕ} {last : Ran}
    → (Ran → Type 0) → ((c : Configuration) → Turn b c → Type 0) → TurnedRuns b c j ks last n → Type 0
Each run turn (last_run r w) = run r
Each run turn (run_turned r w t least rest) = run r × (turn r.configuration t × Each run turn rest)

-- 02, Wish 7: "Configuration and ending equal those of one run with j + k, and the counts add up to its count."
pub record AsOneRun (last : Ran) (counts : ℕ) (one : Ran) : Type 0 where
  pub answer : last.answer ≡ one.answer
  -- 02, Wish 7: "Configuration": 02, Wish 4: "Let the configuration hold how many transitions have left the plan empty"
  pub configuration : last.configuration ≡ one.configuration
  -- 02, Wish 7: "and ending"
  pub ending : last.ending ≡ one.ending
  -- 02, Wish 7: "the counts add up to its count"
  pub count : counts ≡ one.count

-- A run that is refused with q (docs/DECISIONS.md, "What a refused run says beside its number").
abbrev pub refused_run : Refusal → Configuration → Ran
refused_run q c = record { answer = Err q; count = 0; ending = Ending.Spent; configuration = c }

-- Runs with turns beside one run. Where the card and the configuration are accepted every call is done; where one of the two is
-- refused every call is refused alike.
pub record Together {b : Bytes} {c : Configuration} {j n : ℕ} {ks : List ℕ} {last : Ran} (runs : TurnedRuns b c j ks last n) (one : Ran)
    : Type 0 where
  pub as_one_run : AsOneRun last n one
  pub all_done : OnAccepted b c → Each (λ r. r.answer ≡ Ok tt) TurnDone runs × (one.answer ≡ Ok tt)
  pub refused_alike : (q : Refusal) → configuration_answer b c ≡ Err q
      → Each (λ r. r ≡ refused_run q c) (TurnRefused q) runs × (one ≡ refused_run q c)

-- A sum of budgets. Serves TurnedScreen.
abbrev pub sum : List ℕ → ℕ
sum [] = 0
sum (k ∷ ks) = k + sum ks

-- 02, Wish 7: "The turned screen in one sentence." Of a configuration it needs what the types of its fields say of any. That j + k
-- "is at most 65,535" is what the type of a budget says.
pub record TurnedScreen : Type 0 where
  -- 02, Wish 7: "run with budget j, save, restore under the same card, run with budget k, where k is at least 1", beside "one
  -- run with j + k"
  pub one_turn : (b : Bytes) (c : Configuration) → Shaped c → (j k : ℕ) (least : 1 ≤ k)
      → (first : Ran) (w : Runs b c j first) (t : Turn b first.configuration) (second : Ran) (w' : Runs b (held t) k second)
      → (one : Ran) → Runs b c (j + k) one → Together (run_turned first w t least (last_run second w')) one
  -- the same with any number of turns
  pub any_turns : (b : Bytes) (c : Configuration) → Shaped c → (j : ℕ) (ks : List ℕ) (last : Ran) (n : ℕ)
      → (runs : TurnedRuns b c j ks last n) → (one : Ran) → Runs b c (j + sum ks) one → Together runs one
  -- 01, "What the guide does": "take a chosen move": after a turn it is answered as without the turn
  pub chosen_move : (b : Bytes) (c : Configuration) → Shaped c → (t : Turn b c) (n : ℕ)
      → (turned : Reply) → Takes b (held t) n turned → (r : Reply) → Takes b c n r → (OnAccepted b c → TurnDone c t) × (turned ≡ r)
