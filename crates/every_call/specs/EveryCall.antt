-- What the documents say of every public call: a record for each sentence, with what is said of the eight calls of document 01, and
-- the same of next, the two for bounded cards, go on, name, text and print, as far as it concerns each (proved in proofs/). What is
-- said of go on is said of deliberate, which is the case that the numbers given are the whole: `Deliberates`.
use Rattle.std.specs.Prelude.{◌≡◌, true, false, ℕ, ◌≤◌, take, Ok, Err}
use mathlib.Core.List.{List, [], ◌∷◌, ◌++◌, Memᴰ}
use Rattle.meaning.specs.declared.Refusal.{Refusal}
use Rattle.meaning.specs.Answers.{Answer}
use Rattle.meaning.specs.declared.Configuration.{Configuration}
use Rattle.meaning.specs.declared.Coming.{Coming}
use Rattle.meaning.specs.declared.Next.{Next}
use Rattle.meaning.specs.declared.BoundedRefusal.{BoundedRefusal}
use Rattle.meaning.specs.declared.BoundedReply.{BoundedReply}
use Rattle.meaning.specs.declared.BoundedRan.{BoundedRan}
use Rattle.meaning.specs.Card.{Bytes, layout}
use Rattle.meaning.specs.Refusals.{answer_number, first_given, card_answer, configuration_answer}
use Rattle.meaning.specs.Calls.{room_for}
use Rattle.meaning.specs.BoundedCalls.{as_answer, bounded_answer}
use Rattle.demands.specs.CallContracts.{Nexts, BoundedTakes, BoundedRuns}
use Rattle.demands.specs.Demands.{done_or_card, Demand1, Determined, OnAccepted}
use Rattle.demands.specs.TestOrder.{TestOrder}
use Rattle.demands.specs.AcceptedAgain.{AcceptedAgain}
use Rattle.demands.specs.Struck.{Unbelieved, Struck}
use Rattle.demands.specs.BoundedCalls.{OnBounded}
use Rattle.notation.specs.Lines.{Said, Text}
use Rattle.notation.specs.Built.{built}
use Rattle.notation.specs.Reading.{Derived, text_table, Reads}
use Rattle.notation.specs.Printing.{print_table, printed, Prints}
use Rattle.notation.specs.Theorems.{ReadDetermined}
use Rattle.deliberation.specs.declared.Deliberated.{Deliberated}
use Rattle.deliberation.specs.Entries.{go_on_answer}
use Rattle.deliberation.specs.Theorems.{numbers_in, GoesOn, RefusalLaw, DeterminedLaw}
use Rattle.names.specs.declared.Named.{Named}
use Rattle.names.specs.Sheets.{shed_good, master_good}
use Rattle.names.specs.Naming.{Question, refused_name, Names}

-- 00, demand 1: "Every public call ends, on all bytes and numbers, with an answer listed in document 01. A refusal hands back the
-- configuration it was given, or the empty one where it was given none, and writes to no lent buffer." That each call ends is
-- proved with its code.
pub record EveryCall : Type 0 where
  pub eight : Demand1
  -- 01, "Numbers the guide may answer": "the card first with 1 to 9, then … a configuration with 13"
  pub next_listed : (b : Bytes) (c : Configuration) (r : Next) → Nexts b c r → Memᴰ (answer_number r.answer) (done_or_card ++ (13 ∷ []))
  -- 02, Wish 10: "take both out of these answers": 11 is not among them; "22 …, after 13."
  pub take_bounded_listed : (b : Bytes) (c : Configuration) (n : ℕ) (r : BoundedReply) → BoundedTakes b c n r
      → Memᴰ (answer_number (as_answer r.answer)) (done_or_card ++ (13 ∷ 22 ∷ 14 ∷ 15 ∷ 16 ∷ []))
  pub run_bounded_listed : (b : Bytes) (c : Configuration) (budget : ℕ) (r : BoundedRan) → BoundedRuns b c budget r
      → Memᴰ (answer_number (as_answer r.answer)) (done_or_card ++ (13 ∷ 22 ∷ []))
  -- 02, Wish 6: "19 …, after 9 and before 13."
  pub go_on_listed : (b p : Bytes) (ns : List ℕ) (c : Configuration) (budget : ℕ) (lent : Bytes) (r : Deliberated)
      → GoesOn b p ns c budget lent r → Memᴰ (answer_number r.answer) (done_or_card ++ (19 ∷ 13 ∷ []))
  -- 02, Wish 8: "20 a sheet breaking these rules, the shed's before the master; then 21 unknown action."
  pub name_listed : (b : Bytes) (q : Question) (r : Named) → Names b q r
      → Memᴰ (answer_number r.answer) (done_or_card ++ (20 ∷ 21 ∷ []))
  -- 02, Wish 2: "17 text, …; 18 nested too deep; 25 a number too large for its field, …; then 3 and 5 to 9 as for the card it would
  -- build; 12."
  pub text_listed : (t out left : Bytes) (a : Answer) (n : ℕ) → Reads t out a n left
      → Memᴰ (answer_number a) (0 ∷ 17 ∷ 18 ∷ 25 ∷ 3 ∷ 5 ∷ 6 ∷ 7 ∷ 8 ∷ 9 ∷ 12 ∷ [])
  -- 02, Wish 2: "refuses: 7 no such node, 18, 25 over 256 nodes, 12."
  pub print_listed : (b : Bytes) (n : ℕ) (out left : Bytes) (a : Answer) (count : ℕ) → Prints b n out a count left
      → Memᴰ (answer_number a) (done_or_card ++ (18 ∷ 25 ∷ 12 ∷ []))
  -- 00, demand 1: "A refusal hands back the configuration it was given"; and no move is told
  pub next_hands_back : (b : Bytes) (c : Configuration) (r : Next) → Nexts b c r → (q : Refusal) → r.answer ≡ Err q
      → (r.configuration ≡ c) × (r.coming ≡ Coming.Rest)
  pub take_bounded_hands_back : (b : Bytes) (c : Configuration) (n : ℕ) (r : BoundedReply) → BoundedTakes b c n r
      → (q : BoundedRefusal) → r.answer ≡ Err q → r.configuration ≡ c
  pub run_bounded_hands_back : (b : Bytes) (c : Configuration) (budget : ℕ) (r : BoundedRan) → BoundedRuns b c budget r
      → (q : BoundedRefusal) → r.answer ≡ Err q → (r.configuration ≡ c) × (r.count ≡ 0)
  -- 00, demand 1: "A refusal hands back the configuration it was given"; 01, "Numbers the guide may answer": "Any count in a
  -- refusal is 0."; 02, Wish 6: "none when refused"; 00, demand 1: "and writes to no lent buffer": the bytes that are lent for the
  -- numbers are as they were.
  pub go_on_hands_back : (b p : Bytes) (ns : List ℕ) (c : Configuration) (budget : ℕ) (lent : Bytes) (r : Deliberated)
      → GoesOn b p ns c budget lent r → (q : Refusal) → r.answer ≡ Err q
      → (r.configuration ≡ c) × ((r.count ≡ 0) × ((r.remaining.length ≡ 0) × (r.remaining.numbers ≡ lent)))
  -- 02, Wish 8: "Refusals, with an empty part of the master"
  pub name_hands_back : (b : Bytes) (q : Question) (r : Named) → Names b q r → (x : Refusal) → r.answer ≡ Err x
      → r ≡ refused_name (Err x)
  -- 00, demand 1: "and writes to no lent buffer"; 01, "Numbers the guide may answer": "Any count in a refusal is 0."
  pub text_leaves : (t out left : Bytes) (a : Answer) (n : ℕ) → Reads t out a n left → (q : Refusal) → a ≡ Err q
      → (n ≡ 0) × (left ≡ out)
  pub print_leaves : (b : Bytes) (n : ℕ) (out left : Bytes) (a : Answer) (count : ℕ) → Prints b n out a count left
      → (q : Refusal) → a ≡ Err q → (count ≡ 0) × (left ≡ out)

-- 01, "Numbers the guide may answer": "They are tested in the table's order, the card first with 1 to 9, then a place with 1, 2, 3,
-- 4, 8, 9 or a configuration with 13; then the rest."
pub record EveryOrder : Type 0 where
  pub eight : TestOrder
  -- 01, "Numbers the guide may answer": "the card first with 1 to 9, then … a configuration with 13": and no other
  pub next : (b : Bytes) (c : Configuration) (r : Next) → Nexts b c r → r.answer ≡ configuration_answer b c
  -- 02, Wish 10: "22 the card is open or the plan too heavy, after 13.": before what take answers of the choice; run answers no
  -- other
  pub take_bounded : (b : Bytes) (c : Configuration) (n : ℕ) (r : BoundedReply) → BoundedTakes b c n r
      → (q : Refusal) → bounded_answer b c ≡ Err q → as_answer r.answer ≡ Err q
  pub run_bounded : (b : Bytes) (c : Configuration) (budget : ℕ) (r : BoundedRan) → BoundedRuns b c budget r
      → as_answer r.answer ≡ bounded_answer b c
  -- 02, Wish 6: "19 a program breaking these rules or naming an unknown rule or node, after 9 and before 13."
  pub go_on : RefusalLaw
  -- 01, "Numbers the guide may answer": "the card first with 1 to 9", of the two others that are given one
  pub name_card : (b : Bytes) (q : Question) (r : Named) → Names b q r → (x : Refusal) → card_answer b ≡ Err x → r.answer ≡ Err x
  pub print_card : (b : Bytes) (n : ℕ) (out left : Bytes) (a : Answer) (count : ℕ) → Prints b n out a count left
      → (q : Refusal) → card_answer b ≡ Err q → a ≡ Err q
  -- 02, Wish 8: "20 a sheet breaking these rules, the shed's before the master"
  pub name_shed : (b : Bytes) (q : Question) (r : Named) → Names b q r → card_answer b ≡ Ok tt
      → shed_good (layout b).actions q.shed ≡ false → r.answer ≡ Err (Refusal.Sheet 1)
  pub name_master : (b : Bytes) (q : Question) (r : Named) → Names b q r → card_answer b ≡ Ok tt
      → shed_good (layout b).actions q.shed ≡ true → master_good (layout b).actions q.master ≡ false
      → r.answer ≡ Err (Refusal.Sheet 0)
  -- 02, Wish 8: "then 21 unknown action."
  pub name_action : (b : Bytes) (q : Question) (r : Named) → Names b q r → card_answer b ≡ Ok tt
      → shed_good (layout b).actions q.shed ≡ true → master_good (layout b).actions q.master ≡ true
      → (layout b).actions ≤ q.action → r.answer ≡ Err Refusal.NoAction
  -- 02, Wish 2: "Refusals, in this order: 17 text"
  pub text_first : (t out left : Bytes) (a : Answer) (n : ℕ) → Reads t out a n left → (Derived t → ⊥)
      → (p : ℕ) × (a ≡ Err (Refusal.Text p))
  -- 02, Wish 2: "18 nested too deep; 25 a number too large for its field": in the order of these rows
  pub text_next : (t out left : Bytes) (a : Answer) (n : ℕ) → Reads t out a n left → (s : Said) → Text t s
      → (q : Refusal) → first_given text_table s ≡ Err q → a ≡ Err q
  -- 02, Wish 2: "then 3 and 5 to 9 as for the card it would build; 12."
  pub text_card : (t out left : Bytes) (a : Answer) (n : ℕ) → Reads t out a n left → (s : Said) → Text t s
      → first_given text_table s ≡ Ok tt → (q : Refusal) → card_answer (built s) ≡ Err q → a ≡ Err q
  pub text_room : (t out left : Bytes) (a : Answer) (n : ℕ) → Reads t out a n left → (s : Said) → Text t s
      → first_given text_table s ≡ Ok tt → card_answer (built s) ≡ Ok tt → a ≡ room_for (built s) out
  -- 02, Wish 2: "refuses: 7 no such node, 18, 25 over 256 nodes": in the order of these rows; then "12"
  pub print_next : (b : Bytes) (n : ℕ) (out left : Bytes) (a : Answer) (count : ℕ) → Prints b n out a count left
      → card_answer b ≡ Ok tt → (q : Refusal) → first_given (print_table (layout b) b) n ≡ Err q → a ≡ Err q
  pub print_room : (b : Bytes) (n : ℕ) (out left : Bytes) (a : Answer) (count : ℕ) → Prints b n out a count left
      → card_answer b ≡ Ok tt → first_given (print_table (layout b) b) n ≡ Ok tt → a ≡ room_for (printed b n) out

-- 01, "What the contracts settle": "For each public function and each input, refusals too, the contract determines the answer and
-- every byte and number in lent buffers afterwards; equality of any two conforming answers is proved".
pub record EveryAnswer : Type 0 where
  pub eight : Determined
  pub next : (b : Bytes) (c : Configuration) (r r' : Next) → Nexts b c r → Nexts b c r' → r ≡ r'
  pub take_bounded : (b : Bytes) (c : Configuration) (n : ℕ) (r r' : BoundedReply) → BoundedTakes b c n r → BoundedTakes b c n r' → r ≡ r'
  pub run_bounded : (b : Bytes) (c : Configuration) (budget : ℕ) (r r' : BoundedRan)
      → BoundedRuns b c budget r → BoundedRuns b c budget r' → r ≡ r'
  pub go_on : DeterminedLaw
  pub name : (b : Bytes) (q : Question) (r r' : Named) → Names b q r → Names b q r' → r ≡ r'
  pub text : ReadDetermined
  pub print : (b : Bytes) (n : ℕ) (out left left' : Bytes) (a a' : Answer) (count count' : ℕ)
      → Prints b n out a count left → Prints b n out a' count' left' → (a ≡ a') × (count ≡ count') × (left ≡ left')

-- What a done deliberation answers, its numbers and its configuration, may be gone on from.
abbrev pub AcceptedNumbers : Type 0
AcceptedNumbers = (b p : Bytes) (ns : List ℕ) (c : Configuration) (budget : ℕ) (lent : Bytes) (r : Deliberated)
    → GoesOn b p ns c budget lent r → r.answer ≡ Ok tt → go_on_answer b p (numbers_in r.remaining) r.configuration ≡ Ok tt

-- 00, demand 2: "On an accepted card and configuration": what a call answers when it is done, the same card accepts, so that no
-- call after it answers 13; and the card that a text stands for is accepted.
pub record EveryDone : Type 0 where
  pub eight : AcceptedAgain
  pub next : (b : Bytes) (c : Configuration) (r : Next) → Nexts b c r → r.answer ≡ Ok tt → OnAccepted b r.configuration
  -- 02, Wish 10: "a plan weighing at most 1,024": neither call after it answers 22 either
  pub take_bounded : (b : Bytes) (c : Configuration) (n : ℕ) (r : BoundedReply) → BoundedTakes b c n r → r.answer ≡ Ok tt
      → OnBounded b r.configuration
  pub run_bounded : (b : Bytes) (c : Configuration) (budget : ℕ) (r : BoundedRan) → BoundedRuns b c budget r → r.answer ≡ Ok tt
      → OnBounded b r.configuration
  pub go_on : (b p : Bytes) (ns : List ℕ) (c : Configuration) (budget : ℕ) (lent : Bytes) (r : Deliberated)
      → GoesOn b p ns c budget lent r → r.answer ≡ Ok tt → OnAccepted b r.configuration
  -- with the numbers that remain: go on accepts both, so that it does not answer 19 either
  pub numbers : AcceptedNumbers
  -- 02, Wish 2: "builds an edition 1 card": as many of the bytes as were told
  pub text : (t out left : Bytes) (a : Answer) (n : ℕ) → Reads t out a n left → a ≡ Ok tt → card_answer (take n left) ≡ Ok tt

-- 02, Wish 5: "From now on goals are struck by the beliefs": from a configuration where no goal is believed, no call reaches one
-- where one is.
pub record EveryGoal : Type 0 where
  pub eight : Struck
  pub next : (b : Bytes) (c : Configuration) (r : Next) → Nexts b c r → Unbelieved c → Unbelieved r.configuration
  pub take_bounded : (b : Bytes) (c : Configuration) (n : ℕ) (r : BoundedReply) → BoundedTakes b c n r → Unbelieved c
      → Unbelieved r.configuration
  pub run_bounded : (b : Bytes) (c : Configuration) (budget : ℕ) (r : BoundedRan) → BoundedRuns b c budget r → Unbelieved c
      → Unbelieved r.configuration
  pub go_on : (b p : Bytes) (ns : List ℕ) (c : Configuration) (budget : ℕ) (lent : Bytes) (r : Deliberated)
      → GoesOn b p ns c budget lent r → Unbelieved c → Unbelieved r.configuration
