-- The order of tests over the whole table, of every answer that meets a call's contract (proved in proofs/). 01, "Numbers the
-- guide may answer": "They are tested in the table's order, the card first with 1 to 9, then a place with 1, 2, 3, 4, 8, 9 or a
-- configuration with 13; then the rest." Which rows a table has and in which order is said by TableLaws and TableOrder; the rest
-- by Demand2.
use Rattle.std.specs.Prelude.{◌≡◌, false, List, ℕ, Ok, Err}
use Rattle.meaning.specs.declared.Refusal.{Refusal}
use Rattle.meaning.specs.declared.Configuration.{Configuration}
use Rattle.meaning.specs.Answers.{Checked}
use Rattle.meaning.specs.declared.Reply.{Reply}
use Rattle.meaning.specs.declared.Graded.{Graded}
use Rattle.meaning.specs.declared.Written.{Written}
use Rattle.meaning.specs.declared.Listed.{Listed}
use Rattle.meaning.specs.declared.Ran.{Ran}
use Rattle.meaning.specs.Card.{Bytes, layout}
use Rattle.meaning.specs.Refusals.{card_answer, first_given, place_table, configuration_good}
use Rattle.demands.specs.CallContracts.{Checks, Loads, Grades, Lists, Takes, Runs, Saves, Restores}

-- 01, "Numbers the guide may answer": "the card first with 1 to 9": what a card is refused with, every call answers, whatever
-- else it is given.
pub record CardFirst (b : Bytes) (q : Refusal) : Type 0 where
  pub check : (r : Checked) → Checks b r → r ≡ Err q
  pub load : (r : Reply) → Loads b r → r.answer ≡ Err q
  pub grade : (r : Graded) → Grades b r → r.answer ≡ Err q
  pub list : (c : Configuration) (out left : List ℕ) (r : Listed) → Lists b c out r left → r.answer ≡ Err q
  pub take : (c : Configuration) (n : ℕ) (r : Reply) → Takes b c n r → r.answer ≡ Err q
  pub run : (c : Configuration) (budget : ℕ) (r : Ran) → Runs b c budget r → r.answer ≡ Err q
  pub save : (c : Configuration) (out left : Bytes) (r : Written) → Saves b c out r left → r.answer ≡ Err q
  pub restore : (p : Bytes) (r : Reply) → Restores b p r → r.answer ≡ Err q

-- 01, "Numbers the guide may answer": "or a configuration with 13": each call that is given one answers 13, whatever else it is
-- given.
pub record ConfigurationNext (b : Bytes) (c : Configuration) : Type 0 where
  pub list : (out left : List ℕ) (r : Listed) → Lists b c out r left → r.answer ≡ Err Refusal.Configuration
  pub take : (n : ℕ) (r : Reply) → Takes b c n r → r.answer ≡ Err Refusal.Configuration
  pub run : (budget : ℕ) (r : Ran) → Runs b c budget r → r.answer ≡ Err Refusal.Configuration
  pub save : (out left : Bytes) (r : Written) → Saves b c out r left → r.answer ≡ Err Refusal.Configuration

-- 01, "Numbers the guide may answer": "They are tested in the table's order"
pub record TestOrder : Type 0 where
  -- 01, "Numbers the guide may answer": "the card first with 1 to 9"
  pub card_first : (b : Bytes) (q : Refusal) → card_answer b ≡ Err q → CardFirst b q
  -- 01, "Numbers the guide may answer": "then a place with 1, 2, 3, 4, 8, 9"
  pub place_next : (b p : Bytes) (q : Refusal) → card_answer b ≡ Ok tt → first_given (place_table (layout b)) p ≡ Err q
      → (r : Reply) → Restores b p r → r.answer ≡ Err q
  -- 01, "Numbers the guide may answer": "or a configuration with 13"
  pub configuration_next : (b : Bytes) (c : Configuration) → card_answer b ≡ Ok tt → configuration_good (layout b) c ≡ false → ConfigurationNext b c
