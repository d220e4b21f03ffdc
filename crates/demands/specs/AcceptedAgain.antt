-- What a call answers when it is done, the same card accepts: no call after it answers 13 (proved in proofs/).
use Rattle.std.specs.Prelude.{◌≡◌, List, ℕ, Ok}
use Rattle.meaning.specs.declared.Configuration.{Configuration}
use Rattle.meaning.specs.declared.Reply.{Reply}
use Rattle.meaning.specs.declared.Graded.{Graded}
use Rattle.meaning.specs.declared.Written.{Written}
use Rattle.meaning.specs.declared.Listed.{Listed}
use Rattle.meaning.specs.declared.Ran.{Ran}
use Rattle.meaning.specs.Card.{Bytes}
use Rattle.demands.specs.CallContracts.{Loads, Grades, Lists, Takes, Runs, Saves, Restores}
use Rattle.demands.specs.Demands.{OnAccepted}

-- 00, demand 2: "On an accepted card and configuration": what is answered there is such a configuration again.
pub record AcceptedAgain : Type 0 where
  -- 01, "What the guide does": "load it"
  pub load : (b : Bytes) (r : Reply) → Loads b r → r.answer ≡ Ok tt → OnAccepted b r.configuration
  -- 01, "What the guide does": "grade the card": the empty one
  pub grade : (b : Bytes) (r : Graded) → Grades b r → r.answer ≡ Ok tt → OnAccepted b r.configuration
  -- 01, "What the guide does": "list the enabled moves": the one that it was given
  pub list : (b : Bytes) (c : Configuration) (out left : List ℕ) (r : Listed) → Lists b c out r left → r.answer ≡ Ok tt
      → OnAccepted b r.configuration
  -- 01, "What the guide does": "take a chosen move"
  pub take : (b : Bytes) (c : Configuration) (n : ℕ) (r : Reply) → Takes b c n r → r.answer ≡ Ok tt → OnAccepted b r.configuration
  -- 01, "What the guide does": "run by itself"
  pub run : (b : Bytes) (c : Configuration) (budget : ℕ) (r : Ran) → Runs b c budget r → r.answer ≡ Ok tt → OnAccepted b r.configuration
  -- 01, "What the guide does": "save a place": the one that it was given
  pub save : (b : Bytes) (c : Configuration) (out left : Bytes) (r : Written) → Saves b c out r left → r.answer ≡ Ok tt
      → OnAccepted b r.configuration
  -- 01, "What the guide does": "and restore it"
  pub restore : (b p : Bytes) (r : Reply) → Restores b p r → r.answer ≡ Ok tt → OnAccepted b r.configuration
