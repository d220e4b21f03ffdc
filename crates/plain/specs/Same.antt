-- The plain engine answers as the first does: 02, Wish 12: "It answers every load, choice, list and run exactly as the first engine
-- does, counts and refusals included" (proved in proofs/Same.antt). Both have these contracts: `guide` and `plain`, word by word.
use Rattle.std.specs.Prelude.{◌≡◌, List, ℕ}
use Rattle.meaning.specs.declared.Configuration.{Configuration}
use Rattle.meaning.specs.declared.Reply.{Reply}
use Rattle.meaning.specs.declared.Listed.{Listed}
use Rattle.meaning.specs.declared.Ran.{Ran}
use Rattle.meaning.specs.Card.{Bytes}
use Rattle.demands.specs.CallContracts.{Loads, Lists, Takes, Runs}

-- on all bytes and numbers: whatever meets the first engine's contract and whatever meets the plain engine's
pub record SameAnswers : Type 0 where
  pub load : (b : Bytes) (first plain : Reply) → Loads b first → Loads b plain → plain ≡ first
  pub list : (b : Bytes) (c : Configuration) (out : List ℕ) (first plain : Listed) (left left' : List ℕ)
      → Lists b c out first left → Lists b c out plain left' → (plain ≡ first) × (left' ≡ left)
  pub take : (b : Bytes) (c : Configuration) (choice : ℕ) (first plain : Reply)
      → Takes b c choice first → Takes b c choice plain → plain ≡ first
  pub run : (b : Bytes) (c : Configuration) (budget : ℕ) (first plain : Ran)
      → Runs b c budget first → Runs b c budget plain → plain ≡ first
