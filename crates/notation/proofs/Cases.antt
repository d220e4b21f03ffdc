-- The cases of reading and printing, computed.
use mathlib.Core.Path.{◌≡◌, refl}
use mathlib.Core.List.{flatten}
use mathlib.Core.Option.{some}
use Prim.Native.Nat.{ℕ}
use Rattle.meaning.specs.Answers.{Answer}
use Rattle.meaning.specs.Card.{Bytes}
use Rattle.meaning.specs.Assembled.{assembled}
use Rattle.meaning.specs.Stripe.{card_set, set, specification, selection, revision}
use Rattle.meaning.specs.Numbers.{ending_number}
use Rattle.meaning.specs.Cases.{shown, shown_run}
use Rattle.meaning.proofs.Computing as Meaning
use Rattle.notation.specs.Reading.{Reads}
use Rattle.notation.specs.Cases.{stripe_text, stripe_of_text, TextCases}
use Rattle.notation.proofs.Computing.{computing, text_answered, text_answered_lem}

-- what is computed is what reading answers
computed : (t out : Bytes) (a : Answer) (n : ℕ) (left : Bytes)
    → text_answered t out ≡ some (record { answer = a; count = n; leaves = left }) → Reads t out a n left
computed t out a n left e = text_answered_lem t out (record { answer = a; count = n; leaves = left }) e

pub text_cases : TextCases
unfolding computing Meaning.computing flatten assembled card_set set specification selection revision ending_number shown shown_run stripe_text stripe_of_text text_answered
text_cases = record {
  stripe_read = computed _ _ _ _ _ refl;
  stripe_runs = refl;
  stripe_no_room = computed _ _ _ _ _ refl;
  nothing = computed _ _ _ _ _ refl;
  just_ends = computed _ _ _ _ _ refl;
  capital = computed _ _ _ _ _ refl;
  behind_33_brackets = computed _ _ _ _ _ refl;
  nested_32 = computed _ _ _ _ _ refl;
  nested_33 = computed _ _ _ _ _ refl;
  atom_256 = computed _ _ _ _ _ refl;
  atom_1 = computed _ _ _ _ _ refl;
}
