-- The cases of how much the list looks at, by computation: meaning's LookingCases.
use mathlib.Core.Path.{refl}
use mathlib.Core.List.{flatten}
use Rattle.meaning.specs.Assembled.{assembled}
use Rattle.meaning.specs.Stripe.{card_set, set, specification, selection, revision, stripe_with, stripe}
use Rattle.meaning.specs.Cases.{shown_listed, configuration, loaded, after_steps}
use Rattle.meaning.specs.LookingCases.{most_selecting, most_acting, LookingCases}
use Rattle.meaning.proofs.Computing.{computing}

pub looking_cases : LookingCases
unfolding computing flatten assembled card_set set specification selection revision stripe_with stripe shown_listed configuration loaded after_steps most_selecting most_acting
looking_cases = record {
  selecting = refl;
  acting = refl;
  none_selecting = refl;
  after_one = refl;
  after_two = refl;
  after_three = refl;
  believed_too = refl;
  refused = refl;
}
