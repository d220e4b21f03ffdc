-- The cases of the two calls for bounded cards, by computation.
use mathlib.Core.Path.{refl}
use mathlib.Core.List.{flatten}
use Rattle.meaning.specs.Assembled.{assembled}
use Rattle.meaning.specs.BoundedCalls.{bounded_good, bounded_table, bounded_answer, bounded_takes, bounded_runs}
use Rattle.meaning.specs.Stripe.{card_set, set, specification, selection, revision, stripe_with, stripe, stripe_P10}
use Rattle.meaning.specs.Numbers.{ending_number}
use Rattle.meaning.specs.Cases.{shown, shown_take, shown_run, configuration, loaded, after_steps, resting}
use Rattle.meaning.proofs.Computing.{computing}
use Rattle.cases.specs.BoundedCases.{BoundedCases}

pub bounded_cases : BoundedCases
unfolding computing flatten assembled card_set set specification selection revision stripe_with stripe stripe_P10 ending_number shown shown_take shown_run configuration loaded after_steps resting bounded_good bounded_table bounded_answer bounded_takes bounded_runs
bounded_cases = record {
  six_steps = refl;
  selected = refl;
  just_light = refl;
  too_heavy = refl;
  too_heavy_to_run = refl;
  open_card = refl;
  configuration_first = refl;
  closed = refl;
}
