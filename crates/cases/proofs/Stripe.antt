-- The cases of the guide on the stripe card, by computation: meaning's PCases, ClosedCases, FinishedCases and NextCases.
use mathlib.Core.Path.{refl}
use mathlib.Core.List.{flatten}
use Rattle.meaning.specs.Assembled.{assembled}
use Rattle.meaning.specs.Stripe.{card_set, set, specification, selection, revision, stripe_with, stripe, stripe_P4, stripe_P5, stripe_P9, stripe_P10, stripe_P13, stripe_two}
use Rattle.meaning.specs.Numbers.{checked_number, ending_number, coming_number, coming_choice, verdict_number, verdict_offender, verdict_rule, offender_number, offender_rule}
use Rattle.meaning.specs.Cases.{shown, shown_check, shown_reply, shown_take, shown_grade, shown_written, shown_listed, shown_run, configuration, loaded, after_steps, guide_code, step_line, taken_in_turn, place_p7, resting, PCases, stripe_bobbin, ClosedCases, having_finished, shown_finished, FinishedCases, shown_next, NextCases}
use Rattle.meaning.proofs.Computing.{computing}

pub P_cases : PCases
unfolding computing checked_number flatten assembled card_set set specification selection revision stripe_with stripe stripe_P4 stripe_P5 stripe_P9 stripe_P10 stripe_P13 ending_number verdict_number verdict_offender verdict_rule offender_number offender_rule shown shown_check shown_reply shown_take shown_grade shown_written shown_listed shown_run configuration loaded after_steps guide_code step_line taken_in_turn place_p7 resting
P_cases =
    record {
      accepted = refl;
      first_steps = refl;
      last_steps = refl;
      six_chosen = refl;
      P1 = refl;
      P2_six = refl;
      P2_seven = refl;
      P3 = refl;
      P4 = refl;
      P5 = refl;
      P6 = refl;
      P7 = refl;
      P7_restored = refl;
      P8 = refl;
      P9 = refl;
      P10 = refl;
      P11_full = refl;
      P11_taken = refl;
      P12_start = refl;
      P12_no_room = refl;
      P12_rest = refl;
      P12_rest_no_room = refl;
      P13 = refl;
    }

pub closed_cases : ClosedCases
unfolding computing flatten assembled card_set set specification selection revision stripe_with stripe stripe_bobbin shown shown_take configuration
closed_cases = record {
  missing = refl;
  in_the_way = refl;
  front = refl;
  empty_plan = refl;
  not_empty = refl;
  other_head = refl;
  no_goal = refl;
  both_false = refl;
  goal_false = refl;
  belief_false = refl;
  no_selection = refl;
  no_revision = refl;
  no_specification = refl;
  no_kind = refl;
}

pub finished_cases : FinishedCases
unfolding computing flatten assembled card_set set specification selection revision stripe_with stripe stripe_P9 shown shown_finished configuration loaded after_steps taken_in_turn place_p7 having_finished
finished_cases = record {
  at_load = refl;
  five_steps = refl;
  six_steps = refl;
  six_taken = refl;
  empty_body = refl;
  stops = refl;
  in_place = refl;
  kept = refl;
  old_place = refl;
}

pub next_cases : NextCases
unfolding computing flatten assembled card_set set specification selection revision stripe_with stripe stripe_two coming_number coming_choice shown shown_next configuration loaded after_steps resting
next_cases = record {
  at_the_start = refl;
  after_three = refl;
  own_order = refl;
  other_phase = refl;
  at_rest = refl;
  too_long = refl;
  refused = refl;
}
