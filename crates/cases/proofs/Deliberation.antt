-- The cases of deliberation on the stripe card, by computation: its DeliberationCases.
use mathlib.Core.Path.{refl}
use mathlib.Core.List.{flatten}
use Rattle.meaning.specs.Assembled.{assembled}
use Rattle.meaning.specs.Stripe.{card_set, set, specification, selection, revision, stripe_with, stripe}
use Rattle.meaning.specs.Cases.{loaded}
use Rattle.meaning.proofs.Computing.{computing}
use Rattle.deliberation.specs.Programs.{𝒲}
use Rattle.deliberation.specs.FirstMove.{lowest_action, if_enabled}
use Rattle.deliberation.specs.Entries.{entry_of, entries_of, program_good, program_table, numbers_table, go_on_answer, first_move_of}
use Rattle.deliberation.specs.Deliberate.{leads, deliberate, remaining_of, goes_on, deliberation_ending_number}
use Rattle.deliberation.specs.Cases.{entry, in_numbers, teaching, two_actions, two_actions_again, doubling, nested, lent, on_from, with_plan, long, wrong, DeliberationCases}

pub cases : DeliberationCases
unfolding computing flatten assembled card_set set specification selection revision stripe_with stripe loaded 𝒲 lowest_action if_enabled entry_of entries_of program_good program_table numbers_table go_on_answer first_move_of leads deliberate remaining_of goes_on deliberation_ending_number entry in_numbers teaching two_actions two_actions_again doubling nested lent on_from with_plan long wrong
cases =
    record {
      finished = refl;
      finished_at_lem = refl;
      spent_first = refl;
      no_budget = refl;
      left_done = refl;
      right_one_number = refl;
      body_one_number = refl;
      idle_counted = refl;
      idle_leaves = refl;
      stuck = refl;
      right_taken = refl;
      idle_left = refl;
      full_left = refl;
      belief_while = refl;
      shared = refl;
      no_entry = refl;
      byte_more = refl;
      too_many = refl;
      no_kind = refl;
      unused_byte = refl;
      own_part = refl;
      no_rule = refl;
      goal_condition = refl;
      before_13 = refl;
      then_13 = refl;
      gone_on = refl;
      from_wrong_end = refl;
      all_remain = refl;
      all_gone_on = refl;
      all_from_wrong_end = refl;
      none_remain = refl;
      none_no_budget = refl;
      just_known = refl;
      one_behind = refl;
      not_known_behind = refl;
      not_known = refl;
      numbers_before_13 = refl;
      lent_left = refl;
      lent_left_by_program = refl;
      lent_written = refl;
    }
