-- The cases of edition 2, computed.
use mathlib.Core.Path.{refl}
use mathlib.Core.List.{flatten}
use Rattle.meaning.specs.Assembled.{assembled}
use Rattle.meaning.specs.Stripe.{card_set, set, specification, selection, revision, stripe_with, stripe}
use Rattle.meaning.specs.Numbers.{checked_number, ending_number, verdict_number, verdict_offender, verdict_rule, offender_number, offender_rule}
use Rattle.meaning.specs.Cases.{shown, shown_check, shown_reply, shown_grade, shown_written, shown_run, configuration, place_p7}
use Rattle.meaning.proofs.Computing.{computing}
use Rattle.editions.specs.Cases.{wide_set, wide_specification, jacquard, jacquard_after, jacquard_place, shown_first, restored_first, mis_marked, with_atoms, believing128, Edition2Cases}

pub edition2_cases : Edition2Cases
unfolding computing flatten assembled card_set set specification selection revision stripe_with stripe checked_number ending_number verdict_number verdict_offender verdict_rule offender_number offender_rule shown shown_check shown_reply shown_grade shown_written shown_run configuration place_p7 wide_set wide_specification jacquard jacquard_after jacquard_place shown_first restored_first mis_marked with_atoms believing128
edition2_cases =
    record {
      accepted = refl;
      atoms_256 = refl;
      atoms_257 = refl;
      atoms_199 = refl;
      edition1_128 = refl;
      edition1_129 = refl;
      six_steps = refl;
      saved = refl;
      restored = refl;
      place_of_1 = refl;
      place_of_2 = refl;
      place_said_1 = refl;
      short_2 = refl;
      short_1 = refl;
      wrong_mark = refl;
      edition_3 = refl;
      short_place = refl;
      wrong_place = refl;
      unknown_atom = refl;
      unknown_to_128 = refl;
      known_atom = refl;
    }
