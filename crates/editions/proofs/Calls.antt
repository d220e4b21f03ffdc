-- Each call under a card of edition 1 answers as before.
use mathlib.Core.Path.{◌≡◌, refl, ap, ap₂, ◌∙◌}
use mathlib.Core.Bool.{true}
use mathlib.Core.Option.{Option, none, some}
use Prim.Native.Nat.{ℕ}
use native.Mathlib.Omega.{arith}
use Rattle.paper.specs.Transitions.{Choice}
use Rattle.runs.specs.Order.{State, enabled_codes}
use Rattle.runs.specs.Step.{Reached, nothing, full, to, step_by}
use Rattle.runs.specs.Run.{run}
use Rattle.runs.specs.Weight.{verdict}
use Rattle.std.specs.Prelude.{Ok, Err}
use Rattle.meaning.specs.Card.{Bytes, layout, agent, initial_plan}
use Rattle.meaning.specs.Configurations.{state_of, configuration_of}
use Rattle.meaning.specs.Place.{place}
use Rattle.meaning.specs.Refusals.{first_given, and_then, place_table, place_answer, configuration_good, configuration_answer}
use Rattle.meaning.specs.Why.{why_closed}
use Rattle.meaning.specs.Looking.{conditions_judged, goals_open}
use Rattle.meaning.specs.Calls.{reply, graded, writes, leaves, listed, list_leaves, choice, takes, ran, coming, saves, save_leaves}
use Rattle.meaning.proofs.Configurations.{good, configuration_laws}
use Rattle.meaning.proofs.Calls.{checks_good, loads_good, grades_good, lists_as, configuration_refused, configuration_good_lem, takes_nothing, takes_full, takes_to, runs_good, nexts_good, restores_good}
use Rattle.editions.specs.Edition1.{edition1_weight, edition1_agent, edition1_answer, edition1_place, edition1_place_answer}
use Rattle.editions.specs.Moves.{OfSixteen, widened_config, widened_state, widened_reached, SetsFit}
use Rattle.editions.specs.AsBefore.{CardAsBefore}
use Rattle.editions.specs.Calls.{handed, taken_reply, StateCalls, CallsAsBefore}
use Rattle.editions.proofs.Cards.{was_edition1}
use Rattle.editions.proofs.Reading.{card_as_before}
use Rattle.editions.proofs.Places.{place_as_before}
use Rattle.editions.proofs.Closed.{card_moves, closed_as_before}

why_same : (b : Bytes) (s : State) (o : Option Choice) → why_closed (layout b) b (widened_config s.mental) o ≡ why_closed (layout b) b s.mental o
why_same b s none = refl
why_same b s (some k) = closed_as_before (layout b) b s.mental k

module _ (b : Bytes) (d : edition1_answer b ≡ Ok tt) where
  before : CardAsBefore b
  before = card_as_before b d

  e1 : (layout b).edition ≡ 1
  unfolding layout
  e1 = was_edition1 b d

  module _ (s : State) (h : OfSixteen s) (g : configuration_good (layout b) (configuration_of s) ≡ true) where
    fit : SetsFit s.mental
    fit = let (l, r) = h in (omega arith, omega arith)

    now_good : configuration_answer b (handed s) ≡ Ok tt
    now_good = configuration_good_lem b (handed s) before.accepted ((place_as_before (layout b) e1).configurations s h ∙ g)

    -- what is handed in stands for the state
    stands : state_of (handed s) ≡ widened_state s
    unfolding configuration_of widened_state widened_config
    stands = configuration_laws.of_state (widened_state s) (good (layout b) (configuration_of s) g).fits

    codes : enabled_codes (agent b) (state_of (handed s)).mental ≡ enabled_codes (edition1_agent b) s.mental
    unfolding widened_state
    codes = ap₂ (λ A t. enabled_codes A t.mental) before.same_agent stands ∙ (card_moves b).listed s.mental fit

    looked : conditions_judged (agent b) (state_of (handed s)).mental ≡ conditions_judged (edition1_agent b) s.mental
    unfolding widened_state
    looked = ap₂ (λ A t. conditions_judged A t.mental) before.same_agent stands ∙ (card_moves b).judged s.mental

    goals : goals_open (state_of (handed s)).mental ≡ goals_open s.mental
    unfolding widened_state
    goals = ap (λ t. goals_open t.mental) stands ∙ (card_moves b).goals s.mental fit

    step_same : (o : Option Choice) → step_by (agent b) (state_of (handed s)) o ≡ widened_reached (step_by (edition1_agent b) s o)
    unfolding widened_reached
    step_same none = refl
    step_same (some k) = ap₂ (λ A t. step_by A t (some k)) before.same_agent stands ∙ (card_moves b).taken s k fit

    taken : (code : ℕ) → takes b (handed s) code ≡ taken_reply b s code (step_by (edition1_agent b) s (choice code))
    unfolding widened_reached widened_state
    taken code = go (step_by (edition1_agent b) s (choice code)) (step_same (choice code))
      where
        go : (r : Reached) → step_by (agent b) (state_of (handed s)) (choice code) ≡ widened_reached r → takes b (handed s) code ≡ taken_reply b s code r
        go nothing e = takes_nothing b (handed s) now_good code e ∙ ap (λ r. reply (Err r) (handed s)) (ap (λ t. why_closed (layout b) b t.mental (choice code)) stands ∙ why_same b s (choice code))
        go full e = takes_full b (handed s) now_good code e
        go (to k t) e = takes_to b (handed s) now_good code k (widened_state t) e

    saved : place (layout b) (state_of (handed s)) ≡ edition1_place s
    saved = ap (place (layout b)) stands ∙ (place_as_before (layout b) e1).saved s h

    state_calls : StateCalls b s
    unfolding list_leaves saves save_leaves
    state_calls = record {
      accepted = now_good;
      list = λ out. lists_as b (handed s) out ∙ (λ i. listed (writes b (handed s) (codes i) out) (looked i) (goals i));
      list_leaves_lem = λ out. ap (λ xs. leaves b (handed s) xs out) codes;
      take = taken;
      run = λ n. runs_good b (handed s) now_good n ∙ ap ran (ap₂ (λ A t. run A n t) before.same_agent stands ∙ (card_moves b).ran s n fit);
      next = nexts_good b (handed s) now_good ∙ ap (λ c. record { answer = Ok tt; coming = c; configuration = handed s }) (ap₂ coming before.same_agent stands ∙ (card_moves b).told s fit);
      save = λ out. ap (λ xs. writes b (handed s) xs out) saved;
      save_leaves_lem = λ out. ap (λ xs. leaves b (handed s) xs out) saved;
    }

  pub calls_as_before : CallsAsBefore b
  unfolding place_answer edition1_place_answer
  calls_as_before =
      let l = layout b in
      let c = before.accepted in
      record {
        check = checks_good b c;
        load = loads_good b c ∙ ap (λ s. reply (Ok tt) (configuration_of s)) before.same_start;
        grade = grades_good b c ∙ ap (graded (Ok tt)) (ap₂ (λ w A. verdict w A (initial_plan b)) (λ i a. before.weights a i) before.same_agent ∙ (card_moves b).graded (edition1_weight b) (initial_plan b));
        restore = λ p a. restores_good b p (ap (λ x. and_then x (first_given (place_table l) p)) c ∙ (place_as_before l e1).accepted p a) ∙ ap (λ s. reply (Ok tt) (configuration_of s)) ((place_as_before l e1).restored p);
        refused = λ s h g. configuration_refused b (handed s) c ((place_as_before l e1).configurations s h ∙ g);
        state = state_calls;
      }
