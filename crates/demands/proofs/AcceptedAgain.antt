-- What a done call answers is accepted again.
use mathlib.Core.Path.{◌≡◌, sym}
use mathlib.Core.List.{List}
use Prim.Native.Nat.{ℕ}
use Rattle.runs.specs.Order.{State}
use Rattle.runs.specs.Step.{after}
use Rattle.runs.specs.Run.{run}
use Rattle.runs.proofs.Run.{run_law}
use Rattle.std.specs.Prelude.{Ok}
use Rattle.meaning.specs.declared.Configuration.{Configuration}
use Rattle.meaning.specs.declared.Reply.{Reply}
use Rattle.meaning.specs.declared.Graded.{Graded}
use Rattle.meaning.specs.declared.Written.{Written}
use Rattle.meaning.specs.declared.Ran.{Ran}
use Rattle.meaning.specs.Card.{Bytes, layout, agent, start}
use Rattle.meaning.specs.Configurations.{state_of, configuration_of, empty}
use Rattle.meaning.specs.Place.{placed}
use Rattle.meaning.specs.Refusals.{card_answer, place_answer}
use Rattle.meaning.proofs.Tables.{done≢refused}
use Rattle.meaning.proofs.Calls.{configuration_good_lem, written_of}
use Rattle.meaning.proofs.Places.{good_place}
use Rattle.demands.specs.Demands.{OnAccepted}
use Rattle.demands.specs.AcceptedAgain.{AcceptedAgain}
use Rattle.demands.proofs.Known.{Known, known_good, known_empty, known_agent, known_start, known_after, known_guided, known_of}
use Rattle.demands.proofs.Codes.{card_accepted}
use Rattle.demands.proofs.Ordering.{passed_good}
use Rattle.demands.proofs.Restoring.{restored_good, restored_known}
use Rattle.demands.proofs.Ways.{Replying, Grading, Writing, Taking, Running, refused, is_closed, plan_full, no_room, done, loading, restoring, grading, listing, saving, taking, running}

module _ (b : Bytes) where
  pub accepted_again : card_answer b ≡ Ok tt → (s : State) → Known (layout b) s → OnAccepted b (configuration_of s)
  accepted_again card s k = configuration_good_lem b (configuration_of s) card (known_good (layout b) s k)

  pub handed_in : (c : Configuration) → OnAccepted b c → Known (layout b) (state_of c)
  handed_in c on = known_of (layout b) c (passed_good b c on)

  loaded : (r : Reply) → Replying (card_answer b) (start b) r → r.answer ≡ Ok tt → OnAccepted b r.configuration
  loaded r (done e) h = accepted_again e (start b) (known_start b e)
  loaded r (refused e) h = absurd (done≢refused (sym h))

  graded : (r : Graded) → Grading b r → r.answer ≡ Ok tt → OnAccepted b r.configuration
  unfolding empty
  graded r (done e) h = accepted_again e _ (known_empty (layout b))
  graded r (refused e) h = absurd (done≢refused (sym h))

  wrote : (c : Configuration) (xs out left : List ℕ) (r : Written) → Writing b c xs out r left → r.answer ≡ Ok tt → OnAccepted b r.configuration
  wrote c xs out left r (refused e) h = absurd (done≢refused (sym h))
  wrote c xs out left r (no_room e l) h = absurd (done≢refused (sym h))
  wrote c xs out left r (done e l) h = e

  restored : (p : Bytes) (r : Reply) → Replying (place_answer b p) (placed (layout b) p) r → r.answer ≡ Ok tt → OnAccepted b r.configuration
  restored p r (done e) h =
      let (card, table) = restored_good b p e in
      accepted_again card (placed (layout b) p) (restored_known (layout b) p (good_place (layout b) p table))
  restored p r (refused e) h = absurd (done≢refused (sym h))

  took : (c : Configuration) (n : ℕ) (r : Reply) → Taking b c n r → r.answer ≡ Ok tt → OnAccepted b r.configuration
  took c n r (refused e) h = absurd (done≢refused (sym h))
  took c n r (is_closed on e w x) h = absurd (done≢refused (sym h))
  took c n r (plan_full on k c' m l) h = absurd (done≢refused (sym h))
  took c n r (done on k c' m l) h =
      let card = card_accepted b c on in
      accepted_again card (after (state_of c) k c') (known_after (known_agent b card) (state_of c) (handed_in c on) m.transition l)

  ran_on : (c : Configuration) (budget : ℕ) (r : Ran) → Running b c budget r → r.answer ≡ Ok tt → OnAccepted b r.configuration
  ran_on c budget r (refused e) h = absurd (done≢refused (sym h))
  ran_on c budget r (done on) h =
      let card = card_accepted b c on in
      accepted_again card (run (agent b) budget (state_of c)).state (known_guided (known_agent b card) (run_law (agent b) budget (state_of c)).guided (handed_in c on))

pub again : AcceptedAgain
again = record {
  load = λ b r w. loaded b r (loading b r w);
  grade = λ b r w. graded b r (grading b r w);
  list = λ b c out left r w. wrote b c _ out left (written_of r) (listing b c out left r w);
  take = λ b c n r w. took b c n r (taking b c n r w);
  run = λ b c budget r w. ran_on b c budget r (running b c budget r w);
  save = λ b c out left r w. wrote b c _ out left r (saving b c out left r w);
  restore = λ b p r w. restored b p r (restoring b p r w);
}
