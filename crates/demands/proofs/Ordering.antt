-- Demand 2: a run is the guide's own, in its order, and rests exactly when no transition exists.
use mathlib.Core.Path.{◌≡◌, refl, ◌∙◌, sym}
use mathlib.Core.Logic.{◌↔◌}
use mathlib.Core.Bool.{true}
use mathlib.Core.List.{List}
use Prim.Native.Nat.{ℕ, ◌≤◌, ◌<◌}
use native.Mathlib.Omega.{arith}
use lib.ListN.{length, length-take}
use borrow.Author.Tests.{not-false}
use Rattle.paper.specs.Language.{Agent}
use Rattle.paper.specs.Transitions.{Choice}
use Rattle.runs.specs.declared.Ending.{Ending}
use Rattle.runs.specs.Order.{State}
use Rattle.runs.specs.Step.{after}
use Rattle.runs.specs.Run.{Outcome, run}
use Rattle.runs.specs.Theorems.{AtRest, Guided, ends, goes}
use Rattle.runs.specs.Theorems as Runs
use Rattle.runs.proofs.Run.{run_law}
use Rattle.std.specs.Prelude.{Ok}
use Rattle.meaning.specs.declared.Configuration.{Configuration}
use Rattle.meaning.specs.declared.Ran.{Ran}
use Rattle.meaning.specs.Card.{Bytes, layout, agent}
use Rattle.meaning.specs.Configurations.{state_of, configuration_of}
use Rattle.meaning.specs.Refusals.{first_given, card_answer, configuration_good, configuration_table, configuration_answer}
use Rattle.meaning.proofs.Tables.{done≢refused, and_then_done, passes}
use Rattle.meaning.proofs.Configurations.{good}
use Rattle.demands.specs.Demands.{OnAccepted, Tells}
use Rattle.demands.proofs.Choosing.{reached}
use Rattle.demands.proofs.Ways.{Running, refused, done}

-- ---- a plan that fits

pub passed_good : (b : Bytes) (c : Configuration) → OnAccepted b c → configuration_good (layout b) c ≡ true
unfolding configuration_answer configuration_table
passed_good b c e =
    let t : first_given (configuration_table (layout b)) c ≡ Ok tt = (and_then_done (card_answer b) (first_given (configuration_table (layout b)) c) e).1 in
    not-false _ (passes _ _ c t).0

pub plan_fits : (b : Bytes) (c : Configuration) → OnAccepted b c → length (state_of c).mental.π ≤ 1024
unfolding state_of
plan_fits b c e =
    let g : c.mind.length ≤ 1024 = (good (layout b) c (passed_good b c e)).fits in
    rw (length-take c.mind.length c.plan) (omega arith)

-- what the guide reaches from a plan that fits has one that fits
guided_fits : {A : Agent} {s s' : State} {ks : List Choice} → Guided A s ks s' → length s.mental.π ≤ 1024 → length s'.mental.π ≤ 1024
unfolding after
guided_fits ends h = h
guided_fits (goes e x f r) h = guided_fits r f

-- ---- the run

module _ (b : Bytes) (c : Configuration) (on : OnAccepted b c) (budget : ℕ) where
  run_fits : length (run (agent b) budget (state_of c)).state.mental.π ≤ 1024
  run_fits = guided_fits (run_law (agent b) budget (state_of c)).guided (plan_fits b c on)

  pub own_order : (r : Ran) → Running b c budget r → (o : Outcome) × (Runs.Traced (agent b) budget (state_of c) o × Tells r o)
  own_order r (refused h) = absurd (done≢refused (sym on ∙ h))
  own_order r (done h) =
      let o = run (agent b) budget (state_of c) in
      (o, (run_law (agent b) budget (state_of c), record { done = refl; reached = reached o.state run_fits; count = refl; ending = refl }))

  pub rest_exactly : (r : Ran) → Running b c budget r → r.count < budget → (r.ending ≡ Ending.Rest) ↔ AtRest (agent b) (state_of r.configuration).mental
  rest_exactly r (refused h) l = absurd (done≢refused (sym on ∙ h))
  rest_exactly r (done h) l =
      let o = run (agent b) budget (state_of c) in
      let e : state_of (configuration_of o.state) ≡ o.state = (reached o.state run_fits).stands_for in
      rw e ((run_law (agent b) budget (state_of c)).rests_exactly l)
