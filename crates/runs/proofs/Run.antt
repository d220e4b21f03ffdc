-- A run is the definition's own chain, its count the chain's length, and it ends for the reason that it gives.
use mathlib.Core.Path.{◌≡◌, refl, ap, ◌∙◌, sym, subst}
use mathlib.Core.Logic.{◌↔◌}
use mathlib.Core.List.{List, [], ◌∷◌}
use mathlib.Core.Option.{Option, none, some}
use Prim.Native.Nat.{ℕ, zero, suc, ◌+◌, ◌≤◌, ◌<◌}
use native.Mathlib.Nat.{zero-add}
use native.Mathlib.Omega.{arith}
use lib.ListN.{length}
use Rattle.paper.specs.Language.{Agent, Config}
use Rattle.paper.specs.Transitions.{Choice, Step}
use Rattle.runs.specs.declared.Ending.{Ending}
use Rattle.runs.specs.Order.{State, guide}
use Rattle.runs.specs.Step.{after, Reached, nothing, full, to, step_by}
use Rattle.runs.specs.Run.{Outcome, ended, one_more, run}
use Rattle.runs.specs.Theorems.{AtRest, Guided, ends, goes, Because, is_spent, is_rest, is_full, RunLaw, counted, StopLaw}
use Rattle.runs.proofs.Order.{guide_takes, rests}
use Rattle.runs.proofs.Step.{StepsTo, none_there, too_long, taken, steps_to}
use Rattle.runs.proofs.Finished.{guided_chain, guided_finished}

-- ---- a run's three ways to go on, as equations

module _ (A : Agent) (b : ℕ) (s : State) where
  pub run_rests : step_by A s (guide A s) ≡ nothing → run A (suc b) s ≡ ended Ending.Rest s
  unfolding run
  run_rests e = rw (e, run)

  pub run_is_full : step_by A s (guide A s) ≡ full → run A (suc b) s ≡ ended Ending.Full s
  unfolding run
  run_is_full e = rw (e, run)

  pub run_goes_on : (k : Choice) (s' : State) → step_by A s (guide A s) ≡ to k s' → run A (suc b) s ≡ one_more (run A b s')
  unfolding run
  run_goes_on k s' e = rw (e, run)

-- ---- what the guide's own step comes to

module _ (A : Agent) (s : State) where
  pub data OwnStep : Reached → Type 0 where
    own_rest : AtRest A s.mental → OwnStep nothing
    own_full : (k : Choice) (c : Config) → guide A s ≡ some k → Step A s.mental k c → 1024 < length c.π → OwnStep full
    own_to : (k : Choice) (c : Config) → guide A s ≡ some k → Step A s.mental k c → length c.π ≤ 1024 → OwnStep (to k (after s k c))

  pub own_step : OwnStep (step_by A s (guide A s))
  own_step = go (guide A s) refl
    where
      by : (k : Choice) → guide A s ≡ some k → {o : Reached} → StepsTo A s k o → OwnStep o
      by k e (none_there n) = let (c, x) = (guide_takes A s k e).leads in absurd (n c x)
      by k e (too_long c x l) = own_full k c e x l
      by k e (taken c x l) = own_to k c e x l

      go : (o : Option Choice) → guide A s ≡ o → OwnStep (step_by A s (guide A s))
      go none e = rw e (own_rest ((rests A s).0 e))
      go (some k) e = subst (λ o. OwnStep (step_by A s o)) (sym e) (by k e (steps_to A s k))

-- ---- rest exactly when no transition exists

rest_exactly : {A : Agent} {b n : ℕ} {s : State} {e : Ending} → Because A b n s e → n < b → (e ≡ Ending.Rest) ↔ AtRest A s.mental
rest_exactly (is_spent p) h = absurd (omega arith)
rest_exactly (is_rest p r) h = (λ e. r, λ x. refl)
rest_exactly (is_full p k c g x l) h = (λ e. absurd (let z : ◌≡◌ {A = ℕ} 0 1 = cc in omega arith), λ r. absurd (r k c x))

-- ---- the run

record Walked (A : Agent) (b : ℕ) (s : State) (o : Outcome) : Type 0 where
  choices : List Choice
  guided : Guided A s choices o.state
  counted : o.count ≡ length choices
  because : Because A b o.count o.state o.ending

one_later : {A : Agent} {b n : ℕ} {s : State} {e : Ending} → Because A b n s e → Because A (suc b) (suc n) s e
one_later (is_spent p) = is_spent (ap suc p)
one_later (is_rest p r) = is_rest (omega arith) r
one_later (is_full p k c g x l) = is_full (omega arith) k c g x l

walked : (A : Agent) (b : ℕ) (s : State) → Walked A b s (run A b s)
unfolding run
walked A zero s = record { choices = []; guided = ends; counted = refl; because = is_spent refl }
walked A (suc b) s = go refl (own_step A s) (walked A b)
  where
    stopped : (e : Ending) → Because A (suc b) 0 s e → run A (suc b) s ≡ ended e s → Walked A (suc b) s (run A (suc b) s)
    stopped e w q = rw q (record { choices = []; guided = ends; counted = refl; because = w })

    go : {o : Reached} → step_by A s (guide A s) ≡ o → OwnStep A s o → ((s' : State) → Walked A b s' (run A b s')) → Walked A (suc b) s (run A (suc b) s)
    go e (own_rest r) ih = stopped Ending.Rest (is_rest (omega arith) r) (run_rests A b s e)
    go e (own_full k c g x l) ih = stopped Ending.Full (is_full (omega arith) k c g x l) (run_is_full A b s e)
    go e (own_to k c g x l) ih =
        let r = ih (after s k c) in
        rw (run_goes_on A b s k (after s k c) e)
        (record {
          choices = k ∷ r.choices;
          guided = goes g x l r.guided;
          counted = ap suc r.counted;
          because = one_later r.because;
        })

pub run_law : RunLaw
run_law A b s =
    let t = walked A b s in
    record {
      choices = t.choices;
      chain = guided_chain t.guided;
      guided = t.guided;
      counted = t.counted;
      because = t.because;
      rests_exactly = rest_exactly t.because;
      finished = guided_finished t.guided;
    }

-- ---- a run that is stopped goes on

from_zero : (o : Outcome) → o ≡ counted 0 o
from_zero o = λ i. record { state = o.state; count = sym (zero-add o.count) i; ending = o.ending }

one_more_lem : (n : ℕ) (o : Outcome) → one_more (counted n o) ≡ counted (suc n) o
one_more_lem n o = let e : suc (n + o.count) ≡ suc n + o.count = omega arith in λ i. record { state = o.state; count = e i; ending = o.ending }

pub stop_law : StopLaw
unfolding run
stop_law A zero k s h = ap (λ n. run A n s) (zero-add k) ∙ from_zero (run A k s)
stop_law A (suc j) zero s h = absurd (omega arith)
stop_law A (suc j) (suc k) s h = go refl (own_step A s) (stop_law A j (suc k))
  where
    both_budgets : suc j + suc k ≡ suc (j + suc k)
    both_budgets = omega arith

    -- where the first run ends by itself, the second ends so too
    stopped : (e : Ending) → ((b : ℕ) → run A (suc b) s ≡ ended e s) → run A (suc j + suc k) s ≡ counted (run A (suc j) s).count (run A (suc k) (run A (suc j) s).state)
    stopped e w =
        ap (λ n. run A n s) both_budgets ∙ w (j + suc k) ∙ from_zero (ended e s)
        ∙ sym (ap (λ o. counted o.count (run A (suc k) o.state)) (w j) ∙ ap (counted 0) (w k))

    go : {o : Reached} → step_by A s (guide A s) ≡ o → OwnStep A s o → ((s' : State) → 1 ≤ suc k → run A (j + suc k) s' ≡ counted (run A j s').count (run A (suc k) (run A j s').state))
        → run A (suc j + suc k) s ≡ counted (run A (suc j) s).count (run A (suc k) (run A (suc j) s).state)
    go e (own_rest r) ih = stopped Ending.Rest (λ b. run_rests A b s e)
    go e (own_full c x g y l) ih = stopped Ending.Full (λ b. run_is_full A b s e)
    go e (own_to c x g y l) ih =
        let s' = after s c x in
        ap (λ n. run A n s) both_budgets ∙ run_goes_on A (j + suc k) s c s' e ∙ ap one_more (ih s' (omega arith)) ∙ one_more_lem (run A j s').count (run A (suc k) (run A j s').state)
        ∙ sym (ap (λ o. counted o.count (run A (suc k) o.state)) (run_goes_on A j s c s' e))
