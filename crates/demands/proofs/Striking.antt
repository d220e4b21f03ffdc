-- Goals are struck by the beliefs, over the calls' contracts.
use mathlib.Core.Path.{◌≡◌, refl, ◌∙◌, sym, subst}
use mathlib.Core.Logic.{◌↔◌}
use mathlib.Core.Bool.{Bool, true, false, not, ◌&&◌}
use mathlib.Core.List.{List}
use mathlib.Core.Option.{some}
use Prim.Native.Nat.{ℕ}
use Rattle.paper.specs.Language.{Agent, Config}
use Rattle.paper.specs.Transitions.{Choice, act, σ', Step, execute}
use Rattle.paper.specs.Atoms.{◌∈◌}
use Rattle.paper.proofs.Relation.{some_inj, false≢true}
use Rattle.paper.proofs.Sets.{none_in, ∈-∖, ∈-γ'}
use Rattle.runs.specs.Step.{after}
use Rattle.runs.specs.Run.{stay, ◌then◌}
use Rattle.runs.proofs.Run.{run_law}
use Rattle.runs.proofs.Goals.{goal_law}
use Rattle.std.specs.Prelude.{Ok}
use Rattle.meaning.specs.declared.Configuration.{Configuration}
use Rattle.meaning.specs.declared.Reply.{Reply}
use Rattle.meaning.specs.declared.Graded.{Graded}
use Rattle.meaning.specs.declared.Written.{Written}
use Rattle.meaning.specs.declared.Ran.{Ran}
use Rattle.meaning.specs.Sizes.{edition2_set}
use Rattle.meaning.specs.Card.{Bytes, layout, agent, initial_beliefs, initial_goals, start}
use Rattle.meaning.specs.Configurations.{state_of, configuration_of, empty}
use Rattle.meaning.specs.Place.{placed}
use Rattle.meaning.specs.Refusals.{card_answer, place_answer}
use Rattle.meaning.specs.Calls.{choice}
use Rattle.meaning.proofs.Tables.{done≢refused}
use Rattle.meaning.proofs.Calls.{written_of}
use Rattle.demands.specs.Demands.{Transition}
use Rattle.demands.specs.Struck.{Unbelieved, Struck}
use Rattle.demands.proofs.Codes.{chosen}
use Rattle.demands.proofs.Ways.{Replying, Grading, Writing, Taking, Running, refused, is_closed, plan_full, no_room, done, loading, restoring, grading, listing, saving, taking, running}

-- a goal that is not believed, and back
kept_goal : (g u : Bool) → (g && not u ≡ true) ↔ ((g ≡ true) × (u ≡ false))
kept_goal true true = (λ e. absurd (false≢true e), λ (p, q). absurd (false≢true (sym q)))
kept_goal true false = (λ e. (refl, refl), λ e. refl)
kept_goal false u = (λ e. absurd (false≢true e), λ (p, q). absurd (false≢true p))

-- the goals that an action leaves
action_goals : {A : Agent} {c c' : Config} {n : ℕ} → Step A c (act n) c' → (k : ℕ) → (k ∈ c'.γ ≡ true) ↔ ((k ∈ c.γ ≡ true) × (k ∈ c'.σ ≡ false))
action_goals (execute {σ = σ} {γ = γ} {s = s} e p) k = rw (∈-γ' k σ γ s) (kept_goal (k ∈ γ) (k ∈ σ' σ s))

module _ (b : Bytes) where
  loaded : (r : Reply) → Replying (card_answer b) (start b) r → r.answer ≡ Ok tt
      → (r.configuration.mind.beliefs ≡ initial_beliefs (layout b) b) × ((k : ℕ) → (k ∈ r.configuration.mind.goals ≡ true)
      ↔ ((k ∈ initial_goals (layout b) b ≡ true) × (k ∈ r.configuration.mind.beliefs ≡ false)))
  unfolding configuration_of start
  loaded r (done e) h =
      let σ = initial_beliefs (layout b) b in
      let γ = initial_goals (layout b) b in
      (refl, λ k. rw (∈-∖ k γ σ) (kept_goal (k ∈ γ) (k ∈ σ)))
  loaded r (refused e) h = absurd (done≢refused (sym h))

  graded : (r : Graded) → Grading b r → Unbelieved r.configuration
  unfolding empty state_of configuration_of
  graded r (done e) k h = none_in edition2_set k
  graded r (refused e) k h = none_in edition2_set k

  wrote : (c : Configuration) (xs out left : List ℕ) (r : Written) → Writing b c xs out r left → Unbelieved c → Unbelieved r.configuration
  wrote c xs out left r (refused e) u = u
  wrote c xs out left r (no_room e l) u = u
  wrote c xs out left r (done e l) u = u

  restored : (p : Bytes) (r : Reply) → Replying (place_answer b p) (placed (layout b) p) r → r.answer ≡ Ok tt → r.configuration.mind.goals ≡ (placed (layout b) p).mental.γ
  unfolding configuration_of placed
  restored p r (done e) h = refl
  restored p r (refused e) h = absurd (done≢refused (sym h))

  acted : (c : Configuration) (n i : ℕ) → choice n ≡ some (act i) → (r : Reply) → Taking b c n r → r.answer ≡ Ok tt
      → (k : ℕ) → (k ∈ r.configuration.mind.goals ≡ true) ↔ ((k ∈ c.mind.goals ≡ true) × (k ∈ r.configuration.mind.beliefs ≡ false))
  unfolding state_of configuration_of after
  acted c n i q r (refused e) h = absurd (done≢refused (sym h))
  acted c n i q r (is_closed on e w x) h = absurd (done≢refused (sym h))
  acted c n i q r (plan_full on k c' m l) h = absurd (done≢refused (sym h))
  acted c n i q r (done on k c' m l) h =
      let e : k ≡ act i = some_inj (sym (chosen b c on m) ∙ q) in
      action_goals (subst (λ (x : Choice). Transition b c x c') e m.transition)

  took : (c : Configuration) (n : ℕ) (r : Reply) → Taking b c n r → Unbelieved c → Unbelieved r.configuration
  unfolding state_of configuration_of after
  took c n r (refused e) u = u
  took c n r (is_closed on e w x) u = u
  took c n r (plan_full on k c' m l) u = u
  took c n r (done on k c' m l) u = (goal_law (agent b)).stays_so (◌then◌ m.transition stay) u

  ran_on : (c : Configuration) (budget : ℕ) (r : Ran) → Running b c budget r → Unbelieved c → Unbelieved r.configuration
  unfolding state_of configuration_of
  ran_on c budget r (refused e) u = u
  ran_on c budget r (done on) u = (goal_law (agent b)).stays_so (run_law (agent b) budget (state_of c)).chain u

pub struck : Struck
struck = record {
  load = λ b r w. loaded b r (loading b r w);
  grade = λ b r w. graded b r (grading b r w);
  action = λ b c n i q r w. acted b c n i q r (taking b c n r w);
  list = λ b c out left r w. wrote b c _ out left (written_of r) (listing b c out left r w);
  take = λ b c n r w. took b c n r (taking b c n r w);
  run = λ b c budget r w. ran_on b c budget r (running b c budget r w);
  save = λ b c out left r w. wrote b c _ out left r (saving b c out left r w);
  restore = λ b p r w. restored b p r (restoring b p r w);
}
