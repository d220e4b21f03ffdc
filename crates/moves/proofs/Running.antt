-- The guide's own choice and move, and a run of them, over plain values.
use mathlib.Core.Path.{◌≡◌, refl, ap, ap₂, ◌∙◌, sym, subst}
use mathlib.Core.Bool.{false}
use mathlib.Core.List.{List}
use Prim.Native.Nat.{ℕ, suc, ◌+◌, ◌-◌, ◌%◌, ◌≤◌, ◌<◌}
use native.Mathlib.Nat.{mod-lt}
use native.Mathlib.Omega.{arith}
use lib.ListN.{length, take, get_or}
use lib.Seq.{length-take-le}
use Rattle.paper.specs.Language.{Agent, Config}
use Rattle.paper.specs.Transitions.{Choice, Step, execute, apply_PS, apply_PR}
use Rattle.paper.proofs.Relation.{enabled_exactly}
use Rattle.runs.specs.declared.Ending.{Ending}
use Rattle.runs.specs.declared.Kind.{Kind}
use Rattle.runs.specs.Order.{State, kind, guide}
use Rattle.runs.specs.Step.{after, Reached, nothing, full, to, step, step_by}
use Rattle.runs.specs.Run.{ended, one_more, run}
use Rattle.runs.specs.Theorems.{counted}
use Rattle.runs.proofs.Order.{guide_takes}
use Rattle.runs.proofs.Run.{run_rests, run_is_full, run_goes_on, OwnStep, own_rest, own_full, own_to, own_step}
use Rattle.std.specs.Prelude.{Ok, Err, Some}
use Rattle.meaning.specs.declared.Refusal.{Refusal}
use Rattle.meaning.specs.declared.Layout.{Layout}
use Rattle.meaning.specs.declared.Configuration.{Configuration}
use Rattle.meaning.specs.Card.{Bytes, layout, agent_for, agent}
use Rattle.meaning.specs.Refusals.{configuration_answer}
use Rattle.meaning.specs.Configurations.{padded, state_of, configuration_of}
use Rattle.meaning.specs.Calls.{ran, runs}
use Rattle.meaning.proofs.Calls.{runs_good}
use Rattle.meaning.proofs.Configurations.{take_padded, configuration_laws}
use Rattle.plans.proofs.Laws.{length-padded}
use Rattle.card.specs.GoodCard.{GoodCard}
use Rattle.door.specs.declared.asked.Choice as Told
use Rattle.choices.specs.OnePass.{kept}
use Rattle.choices.specs.Judged.{Marked}
use Rattle.door.specs.Ready.{Ready}
use Rattle.door.specs.Asking.{chosen, choice_of}
use Rattle.door.specs.Asking as Asking
use Rattle.door.proofs.Told.{told_some, action_told}
use Rattle.moves.specs.declared.step.Transition.{Transition}
use Rattle.moves.specs.Steps.{transition_of, configuration_after, Enabled, Advances, own_move}

-- ---- the choice that was found is the guide's own

module _ (l : Layout) (b : Bytes) (c : Configuration) where
  abbrev A : Agent
  A = agent_for l b

  abbrev s : State
  s = state_of c

  pub chose : (t : Told.Choice) → Some t ≡ chosen (guide A s) → Enabled l b c (choice_of t) × (step A s (choice_of t) ≡ step_by A s (guide A s))
  chose t e =
      let g = told_some (guide A s) t e in
      ((enabled_exactly A s.mental (choice_of t)).1 (guide_takes A s (choice_of t) g).leads, sym (ap (step_by A s) g))

-- ---- a configuration that is ready, and one after a move

pub ready_back : (l : Layout) (b : Bytes) (c : Configuration) → Ready l b c → configuration_of (state_of c) ≡ c
unfolding state_of configuration_of
ready_back l b c h =
    let m = c.mind in
    let n : length (take m.length c.plan) ≡ m.length = length-take-le m.length c.plan (let f = h.fits in let r = h.room in omega arith) in
    λ i. record { mind = record { beliefs = m.beliefs; goals = m.goals; length = n i; phase = m.phase; finished = m.finished }; plan = sym h.zeros i }

pub ready_after : (l : Layout) (b : Bytes) → GoodCard l b → (s : State) → length s.mental.π ≤ 1024 → s.phase ≤ 2 → Ready l b (configuration_of s)
unfolding configuration_of
ready_after l b g s h p =
    let t = take_padded s.mental.π (length s.mental.π) refl in
    record { card = g; fits = h; zeros = ap padded (sym t); room = length-padded s.mental.π h; phase = p }

-- ---- only an action changes beliefs and goals

pub no_action_keeps : {A : Agent} {c c' : Config} {k : Choice} → Step A c k c' → (kind k ≡ 1 → ⊥) → (c'.σ ≡ c.σ) × (c'.γ ≡ c.γ)
unfolding kind
no_action_keeps (execute e p) h = absurd (h refl)
no_action_keeps (apply_PS e p q) h = (refl, refl)
no_action_keeps (apply_PR π e p) h = (refl, refl)

-- ---- the run so far

-- after `count` transitions the rest of the run goes on from a configuration
pub record Running (l : Layout) (b : Bytes) (budget : ℕ) (start : State) (c : Configuration) (count : ℕ) : Type 0 where
  pub within : count ≤ budget
  pub ready : Ready l b c
  pub same : counted count (run (agent_for l b) (budget - count) (state_of c)) ≡ run (agent_for l b) budget start

module _ (l : Layout) (b : Bytes) (budget : ℕ) (start : State) (c : Configuration) (count : ℕ) (r : Running l b budget start c count) where
  -- what is answered where the run ends here
  abbrev Answered : Ending → Configuration → Type 0
  Answered e d = record { answer = Ok tt; count = count; ending = e; configuration = d } ≡ ran (run (agent_for l b) budget start)

  ends : (e : Ending) → run (agent_for l b) (budget - count) (state_of c) ≡ ended e (state_of c) → Answered e c
  ends e q =
      let n : count ≡ count + 0 = omega arith in
      let o : counted count (ended e (state_of c)) ≡ run (agent_for l b) budget start = ap (counted count) (sym q) ∙ r.same in
      (λ i. record { answer = Ok tt; count = n i; ending = e; configuration = sym (ready_back l b c r.ready) i }) ∙ ap ran o

  pub running_spent : budget ≤ count → Answered Ending.Spent c
  unfolding run
  running_spent h = let z : budget - count ≡ 0 = omega arith in ends Ending.Spent (ap (λ n. run (agent_for l b) n (state_of c)) z)

  module _ (left_over : count < budget) (x : Transition) (left : Configuration) (told : Advances l b c x left) where
    abbrev B : Agent
    B = agent_for l b

    abbrev t : State
    t = state_of c

    one_less : budget - count ≡ suc (budget - (count + 1))
    one_less = omega arith

    -- the run from here, by what the guide's own move comes to
    from_here : run B (budget - count) t ≡ run B (suc (budget - (count + 1))) t
    from_here = ap (λ n. run B n t) one_less

    -- what is told of a move that is not taken leaves all as it was
    stopped : (o : Reached) → step_by B t (guide B t) ≡ o → configuration_after o c ≡ c → (e : Ending) → run B (suc (budget - (count + 1))) t ≡ ended e t → Answered e left
    stopped o q k e f = subst (Answered e) (sym (told.1 ∙ ap (λ y. configuration_after y c) q ∙ k)) (ends e (from_here ∙ f))

    is : (o : Reached) → step_by B t (guide B t) ≡ o → x ≡ transition_of o
    is o q = told.0 ∙ ap transition_of q

    pub running_rest : x ≡ Transition.Nothing → Answered Ending.Rest left
    running_rest e = go refl (own_step B t)
      where
        go : {o : Reached} → step_by B t (guide B t) ≡ o → OwnStep B t o → Answered Ending.Rest left
        go q (own_rest a) = stopped nothing q refl Ending.Rest (run_rests B (budget - (count + 1)) t q)
        go q (own_full k d g y h) = absurd (let u = sym (is full q) ∙ e in let z : ◌≡◌ {A = ℕ} 0 1 = cc in omega arith)
        go q (own_to k d g y h) = absurd (let u = sym (is (to k (after t k d)) q) ∙ e in let z : ◌≡◌ {A = ℕ} 0 1 = cc in omega arith)

    pub running_full : x ≡ Transition.Full → Answered Ending.Full left
    running_full e = go refl (own_step B t)
      where
        go : {o : Reached} → step_by B t (guide B t) ≡ o → OwnStep B t o → Answered Ending.Full left
        go q (own_rest a) = absurd (let u = sym (is nothing q) ∙ e in let z : ◌≡◌ {A = ℕ} 0 1 = cc in omega arith)
        go q (own_full k d g y h) = stopped full q refl Ending.Full (run_is_full B (budget - (count + 1)) t q)
        go q (own_to k d g y h) = absurd (let u = sym (is (to k (after t k d)) q) ∙ e in let z : ◌≡◌ {A = ℕ} 0 1 = cc in omega arith)

    -- a move that is taken: where the run goes on, and that marks stay true unless it was an action
    pub record Moved (κ : Kind) : Type 0 where
      pub goes : Running l b budget start left (count + 1)
      pub keeps : (κ ≡ Kind.Action → ⊥) → (marks : List ℕ) → Marked l b c.mind.beliefs c.mind.goals marks
          → Marked l b left.mind.beliefs left.mind.goals marks

    pub running_moved : (u : Told.Choice) → x ≡ Transition.Taken u → Moved u.kind
    unfolding after configuration_of state_of
    running_moved u e = go refl (own_step B t)
      where
        on : (k : Choice) (d : Config) → Step B t.mental k d → length d.π ≤ 1024 → step_by B t (guide B t) ≡ to k (after t k d) → Moved u.kind
        on k d y h q =
            let t' = after t k d in
            let at : left ≡ configuration_of t' = told.1 ∙ ap (λ z. configuration_after z c) q in
            let taken : Transition.Taken (Asking.told k) ≡ Transition.Taken u = sym (is (to k t') q) ∙ e in
            let a : Asking.told k ≡ u = cc in
            let o = run B (budget - (count + 1)) t' in
            let m : count + 1 + o.count ≡ count + suc o.count = omega arith in
            let w : counted count (one_more o) ≡ run B budget start = ap (counted count) (sym (from_here ∙ run_goes_on B (budget - (count + 1)) t k t' q)) ∙ r.same in
            let f : t'.phase ≤ 2 = (let z : (kind k + 1) % 3 < 3 = mod-lt (kind k + 1) (omega arith) in omega arith) in
            record {
              goes = subst (λ z. Running l b budget start z (count + 1)) (sym at) (record {
                within = omega arith;
                ready = ready_after l b r.ready.card t' h f;
                same = ap (λ z. counted (count + 1) (run B (budget - (count + 1)) z)) (configuration_laws.of_state t' h) ∙ (λ j. record { state = o.state; count = m j; ending = o.ending }) ∙ w;
              });
              keeps = λ z marks v.
                  (let s = no_action_keeps y (λ g. z (ap (λ (v : Told.Choice). v.kind) (sym a) ∙ action_told k g)) in
                  let β : left.mind.beliefs ≡ c.mind.beliefs = ap (λ (g : Configuration). g.mind.beliefs) at ∙ s.0 in
                  let γ : left.mind.goals ≡ c.mind.goals = ap (λ (g : Configuration). g.mind.goals) at ∙ s.1 in
                  λ j g. v j g ∙ ap₂ (λ x y. get_or (kept l b x y) j (false, 0)) (sym β) (sym γ));
            }

        go : {o : Reached} → step_by B t (guide B t) ≡ o → OwnStep B t o → Moved u.kind
        go q (own_rest a) = absurd (let u = sym (is nothing q) ∙ e in let z : ◌≡◌ {A = ℕ} 0 1 = cc in omega arith)
        go q (own_full k d g y h) = absurd (let u = sym (is full q) ∙ e in let z : ◌≡◌ {A = ℕ} 0 1 = cc in omega arith)
        go q (own_to k d g y h) = on k d y h q

-- ---- a run of an accepted card and configuration, by the layout that was read

pub runs_by : (b : Bytes) (c : Configuration) → configuration_answer b c ≡ Ok tt → (budget : ℕ) (l : Layout) → l ≡ layout b
    → ran (run (agent_for l b) budget (state_of c)) ≡ runs b c budget
unfolding agent
runs_by b c good budget l s = ap (λ (x : Layout). ran (run (agent_for x b) budget (state_of c))) s ∙ sym (runs_good b c good budget)

-- ---- the guide's own move on any card and configuration

module _ (b : Bytes) (c : Configuration) where
  pub own_refused : (r : Refusal) → configuration_answer b c ≡ Err r → own_move b c ≡ nothing
  unfolding own_move
  own_refused r e = rw (e, own_move)

  pub own_accepted : configuration_answer b c ≡ Ok tt → (l : Layout) → l ≡ layout b → step_by (agent_for l b) (state_of c) (guide (agent_for l b) (state_of c)) ≡ own_move b c
  unfolding own_move agent
  own_accepted e l s = ap (λ x. step_by (agent_for x b) (state_of c) (guide (agent_for x b) (state_of c))) s ∙ sym (rw (e, own_move))
