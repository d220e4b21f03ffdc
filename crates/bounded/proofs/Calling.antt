-- What the two calls for bounded cards answer, by what their parts do: row 22's test, the door, the old call behind it, the words.
use mathlib.Core.Path.{◌≡◌, refl, sym, ap, ◌∙◌, subst}
use mathlib.Core.Bool.{Bool, true, false, ◌&&◌}
use Prim.Native.Nat.{ℕ, ◌≤◌, ◌<◌}
use lib.ListN.{take}
use borrow.Author.Tests.{lt-leb}
use Rattle.runs.specs.declared.Ending.{Ending}
use Rattle.runs.specs.declared.Offender.{Offender}
use Rattle.runs.specs.declared.Verdict.{Verdict}
use Rattle.runs.specs.Step.{step_by}
use Rattle.runs.specs.Run.{run}
use Rattle.runs.specs.Weight.{weigh, light, verdict}
use Rattle.meaning.specs.declared.Refusal.{Refusal}
use Rattle.meaning.specs.Answers.{Answer, BoundedAnswer}
use Rattle.std.specs.Prelude.{Result, Ok, Err}
use Rattle.meaning.specs.declared.Layout.{Layout}
use Rattle.meaning.specs.declared.Configuration.{Configuration}
use Rattle.meaning.specs.declared.Reply.{Reply}
use Rattle.meaning.specs.declared.Ran.{Ran}
use Rattle.meaning.specs.declared.BoundedEnding.{BoundedEnding}
use Rattle.meaning.specs.Card.{Bytes, layout, weight, agent_for, agent, initial_plan}
use Rattle.meaning.specs.Configurations.{state_of}
use Rattle.meaning.specs.Refusals.{configuration_answer}
use Rattle.meaning.specs.Why.{why_closed}
use Rattle.meaning.specs.Calls.{choice, reply, takes, ran, runs}
use Rattle.meaning.specs.BoundedCalls.{as_answer, as_ending, is_bounded, bounded_good, bounded_answer, bounded_takes, bounded_runs, HasWord, HasEnding}
use Rattle.meaning.proofs.BoundedCalls.{bounded_word, both_good, bounded_refused, bounded_heavy, bounded_good_lem, bounded_takes_done, bounded_takes_refused, bounded_runs_done, bounded_runs_refused}
use Rattle.card.specs.Rows.{checked_by}
use Rattle.layout.specs.declared.card.Card.{Card}
use Rattle.door.specs.Admitted.{admitted, AdmittedCard}
use Rattle.door.proofs.Accepting.{let_in, kept_out, admitted_good, admitted_refused}
use Rattle.moves.specs.Steps.{taken_by}
use Rattle.moves.proofs.Taking.{takes_by}
use Rattle.moves.proofs.Running.{runs_by}
use Rattle.demands.specs.BoundedCalls.{OnBounded}
use Rattle.demands.proofs.BoundedWords.{taken_word, ran_word, ran_ending}
use Rattle.demands.proofs.OnBounded.{on_bounded}
use Rattle.bounded.specs.Admitted.{bounded_admitted, BoundedCard, BoundedAdmitted}

and-false : (t : Bool) → t && false ≡ false
and-false true = refl
and-false false = refl

-- row 22's test, of a plan that weighs w
module _ (b : Bytes) (c : Configuration) (w : ℕ) (e : w ≡ weigh (weight b) (take c.mind.length c.plan)) where
  its_plan : w ≡ weigh (weight b) (state_of c).mental.π
  unfolding state_of
  its_plan = e

  pub too_heavy : 1024 < w → false ≡ bounded_good b c
  unfolding bounded_good
  too_heavy h =
      let l : light (weight b) (state_of c).mental.π ≡ false = lt-leb _ _ (rw its_plan at h) in
      sym (ap (λ t. is_bounded (verdict (weight b) (agent b) (initial_plan b)) && t) l ∙ and-false (is_bounded (verdict (weight b) (agent b) (initial_plan b))))

  module _ (v : Verdict) (so : v ≡ verdict (weight b) (agent b) (initial_plan b)) where
    pub not_too_heavy : w ≤ 1024 → v ≡ Verdict.Bounded → true ≡ bounded_good b c
    not_too_heavy h k = sym (both_good b c (sym so ∙ k) (rw its_plan at h))

    pub is_open : (o : Offender) → v ≡ Verdict.Open o → false ≡ bounded_good b c
    unfolding bounded_good
    is_open o k = sym (ap (λ x. is_bounded x && light (weight b) (state_of c).mental.π) (sym so ∙ k))

-- ---- the door

module _ (b : Bytes) (c : Configuration) where
  pub refused_before : (v : Result Card Refusal) (q : Refusal) → v ≡ Err q → admitted b c ≡ Err q → BoundedAdmitted b c v
  refused_before v q t e =
      subst (BoundedAdmitted b c) (sym t) (ap (λ a. checked_by a (layout b)) (bounded_refused b c q (admitted_refused b c q e)))

  module _ (k : Card) (told : AdmittedCard b c k) where
    on : configuration_answer k.bytes.now c ≡ Ok tt
    on = (admitted_good k.bytes.now c k.layout told.value).0

    pub refused_by_22 : bounded_good k.bytes.now c ≡ false → bounded_admitted b c ≡ Err Refusal.OpenOrHeavy
    refused_by_22 h =
        subst (λ x. bounded_admitted x c ≡ Err Refusal.OpenOrHeavy) told.same
        (ap (λ a. checked_by a (layout k.bytes.now)) (bounded_heavy k.bytes.now c on h))

    pub not_refused : bounded_good k.bytes.now c ≡ true → BoundedCard b c k
    not_refused h = record {
      same = told.same;
      value = ap (λ a. checked_by a (layout k.bytes.now)) (bounded_good_lem k.bytes.now c on h ∙ sym on) ∙ told.value;
      ready = told.ready;
    }

-- ---- the calls, by what the door answers

module _ (b : Bytes) (c : Configuration) where
  module _ (q : Refusal) (t : bounded_admitted b c ≡ Err q) (a : Answer) (s : a ≡ Err q) where
    is_refused : bounded_answer b c ≡ Err q
    is_refused = kept_out (bounded_answer b c) (layout b) q t

    pub door_word : HasWord a
    door_word = let (x, e) = bounded_word b c in (x, e ∙ is_refused ∙ sym s)

    pub take_refused : (x : BoundedAnswer) → as_answer x ≡ a → (n : ℕ) → reply (as_answer x) c ≡ bounded_takes b c n
    take_refused x e n = ap (λ y. reply y c) (e ∙ s) ∙ sym (bounded_takes_refused b c n q is_refused)

    pub run_refused : (x : BoundedAnswer) → as_answer x ≡ a → (budget : ℕ)
        → record { answer = as_answer x; count = 0; ending = as_ending BoundedEnding.Spent; configuration = c } ≡ bounded_runs b c budget
    unfolding as_ending
    run_refused x e budget = ap (λ (y : Answer). record { answer = y; count = 0; ending = Ending.Spent; configuration = c }) (e ∙ s) ∙ sym (bounded_runs_refused b c budget q is_refused)

  module _ (l : Layout) (g : bounded_admitted b c ≡ Ok l) where
    in_here : (bounded_answer b c ≡ Ok tt) × (l ≡ layout b)
    in_here = let_in (bounded_answer b c) (layout b) l g

    accepted : OnBounded b c
    accepted = on_bounded b c in_here.0

    module _ (n : ℕ) (r : Reply)
        (w : r ≡ taken_by (why_closed l b (state_of c).mental (choice n)) (step_by (agent_for l b) (state_of c) (choice n)) c) where
      as_take : r ≡ takes b c n
      as_take = w ∙ takes_by b c accepted.accepted n l in_here.1

      pub take_word : HasWord r.answer
      take_word = let (x, e) = taken_word b c accepted n in (x, e ∙ sym (ap (λ (y : Reply). y.answer) as_take))

      pub take_made : (x : BoundedAnswer) → as_answer x ≡ r.answer → reply (as_answer x) r.configuration ≡ bounded_takes b c n
      take_made x e = ap (λ y. reply y r.configuration) e ∙ (as_take ∙ sym (bounded_takes_done b c n in_here.0))

    module _ (budget : ℕ) (r : Ran) (w : r ≡ ran (run (agent_for l b) budget (state_of c))) where
      as_run : r ≡ runs b c budget
      as_run = w ∙ runs_by b c accepted.accepted budget l in_here.1

      pub run_word : HasWord r.answer
      run_word = let (x, e) = ran_word b c accepted budget in (x, e ∙ sym (ap (λ (y : Ran). y.answer) as_run))

      pub run_ending : HasEnding r.ending
      run_ending = let (x, e) = ran_ending b c accepted budget in (x, e ∙ sym (ap (λ (y : Ran). y.ending) as_run))

      pub run_made : (x : BoundedAnswer) → as_answer x ≡ r.answer → (z : BoundedEnding) → as_ending z ≡ r.ending
          → record { answer = as_answer x; count = r.count; ending = as_ending z; configuration = r.configuration } ≡ bounded_runs b c budget
      run_made x e z f =
          (λ i. record { answer = e i; count = r.count; ending = f i; configuration = r.configuration })
          ∙ (as_run ∙ sym (bounded_runs_done b c budget in_here.0))
