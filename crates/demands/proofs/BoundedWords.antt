-- A chosen move and a run for bounded cards: 11 and full, for which they have no word, do not arise.
use mathlib.Core.Path.{◌≡◌, refl, ap, ◌∙◌, sym}
use Prim.Native.Nat.{ℕ}
use Rattle.runs.specs.declared.Ending.{Ending}
use Rattle.meaning.specs.declared.Refusal.{Refusal}
use Rattle.meaning.specs.Answers.{Answer}
use Rattle.std.specs.Prelude.{Ok, Err}
use Rattle.meaning.specs.declared.Configuration.{Configuration}
use Rattle.meaning.specs.declared.Reply.{Reply}
use Rattle.meaning.specs.declared.Ran.{Ran}
use Rattle.meaning.specs.declared.BoundedRefusal.{BoundedRefusal}
use Rattle.meaning.specs.declared.BoundedEnding.{BoundedEnding}
use Rattle.meaning.specs.declared.BoundedReply.{BoundedReply}
use Rattle.meaning.specs.declared.BoundedRan.{BoundedRan}
use Rattle.meaning.specs.Card.{Bytes}
use Rattle.meaning.specs.Calls.{reply, grades, takes, runs}
use Rattle.meaning.specs.BoundedCalls.{as_refusal, as_answer, as_ending, as_reply, as_ran, bounded_answer, HasWord, HasEnding}
use Rattle.meaning.proofs.BoundedCalls.{configuration_word, bounded_word, bounded_takes_done, bounded_takes_refused, bounded_runs_done, bounded_runs_refused}
use Rattle.demands.specs.CallContracts.{BoundedTakes, BoundedRuns}
use Rattle.demands.specs.Demands.{IsClosed, no_rule, front, condition}
use Rattle.demands.specs.TurnedScreen.{refused_run}
use Rattle.demands.specs.BoundedCalls.{OnBounded}
use Rattle.demands.proofs.Bounding.{never_full, never_plan_full}
use Rattle.demands.proofs.OnBounded.{on_bounded}
use Rattle.demands.proofs.Ways.{Taking, Running, refused, is_closed, plan_full, done, taking, running}

closed_word : {a : Answer} → IsClosed a → HasWord a
unfolding as_answer as_refusal
closed_word no_rule = (Err BoundedRefusal.NoRule, refl)
closed_word front = (Err BoundedRefusal.Front, refl)
closed_word (condition {node}) = (Err (BoundedRefusal.Condition node), refl)

ending_word : (e : Ending) → (e ≡ Ending.Full → ⊥) → HasEnding e
unfolding as_ending
ending_word Ending.Spent h = (BoundedEnding.Spent, refl)
ending_word Ending.Rest h = (BoundedEnding.Rest, refl)
ending_word Ending.Full h = absurd (h refl)

-- a word for an answer that is another's
at_word : {a a' : Answer} → a ≡ a' → HasWord a → HasWord a'
at_word e w = (w.0, w.1 ∙ e)

module _ (b : Bytes) (c : Configuration) (on : OnBounded b c) where
  module _ (n : ℕ) where
    chosen_word : (r : Reply) → Taking b c n r → ((r.answer ≡ Err Refusal.PlanFull) → ⊥) → HasWord r.answer
    unfolding as_answer
    chosen_word r (refused h) f = at_word h (configuration_word b c)
    chosen_word r (is_closed h e w x) f = closed_word w
    chosen_word r (plan_full h k c' m l) f = absurd (f refl)
    chosen_word r (done h k c' m l) f = (Ok tt, refl)

    pub taken_word : HasWord (takes b c n).answer
    taken_word =
        let t = taking b c n (takes b c n) refl in
        chosen_word (takes b c n) t (never_plan_full b (grades b) refl (on.bounded (grades b) refl) c on.light n (takes b c n) t)

  pub ran_word : (budget : ℕ) → HasWord (runs b c budget).answer
  ran_word budget = go (runs b c budget) (running b c budget (runs b c budget) refl)
    where
      go : (r : Ran) → Running b c budget r → HasWord r.answer
      go r (refused h) = at_word h (configuration_word b c)
      go r (done h) = at_word h (configuration_word b c)

  pub ran_ending : (budget : ℕ) → HasEnding (runs b c budget).ending
  ran_ending budget =
      ending_word (runs b c budget).ending
      (never_full b (grades b) refl (on.bounded (grades b) refl) c on.light budget (runs b c budget) (running b c budget (runs b c budget) refl))

module _ (b : Bytes) (c : Configuration) where
  pub take_has_answer : (n : ℕ) → (r : BoundedReply) × BoundedTakes b c n r
  take_has_answer n = go (bounded_answer b c) refl
    where
      made : (x : Reply) → HasWord x.answer → (r : BoundedReply) × (as_reply r ≡ x)
      made x (a, e) = (record { answer = a; configuration = x.configuration }, ap (λ y. reply y x.configuration) e)

      go : (a : Answer) → bounded_answer b c ≡ a → (r : BoundedReply) × BoundedTakes b c n r
      go (Ok _) h = let (r, e) = made (takes b c n) (taken_word b c (on_bounded b c h) n) in (r, e ∙ sym (bounded_takes_done b c n h))
      go (Err q) h = let (r, e) = made (reply (Err q) c) (at_word h (bounded_word b c)) in (r, e ∙ sym (bounded_takes_refused b c n q h))

  pub run_has_answer : (budget : ℕ) → (r : BoundedRan) × BoundedRuns b c budget r
  unfolding as_ending
  run_has_answer budget = go (bounded_answer b c) refl
    where
      made : (x : Ran) → HasWord x.answer → HasEnding x.ending → (r : BoundedRan) × (as_ran r ≡ x)
      made x (a, e) (z, f) = (
        record { answer = a; count = x.count; ending = z; configuration = x.configuration },
        λ i. record { answer = e i; count = x.count; ending = f i; configuration = x.configuration },
      )

      go : (a : Answer) → bounded_answer b c ≡ a → (r : BoundedRan) × BoundedRuns b c budget r
      go (Ok _) h =
          let on = on_bounded b c h in
          let (r, e) = made (runs b c budget) (ran_word b c on budget) (ran_ending b c on budget) in
          (r, e ∙ sym (bounded_runs_done b c budget h))
      go (Err q) h =
          let (r, e) = made (refused_run q c) (at_word h (bounded_word b c)) (BoundedEnding.Spent, refl) in
          (r, e ∙ sym (bounded_runs_refused b c budget q h))
