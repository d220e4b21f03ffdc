-- A chosen move and a run for bounded cards: the order of their refusals, what is reached is such again, and no goal gets believed.
use mathlib.Core.Path.{◌≡◌, ap, ◌∙◌, sym, subst}
use Prim.Native.Nat.{ℕ}
use Rattle.meaning.specs.declared.Refusal.{Refusal}
use Rattle.std.specs.Prelude.{Ok, Err}
use Rattle.meaning.specs.declared.Configuration.{Configuration}
use Rattle.meaning.specs.declared.Reply.{Reply}
use Rattle.meaning.specs.declared.Ran.{Ran}
use Rattle.meaning.specs.declared.BoundedReply.{BoundedReply}
use Rattle.meaning.specs.declared.BoundedRan.{BoundedRan}
use Rattle.meaning.specs.Card.{Bytes}
use Rattle.meaning.specs.BoundedCalls.{as_answer, as_reply, as_ran, bounded_answer}
use Rattle.meaning.proofs.BoundedCalls.{bounded_takes_refused}
use Rattle.meaning.proofs.Calls.{runs_good}
use Rattle.demands.specs.CallContracts.{BoundedTakes, BoundedRuns}
use Rattle.demands.specs.Struck.{Unbelieved}
use Rattle.demands.specs.BoundedCalls.{OnBounded}
use Rattle.demands.proofs.BoundedCalls.{bounded_calls}
use Rattle.demands.proofs.OnBounded.{BoundedTaking, BoundedRunning, as_take, as_run, refused, bounded_taking, bounded_running, bounded_accepts, take_done, run_done}
use Rattle.demands.proofs.Striking.{struck}

module _ (b : Bytes) (c : Configuration) where
  module _ (n : ℕ) (r : BoundedReply) (w : BoundedTakes b c n r) where
    pub take_bounded_refused : (q : Refusal) → bounded_answer b c ≡ Err q → as_answer r.answer ≡ Err q
    take_bounded_refused q e = ap (λ (x : Reply). x.answer) (w ∙ bounded_takes_refused b c n q e)

    pub take_bounded_again : r.answer ≡ Ok tt → OnBounded b r.configuration
    take_bounded_again d = bounded_calls.take_again b c (take_done b c n r w d).0 n r w

    pub take_bounded_struck : Unbelieved c → Unbelieved r.configuration
    take_bounded_struck u = go (bounded_taking b c n r w)
      where
        go : BoundedTaking b c n r → Unbelieved r.configuration
        go (as_take on t) = struck.take b c n (as_reply r) t u
        go (refused q e h) = subst Unbelieved (sym (ap (λ (x : Reply). x.configuration) h)) u

  module _ (budget : ℕ) (r : BoundedRan) (w : BoundedRuns b c budget r) where
    pub run_bounded_answer : as_answer r.answer ≡ bounded_answer b c
    run_bounded_answer = go (bounded_running b c budget r w)
      where
        go : BoundedRunning b c budget r → as_answer r.answer ≡ bounded_answer b c
        go (as_run on t) = ap (λ (x : Ran). x.answer) (t ∙ runs_good b c on.accepted budget) ∙ sym (bounded_accepts b c on)
        go (refused q e h) = ap (λ (x : Ran). x.answer) h ∙ sym e

    pub run_bounded_again : r.answer ≡ Ok tt → OnBounded b r.configuration
    run_bounded_again d = bounded_calls.run_again b c (run_done b c budget r w d).0 budget r w

    pub run_bounded_struck : Unbelieved c → Unbelieved r.configuration
    run_bounded_struck u = go (bounded_running b c budget r w)
      where
        go : BoundedRunning b c budget r → Unbelieved r.configuration
        go (as_run on t) = struck.run b c budget (as_ran r) t u
        go (refused q e h) = subst Unbelieved (sym (ap (λ (x : Ran). x.configuration) h)) u
