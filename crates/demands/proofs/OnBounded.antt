-- Where a chosen move and a run for bounded cards are refused before they are made, and where they answer as take and run.
use mathlib.Core.Path.{◌≡◌, refl, ap, ◌∙◌, sym}
use mathlib.Core.Bool.{Bool, true, false, ◌&&◌}
use mathlib.Core.List.{List}
use Prim.Native.Nat.{ℕ}
use native.Mathlib.Omega.{arith}
use borrow.Author.Tests.{leb-false}
use Rattle.paper.specs.Transitions.{Choice}
use Rattle.runs.specs.declared.Verdict.{Verdict}
use Rattle.runs.specs.Run.{Chain}
use Rattle.runs.specs.Weight.{light, verdict}
use Rattle.runs.proofs.Weight.{open≢bounded}
use Rattle.meaning.specs.declared.Refusal.{Refusal}
use Rattle.meaning.specs.Answers.{Answer, BoundedAnswer}
use Rattle.std.specs.Prelude.{Ok, Err}
use Rattle.meaning.specs.declared.BoundedReply.{BoundedReply}
use Rattle.meaning.specs.declared.BoundedRan.{BoundedRan}
use Rattle.meaning.specs.declared.Reply.{Reply}
use Rattle.meaning.specs.declared.Ran.{Ran}
use Rattle.meaning.specs.declared.Configuration.{Configuration}
use Rattle.meaning.specs.declared.Graded.{Graded}
use Rattle.meaning.specs.Card.{Bytes, weight, agent, initial_plan}
use Rattle.meaning.specs.Configurations.{state_of}
use Rattle.meaning.specs.Refusals.{card_answer}
use Rattle.meaning.specs.Calls.{reply, grades}
use Rattle.meaning.specs.BoundedCalls.{as_answer, as_reply, as_ran, is_bounded, bounded_good, bounded_answer}
use Rattle.meaning.proofs.Calls.{grades_good}
use Rattle.meaning.proofs.BoundedCalls.{good_both, both_good, bounded_done, bounded_good_lem, bounded_takes_done, bounded_takes_refused, bounded_runs_done, bounded_runs_refused}
use Rattle.meaning.proofs.Tables.{done≢refused}
use Rattle.demands.specs.CallContracts.{Grades, Takes, Runs, BoundedTakes, BoundedRuns}
use Rattle.demands.specs.TurnedScreen.{refused_run}
use Rattle.demands.specs.Demands.{OnAccepted}
use Rattle.demands.specs.BoundedCalls.{OnBounded, OpenOrHeavy, is_open, is_heavy}
use Rattle.demands.proofs.Bounding.{bounded, law}
use Rattle.demands.proofs.Codes.{card_accepted}

-- an accepted card's verdict is what grade says
module _ (b : Bytes) (card : card_answer b ≡ Ok tt) where
  said : (g : Graded) → Grades b g → g.verdict ≡ verdict (weight b) (agent b) (initial_plan b)
  said g e = ap (λ (x : Graded). x.verdict) (e ∙ grades_good b card)

module _ (b : Bytes) (c : Configuration) where
  its_verdict : OnBounded b c → verdict (weight b) (agent b) (initial_plan b) ≡ Verdict.Bounded
  its_verdict on = bounded b (grades b) refl (on.bounded (grades b) refl)

  pub bounded_accepts : OnBounded b c → bounded_answer b c ≡ Ok tt
  bounded_accepts on = bounded_good_lem b c on.accepted (both_good b c (its_verdict on) on.light)

  pub on_bounded : bounded_answer b c ≡ Ok tt → OnBounded b c
  on_bounded e =
      let (on, good) = bounded_done b c e in
      let (v, w) = good_both b c good in
      record { accepted = on; bounded = λ g h. said b (card_accepted b c on) g h ∙ v; light = w }

  module _ (on : OnAccepted b c) where
    pub open_or_heavy : bounded_good b c ≡ false → OpenOrHeavy b c
    unfolding bounded_good
    open_or_heavy e = go (verdict (weight b) (agent b) (initial_plan b)) refl
      where
        go : (v : Verdict) → verdict (weight b) (agent b) (initial_plan b) ≡ v → OpenOrHeavy b c
        go Verdict.Bounded h = is_heavy (leb-false _ _ (sym (ap (λ x. is_bounded x && light (weight b) (state_of c).mental.π) h) ∙ e))
        go (Verdict.Open o) h = is_open o (λ g w. said b (card_accepted b c on) g w ∙ h)

    not_both : OpenOrHeavy b c → bounded_good b c ≡ true → ⊥
    not_both (is_open o h) e = open≢bounded (sym (h (grades b) refl) ∙ (said b (card_accepted b c on) (grades b) refl ∙ (good_both b c e).0))
    not_both (is_heavy h) e = let w = (good_both b c e).1 in omega arith

    pub not_good : OpenOrHeavy b c → bounded_good b c ≡ false
    not_good h = go (bounded_good b c) refl
      where
        go : (t : Bool) → bounded_good b c ≡ t → bounded_good b c ≡ false
        go true e = absurd (not_both h e)
        go false e = e

-- from there, any chain of transitions leads to such a configuration again
pub bounded_again : (b : Bytes) (c d : Configuration) → OnBounded b c → OnAccepted b d → {ks : List Choice}
    → Chain (agent b) (state_of c).mental ks (state_of d).mental → OnBounded b d
bounded_again b c d on accepted chain =
    let v = on.bounded (grades b) refl in
    record {
      accepted = accepted;
      bounded = on.bounded;
      light = (law b (grades b) refl v).stays_light (bounded b (grades b) refl v) on.light chain;
    }

-- ---- the ways in which both may answer

pub data BoundedTaking (b : Bytes) (c : Configuration) (n : ℕ) (r : BoundedReply) : Type 0 where
  as_take : OnBounded b c → Takes b c n (as_reply r) → BoundedTaking b c n r
  refused : (q : Refusal) → bounded_answer b c ≡ Err q → as_reply r ≡ reply (Err q) c → BoundedTaking b c n r

pub bounded_taking : (b : Bytes) (c : Configuration) (n : ℕ) (r : BoundedReply) → BoundedTakes b c n r → BoundedTaking b c n r
bounded_taking b c n r w = go (bounded_answer b c) refl
  where
    go : (a : Answer) → bounded_answer b c ≡ a → BoundedTaking b c n r
    go (Ok _) e = as_take (on_bounded b c e) (w ∙ bounded_takes_done b c n e)
    go (Err q) e = refused q e (w ∙ bounded_takes_refused b c n q e)

pub data BoundedRunning (b : Bytes) (c : Configuration) (budget : ℕ) (r : BoundedRan) : Type 0 where
  as_run : OnBounded b c → Runs b c budget (as_ran r) → BoundedRunning b c budget r
  refused : (q : Refusal) → bounded_answer b c ≡ Err q → as_ran r ≡ refused_run q c → BoundedRunning b c budget r

pub bounded_running : (b : Bytes) (c : Configuration) (budget : ℕ) (r : BoundedRan) → BoundedRuns b c budget r → BoundedRunning b c budget r
bounded_running b c budget r w = go (bounded_answer b c) refl
  where
    go : (a : Answer) → bounded_answer b c ≡ a → BoundedRunning b c budget r
    go (Ok _) e = as_run (on_bounded b c e) (w ∙ bounded_runs_done b c budget e)
    go (Err q) e = refused q e (w ∙ bounded_runs_refused b c budget q e)

-- what is done is not refused
pub as_done : {a : BoundedAnswer} → a ≡ Ok tt → as_answer a ≡ Ok tt
unfolding as_answer
as_done e = ap as_answer e

module _ (b : Bytes) (c : Configuration) where
  pub take_done : (n : ℕ) (r : BoundedReply) → BoundedTakes b c n r → r.answer ≡ Ok tt → OnBounded b c × Takes b c n (as_reply r)
  take_done n r w d = go (bounded_taking b c n r w)
    where
      go : BoundedTaking b c n r → OnBounded b c × Takes b c n (as_reply r)
      go (as_take on t) = (on, t)
      go (refused q e h) = absurd (done≢refused (sym (as_done d) ∙ ap (λ (x : Reply). x.answer) h))

  pub run_done : (budget : ℕ) (r : BoundedRan) → BoundedRuns b c budget r → r.answer ≡ Ok tt → OnBounded b c × Runs b c budget (as_ran r)
  run_done budget r w d = go (bounded_running b c budget r w)
    where
      go : BoundedRunning b c budget r → OnBounded b c × Runs b c budget (as_ran r)
      go (as_run on t) = (on, t)
      go (refused q e h) = absurd (done≢refused (sym (as_done d) ∙ ap (λ (x : Ran). x.answer) h))
