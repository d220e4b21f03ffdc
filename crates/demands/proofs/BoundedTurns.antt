-- The turned screen of the run for bounded cards: as run's where 22 is not given, and else every run is refused alike.
use mathlib.Core.Path.{◌≡◌, refl, ap, ◌∙◌, sym, subst}
use mathlib.Core.List.{List, [], ◌∷◌}
use Prim.Native.Nat.{ℕ, ◌+◌, ◌≤◌}
use native.Mathlib.Omega.{arith}
use Rattle.meaning.specs.Answers.{Answer}
use Rattle.std.specs.Prelude.{Ok, Err}
use Rattle.meaning.specs.declared.Configuration.{Configuration}
use Rattle.meaning.specs.declared.Ran.{Ran}
use Rattle.meaning.specs.declared.BoundedRan.{BoundedRan}
use Rattle.meaning.specs.Card.{Bytes}
use Rattle.meaning.specs.BoundedCalls.{as_ran, bounded_answer, bounded_runs}
use Rattle.meaning.proofs.BoundedCalls.{bounded_runs_done, bounded_runs_refused}
use Rattle.demands.specs.CallContracts.{BoundedRuns}
use Rattle.demands.specs.TurnedScreen.{held, AsOneRun, refused_run, sum}
use Rattle.demands.specs.BoundedTurns.{BoundedTurnedRuns, last_bounded, bounded_turned, BoundedTurnedScreen}
use Rattle.demands.proofs.BoundedCalls.{run_again}
use Rattle.demands.proofs.BoundedWords.{run_has_answer}
use Rattle.demands.proofs.OnBounded.{bounded_accepts, on_bounded}
use Rattle.demands.proofs.Saving.{Sized, sized}
use Rattle.demands.proofs.Turning.{same_held, run_sized, stopped, one_before}

same_run : (r : Ran) → AsOneRun r r.count r
same_run r = record { answer = refl; configuration = refl; ending = refl; count = refl }

module _ (b : Bytes) where
  -- what a run reaches, a turn gives back
  bounded_sized : (c : Configuration) (j : ℕ) (r : BoundedRan) → BoundedRuns b c j r → Sized b c → Sized b r.configuration
  bounded_sized c j r w h = go (bounded_answer b c) refl
    where
      go : (a : Answer) → bounded_answer b c ≡ a → Sized b r.configuration
      go (Ok _) e = run_sized b c j (as_ran r) (w ∙ bounded_runs_done b c j e) h
      go (Err q) e = subst (Sized b) (sym (ap (λ (x : Ran). x.configuration) (w ∙ bounded_runs_refused b c j q e))) h

  -- a run that is stopped, and goes on from what it reached
  module _ (c : Configuration) (keeps : Sized b c) (j k : ℕ) (least : 1 ≤ k) (first second one : BoundedRan) (w : BoundedRuns b c j first) (w' : BoundedRuns b first.configuration k second) (v : BoundedRuns b c (j + k) one) where
    bounded_stopped : AsOneRun (as_ran second) (first.count + second.count) (as_ran one)
    bounded_stopped = go (bounded_answer b c) refl
      where
        go : (a : Answer) → bounded_answer b c ≡ a → AsOneRun (as_ran second) (first.count + second.count) (as_ran one)
        go (Ok _) e =
            let reached = bounded_accepts b first.configuration (run_again b c (on_bounded b c e) j first w) in
            stopped b c keeps j k least (as_ran first) (as_ran second) (as_ran one) (w ∙ bounded_runs_done b c j e)
            (w' ∙ bounded_runs_done b first.configuration k reached) (v ∙ bounded_runs_done b c (j + k) e)
        go (Err q) e =
            let f : as_ran first ≡ refused_run q c = w ∙ bounded_runs_refused b c j q e in
            let s : as_ran second ≡ refused_run q c = w' ∙ ap (λ (x : Ran). bounded_runs b x.configuration k) f ∙ bounded_runs_refused b c k q e in
            let o : as_ran one ≡ refused_run q c = v ∙ bounded_runs_refused b c (j + k) q e in
            let n : first.count ≡ 0 = ap (λ (x : Ran). x.count) f in
            subst (λ (x : Ran). AsOneRun (as_ran second) (first.count + second.count) x) (s ∙ sym o)
            (record { answer = refl; configuration = refl; ending = refl; count = omega arith })

  as_one : {c : Configuration} {j n : ℕ} {ks : List ℕ} {last : BoundedRan} → Sized b c → BoundedTurnedRuns b c j ks last n
      → (one : BoundedRan) → BoundedRuns b c (j + sum ks) one → AsOneRun (as_ran last) n (as_ran one)
  as_one keeps (last_bounded {c} {j} r w) one v =
      let z : j ≡ j + 0 = omega arith in
      subst (AsOneRun (as_ran r) r.count) (w ∙ ap (bounded_runs b c) z ∙ sym v) (same_run (as_ran r))
  as_one keeps (bounded_turned {c} {j} {k} {n} {ks} {last} r w t least rest) one v =
      let reached = bounded_sized c j r w keeps in
      let same = same_held b r.configuration t reached in
      let (second, e) = run_has_answer b (held t) (k + sum ks) in
      one_before (as_ran r) (as_ran last) (as_ran second) (as_ran one) n (as_one (subst (Sized b) (sym same) reached) rest second e)
      (bounded_stopped c keeps j (k + sum ks) (omega arith) r second one w (e ∙ ap (λ x. bounded_runs b x (k + sum ks)) same) v)

pub bounded_turned_screen : BoundedTurnedScreen
bounded_turned_screen = record {
  one_turn = λ b c shaped j k least first w t second w' one v.
      let z : j + k ≡ j + sum (k ∷ []) = omega arith in
      as_one b (sized b c shaped) (bounded_turned first w t least (last_bounded second w')) one (v ∙ ap (bounded_runs b c) z);
  any_turns = λ b c shaped j ks last n turns one v. as_one b (sized b c shaped) turns one v;
}
