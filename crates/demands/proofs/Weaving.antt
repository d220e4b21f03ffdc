-- The rule for an app: what is woven by taking what next told is one run.
use mathlib.Core.Path.{◌≡◌, refl, ap, ◌∙◌, sym, subst}
use Prim.Native.Nat.{ℕ, zero, suc, ◌+◌, ◌-◌, ◌≤◌, ◌<◌}
use native.Mathlib.Omega.{arith}
use Rattle.runs.specs.declared.Ending.{Ending}
use Rattle.runs.specs.Order.{code}
use Rattle.runs.specs.Run.{run}
use Rattle.meaning.specs.declared.Configuration.{Configuration}
use Rattle.meaning.specs.declared.Reply.{Reply}
use Rattle.meaning.specs.declared.Written.{Written}
use Rattle.meaning.specs.declared.Ran.{Ran}
use Rattle.meaning.specs.declared.Coming.{Coming}
use Rattle.meaning.specs.declared.Next.{Next}
use Rattle.meaning.specs.Card.{Bytes, agent}
use Rattle.meaning.specs.Configurations.{state_of}
use Rattle.meaning.specs.Calls.{coming, takes, runs, nexts, writes, saves}
use Rattle.meaning.proofs.Calls.{runs_good, nexts_good}
use Rattle.demands.specs.CallContracts.{Takes, Runs, Saves, Nexts}
use Rattle.demands.specs.Demands.{OnAccepted}
use Rattle.demands.specs.TurnedScreen.{AsOneRun}
use Rattle.demands.specs.Next.{ran_to, MoveTold, Woven, begun, made, saved, turned, EachDone, AsOne, AppsRule}
use Rattle.demands.proofs.Saving.{Sized, sized}
use Rattle.demands.proofs.Turning.{turn_done, same_held, run_accepted, run_sized, stopped}
use Rattle.demands.proofs.Telling.{Telling, at_rest, is_full, moves, telling, by_rest, by_full, back, run_at_rest, run_full, beside_one}

-- a save hands back what it was given
pub saved_back : (b : Bytes) (c : Configuration) (out left : Bytes) (r : Written) → Saves b c out r left → r.configuration ≡ c
unfolding saves writes
saved_back b c out left r (e, f) = ap (λ (x : Written). x.configuration) e

-- what next says of a configuration that is accepted
said : (b : Bytes) (c : Configuration) → OnAccepted b c → (r : Next) → Nexts b c r → coming (agent b) (state_of c) ≡ r.coming
said b c on r v = sym (ap (λ (x : Next). x.coming) (v ∙ nexts_good b c on))

module _ (b : Bytes) (c₀ : Configuration) (keeps : Sized b c₀) (on : OnAccepted b c₀) where
  -- where an app stands after n moves
  record Stands (n : ℕ) (c : Configuration) : Type 0 where
    accepted : OnAccepted b c
    keeping : Sized b c
    one_run : runs b c₀ n ≡ ran_to n Ending.Spent c

  at_first : Stands 0 c₀
  unfolding run
  at_first = record { accepted = on; keeping = keeps; one_run = runs_good b c₀ on 0 ∙ ap (ran_to 0 Ending.Spent) (back b c₀ keeps on) }

  -- a run from there goes on the one from the first
  goes_on : (n : ℕ) (c : Configuration) → Stands n c → (k : ℕ) → 1 ≤ k → (m : ℕ) (e : Ending) (d : Configuration) → runs b c k ≡ ran_to m e d
      → runs b c₀ (n + k) ≡ ran_to (n + m) e d
  goes_on n c s k least m e d w =
      let f : (runs b c₀ n).configuration ≡ c = ap (λ (x : Ran). x.configuration) s.one_run in
      let j : AsOneRun (runs b c k) ((runs b c₀ n).count + (runs b c k).count) (runs b c₀ (n + k)) =
      stopped b c₀ keeps n k least (runs b c₀ n) (runs b c k) (runs b c₀ (n + k)) refl (ap (λ x. runs b x k) (sym f)) refl in
      let z : (runs b c₀ n).count + (runs b c k).count ≡ n + m = (λ i. (s.one_run i).count + (w i).count) in
      λ i. record {
        answer = (sym j.answer ∙ ap (λ (x : Ran). x.answer) w) i;
        count = (sym j.count ∙ z) i;
        ending = (sym j.ending ∙ ap (λ (x : Ran). x.ending) w) i;
        configuration = (sym j.configuration ∙ ap (λ (x : Ran). x.configuration) w) i;
      }

  -- ---- one thing more

  told : {n : ℕ} {c : Configuration} → Stands n c → (r : Next) → Nexts b c r → (k : ℕ) → r.coming ≡ Coming.Move k → MoveTold b c k (runs b c 1)
  told {c = c} s r v k e = (beside_one b c s.keeping s.accepted r v (runs b c 1) refl).move k e

  moved : {n : ℕ} {c : Configuration} → Stands n c → (k : ℕ) → MoveTold b c k (runs b c 1) → (t : Reply) → Takes b c k t → Stands (suc n) t.configuration
  moved {n} {c} s k o t u =
      let q : (runs b c 1).configuration ≡ t.configuration = sym (ap (λ (x : Reply). x.configuration) (o.taken t u)) in
      let z : n + 1 ≡ suc n = omega arith in
      subst (Stands (suc n)) q (record {
        accepted = run_accepted b c 1 (runs b c 1) refl s.accepted;
        keeping = run_sized b c 1 (runs b c 1) refl s.keeping;
        one_run = ap (runs b c₀) (sym z) ∙ goes_on n c s 1 (omega arith) 1 Ending.Spent _ o.run ∙ ap (λ m. ran_to m Ending.Spent (runs b c 1).configuration) z;
      })

  stands : {n : ℕ} {c : Configuration} → Woven b c₀ n c → Stands n c
  stands begun = at_first
  stands (made w r v k e t u) = moved (stands w) k (told (stands w) r v k e) t u
  stands (saved {n} {c} w out left r v) = subst (Stands n) (sym (saved_back b c out left r v)) (stands w)
  stands (turned {n} {c} w t) = subst (Stands n) (sym (same_held b c t (stands w).keeping)) (stands w)

  each_done : {n : ℕ} {c : Configuration} (w : Woven b c₀ n c) → EachDone w
  each_done begun = tt
  each_done (made w r v k e t u) = (ap (λ (x : Reply). x.answer) ((told (stands w) r v k e).taken t u), each_done w)
  each_done (saved w out left r v) = each_done w
  each_done (turned {c = c} w t) = (turn_done b c t (stands w).accepted (stands w).keeping, each_done w)

  -- ---- where no move is told

  -- a run that ends where it is, with any budget
  ends_there : {n : ℕ} {c : Configuration} → Stands n c → (e : Ending) → ((m : ℕ) → runs b c (suc m) ≡ ran_to 0 e c)
      → (budget : ℕ) → n < budget → (one : Ran) → Runs b c₀ budget one → one ≡ ran_to n e c
  ends_there {n} {c} s e w budget h one v =
      let z : budget ≡ n + suc (budget - suc n) = omega arith in
      let y : n + 0 ≡ n = omega arith in
      v ∙ ap (runs b c₀) z ∙ goes_on n c s (suc (budget - suc n)) (omega arith) 0 e c (w (budget - suc n)) ∙ ap (λ m. ran_to m e c) y

  woven : {n : ℕ} {c : Configuration} (w : Woven b c₀ n c) → AsOne w
  woven {n} {c} w =
      let s = stands w in
      record {
        each_done = each_done w;
        one_run = λ one v. v ∙ s.one_run;
        at_rest = λ r v e. ends_there s Ending.Rest (λ m. run_at_rest b c s.keeping s.accepted (by_rest b c (telling b c) (said b c s.accepted r v ∙ e)) m (runs b c (suc m)) refl);
        is_full = λ r v k e. ends_there s Ending.Full (λ m. run_full b c s.keeping s.accepted (by_full b c (telling b c) (said b c s.accepted r v ∙ e)) m (runs b c (suc m)) refl);
      }

  -- ---- every run is woven so

  -- one move more of the guide's own, if there is one
  one_more : {n : ℕ} {c : Configuration} → Woven b c₀ n c → Woven b c₀ (n + (runs b c 1).count) (runs b c 1).configuration
  one_more {n} {c} w = go refl (telling b c)
    where
      stays : (e : Ending) → runs b c 1 ≡ ran_to 0 e c → Woven b c₀ (n + (runs b c 1).count) (runs b c 1).configuration
      stays e o =
          let y : n + 0 ≡ n = omega arith in
          rw o (rw y w)

      go : {x : Coming} → coming (agent b) (state_of c) ≡ x → Telling b c x → Woven b c₀ (n + (runs b c 1).count) (runs b c 1).configuration
      go q (at_rest r e) = stays Ending.Rest (run_at_rest b c (stands w).keeping (stands w).accepted e 0 (runs b c 1) refl)
      go q (is_full k c' g t e) = stays Ending.Full (run_full b c (stands w).keeping (stands w).accepted e 0 (runs b c 1) refl)
      go q (moves k c' g t e) =
          let s = stands w in
          let m : (nexts b c).coming ≡ Coming.Move (code k) = sym (said b c s.accepted (nexts b c) refl) ∙ q in
          let o = told s (nexts b c) refl (code k) m in
          let y : suc n ≡ n + (runs b c 1).count = let z = ap (λ (x : Ran). x.count) o.run in omega arith in
          subst (λ j. Woven b c₀ j (runs b c 1).configuration) y
          (subst (Woven b c₀ (suc n)) (ap (λ (x : Reply). x.configuration) (o.taken (takes b c (code k)) refl)) (made w (nexts b c) refl (code k) m (takes b c (code k)) refl))

  any_run : (budget : ℕ) → Woven b c₀ (runs b c₀ budget).count (runs b c₀ budget).configuration
  any_run zero = rw at_first.one_run begun
  any_run (suc j) =
      let first = runs b c₀ j in
      let second = runs b first.configuration 1 in
      let z : j + 1 ≡ suc j = omega arith in
      let o : AsOneRun second (first.count + second.count) (runs b c₀ (suc j)) = stopped b c₀ keeps j 1 (omega arith) first second (runs b c₀ (suc j)) refl refl (ap (runs b c₀) (sym z)) in
      subst (λ n. Woven b c₀ n (runs b c₀ (suc j)).configuration) o.count
      (subst (Woven b c₀ (first.count + second.count)) o.configuration (one_more (any_run j)))

pub apps_rule : AppsRule
apps_rule = record {
  as_one = λ b c₀ shaped on n c w. woven b c₀ (sized b c₀ shaped) on w;
  any_run = λ b c₀ shaped on budget one v. subst (λ (x : Ran). Woven b c₀ x.count x.configuration) (sym v) (any_run b c₀ (sized b c₀ shaped) on budget);
}
