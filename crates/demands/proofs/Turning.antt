-- The turned screen: what a caller holds after a turn is what it had, and runs with turns between them are one run.
use mathlib.Core.Path.{◌≡◌, refl, ap, ◌∙◌, sym, subst}
use mathlib.Core.List.{List, [], ◌∷◌}
use Prim.Native.Nat.{ℕ, ◌+◌, ◌≤◌}
use native.Mathlib.Omega.{arith}
use lib.ListN.{take}
use Rattle.runs.specs.Order.{State}
use Rattle.runs.specs.Run.{Outcome, run}
use Rattle.runs.specs.Theorems.{counted}
use Rattle.runs.proofs.Run.{stop_law}
use Rattle.meaning.specs.declared.Refusal.{Refusal}
use Rattle.meaning.specs.Answers.{Answer}
use Rattle.std.specs.Prelude.{Ok, Err}
use Rattle.meaning.specs.declared.Configuration.{Configuration}
use Rattle.meaning.specs.declared.Reply.{Reply}
use Rattle.meaning.specs.declared.Written.{Written}
use Rattle.meaning.specs.declared.Ran.{Ran}
use Rattle.meaning.specs.Card.{Bytes, agent}
use Rattle.meaning.specs.Configurations.{state_of, empty}
use Rattle.meaning.specs.Refusals.{and_then, first_given, has_edition, card_answer, place_table, place_answer, configuration_answer}
use Rattle.meaning.specs.Calls.{reply, takes, ran, runs, restores}
use Rattle.meaning.proofs.Calls.{runs_good, runs_refused, saves_refused, restores_refused}
use Rattle.meaning.proofs.Configurations.{configuration_laws}
use Rattle.demands.specs.CallContracts.{Runs, Shaped}
use Rattle.demands.specs.Demands.{OnAccepted}
use Rattle.demands.specs.TurnedScreen.{Turn, held, TurnDone, TurnRefused, TurnedRuns, last_run, run_turned, Each, AsOneRun, refused_run, Together, sum, TurnedScreen}
use Rattle.demands.proofs.AcceptedAgain.{again}
use Rattle.demands.proofs.Saving.{Sized, sized, saved_room, saved_restored}
use Rattle.demands.proofs.Keeping.{ran_kept, ran_sized}
use Rattle.demands.proofs.Ways.{running, saving}

-- ---- a turn

-- what no bytes are answered with, as a place: the card's refusal, or 1
no_place : (b : Bytes) → place_answer b [] ≡ and_then (card_answer b) (Err Refusal.Short)
unfolding place_answer place_table first_given has_edition
no_place b = refl

nothing_restored : (b : Bytes) → restores b [] ≡ reply (and_then (card_answer b) (Err Refusal.Short)) empty
nothing_restored b = go (card_answer b) refl
  where
    go : (a : Answer) → card_answer b ≡ a → restores b [] ≡ reply (and_then (card_answer b) (Err Refusal.Short)) empty
    go (Ok _) h = let e = no_place b ∙ ap (λ a. and_then a (Err Refusal.Short)) h in rw h (restores_refused b [] Refusal.Short e)
    go (Err q) h = let e = no_place b ∙ ap (λ a. and_then a (Err Refusal.Short)) h in rw h (restores_refused b [] q e)

refused_then : (a : Answer) (z : Refusal) → (q : Refusal) × (and_then a (Err z) ≡ Err q)
refused_then (Ok _) z = (z, refl)
refused_then (Err q) z = (q, refl)

module _ (b : Bytes) (c : Configuration) (t : Turn b c) where
  pub turn_done : OnAccepted b c → Sized b c → TurnDone c t
  turn_done on h =
      let v = saving b c t.out t.left t.saved t.saves in
      let s : t.saved.answer ≡ Ok tt = (saved_room b c h on t.out t.left t.saved v).done_exactly.1 t.room in
      let (r, w) = saved_restored b c h t.out t.left t.saved v s t.restored t.restores in
      record { save = s; restore = r; whole = w }

  turn_refused : (q : Refusal) → configuration_answer b c ≡ Err q → TurnRefused q c t
  turn_refused q e =
      let (s, f) = saves_refused b c t.out q e in
      let n : t.saved.count ≡ 0 = ap (λ (x : Written). x.count) (t.saves.0 ∙ s) in
      record {
        save = t.saves.0 ∙ s;
        left = t.saves.1 ∙ f;
        restore = t.restores ∙ ap (λ k. restores b (take k t.left)) n ∙ nothing_restored b;
      }

  -- a caller holds what it had
  held_done : TurnDone c t → held t ≡ c
  held_done d = rw (d.restore, held) d.whole

  held_refused : (q : Refusal) → TurnRefused q c t → held t ≡ c
  held_refused q d =
      let (z, e) = refused_then (card_answer b) Refusal.Short in
      rw (ap (λ (x : Reply). x.answer) d.restore ∙ e, held) (ap (λ (x : Written). x.configuration) d.save)

  pub same_held : Sized b c → held t ≡ c
  same_held h = go (configuration_answer b c) refl
    where
      go : (a : Answer) → configuration_answer b c ≡ a → held t ≡ c
      go (Ok _) e = held_done (turn_done e h)
      go (Err q) e = held_refused q (turn_refused q e)

-- ---- a run

module _ (b : Bytes) (c : Configuration) (j : ℕ) (r : Ran) (w : Runs b c j r) where
  run_done : OnAccepted b c → r.answer ≡ Ok tt
  run_done on = ap (λ (x : Ran). x.answer) (w ∙ runs_good b c on j)

  pub run_accepted : OnAccepted b c → OnAccepted b r.configuration
  run_accepted on = again.run b c j r w (run_done on)

  run_refused : (q : Refusal) → configuration_answer b c ≡ Err q → r ≡ refused_run q c
  run_refused q e = w ∙ runs_refused b c j q e

  pub run_sized : Sized b c → Sized b r.configuration
  run_sized h = ran_sized b c j r (running b c j r w) h

-- ---- a run that is stopped, and goes on from what it reached

joined : (o o' : Outcome) (first second one : Ran) → first ≡ ran o → second ≡ ran o' → one ≡ ran (counted o.count o')
    → AsOneRun second (first.count + second.count) one
joined o o' first second one e f g = rw (e, f, g) (record { answer = refl; configuration = refl; ending = refl; count = refl })

module _ (b : Bytes) (c : Configuration) (keeps : Sized b c) (j k : ℕ) (least : 1 ≤ k) (first second one : Ran) (w : Runs b c j first) (w' : Runs b first.configuration k second) (v : Runs b c (j + k) one) where
  abbrev reached : State
  reached = (run (agent b) j (state_of c)).state

  stopped_done : OnAccepted b c → AsOneRun second (first.count + second.count) one
  stopped_done on =
      let e : first ≡ ran (run (agent b) j (state_of c)) = w ∙ runs_good b c on j in
      let s : state_of first.configuration ≡ reached = ap (λ (x : Ran). state_of x.configuration) e ∙ configuration_laws.of_state reached (ran_kept b c on keeps j).known.fits in
      let f : second ≡ ran (run (agent b) k reached) = w' ∙ runs_good b first.configuration (run_accepted b c j first w on) k ∙ ap (λ x. ran (run (agent b) k x)) s in
      let g : one ≡ ran (counted (run (agent b) j (state_of c)).count (run (agent b) k reached)) = v ∙ runs_good b c on (j + k) ∙ ap (λ (o : Outcome). ran o) (stop_law (agent b) j k (state_of c) least) in
      joined (run (agent b) j (state_of c)) (run (agent b) k reached) first second one e f g

  stopped_refused : (q : Refusal) → configuration_answer b c ≡ Err q → AsOneRun second (first.count + second.count) one
  stopped_refused q h =
      let e = run_refused b c j first w q h in
      let f : second ≡ refused_run q c = w' ∙ ap (λ (x : Ran). runs b x.configuration k) e ∙ runs_refused b c k q h in
      rw (e, f, run_refused b c (j + k) one v q h) (record { answer = refl; configuration = refl; ending = refl; count = refl })

  pub stopped : AsOneRun second (first.count + second.count) one
  stopped = go (configuration_answer b c) refl
    where
      go : (a : Answer) → configuration_answer b c ≡ a → AsOneRun second (first.count + second.count) one
      go (Ok _) h = stopped_done h
      go (Err q) h = stopped_refused q h

-- ---- runs with turns between them

-- one run more before runs that are as one
pub one_before : (first last second one : Ran) (n : ℕ) → AsOneRun last n second → AsOneRun second (first.count + second.count) one
    → AsOneRun last (first.count + n) one
one_before first last second one n x y = record {
  answer = x.answer ∙ y.answer;
  configuration = x.configuration ∙ y.configuration;
  ending = x.ending ∙ y.ending;
  count = ap (λ m. first.count + m) x.count ∙ y.count;
}

module _ (b : Bytes) where
  as_one : {c : Configuration} {j n : ℕ} {ks : List ℕ} {last : Ran} → Sized b c → (runs : TurnedRuns b c j ks last n)
      → (one : Ran) → Runs b c (j + sum ks) one → AsOneRun last n one
  as_one keeps (last_run {c} {j} r w) one v =
      let z : j ≡ j + 0 = omega arith in
      subst (AsOneRun r r.count) (w ∙ ap (runs b c) z ∙ sym v) (record { answer = refl; configuration = refl; ending = refl; count = refl })
  as_one keeps (run_turned {c} {j} {k} {n} {ks} {last} r w t least rest) one v =
      let reached = run_sized b c j r w keeps in
      let same = same_held b r.configuration t reached in
      let second = runs b (held t) (k + sum ks) in
      one_before r last second one n (as_one (subst (Sized b) (sym same) reached) rest second refl)
      (stopped b c keeps j (k + sum ks) (omega arith) r second one w (ap (λ x. runs b x (k + sum ks)) same) v)

  each_done : {c : Configuration} {j n : ℕ} {ks : List ℕ} {last : Ran} → Sized b c → OnAccepted b c → (runs : TurnedRuns b c j ks last n)
      → Each (λ r. r.answer ≡ Ok tt) TurnDone runs
  each_done keeps on (last_run {c} {j} r w) = run_done b c j r w on
  each_done keeps on (run_turned {c} {j} r w t least rest) =
      let reached = run_sized b c j r w keeps in
      let turned = turn_done b r.configuration t (run_accepted b c j r w on) reached in
      let same = sym (held_done b r.configuration t turned) in
      (run_done b c j r w on, (turned, each_done (subst (Sized b) same reached) (subst (OnAccepted b) same (run_accepted b c j r w on)) rest))

  each_refused : {c : Configuration} {j n : ℕ} {ks : List ℕ} {last : Ran} (c₀ : Configuration) (q : Refusal) → configuration_answer b c₀ ≡ Err q → c ≡ c₀
      → (runs : TurnedRuns b c j ks last n) → Each (λ r. r ≡ refused_run q c₀) (TurnRefused q) runs
  each_refused c₀ q e same (last_run {c} {j} r w) = w ∙ ap (λ x. runs b x j) same ∙ runs_refused b c₀ j q e
  each_refused c₀ q e same (run_turned {c} {j} r w t least rest) =
      let first : r ≡ refused_run q c₀ = w ∙ ap (λ x. runs b x j) same ∙ runs_refused b c₀ j q e in
      let back : r.configuration ≡ c₀ = ap (λ (x : Ran). x.configuration) first in
      let turned = turn_refused b r.configuration t q (ap (configuration_answer b) back ∙ e) in
      (first, (turned, each_refused c₀ q e (held_refused b r.configuration t q turned ∙ back) rest))

any_turns : (b : Bytes) (c : Configuration) → Shaped c → (j : ℕ) (ks : List ℕ) (last : Ran) (n : ℕ) (runs : TurnedRuns b c j ks last n)
    → (one : Ran) → Runs b c (j + sum ks) one → Together runs one
any_turns b c shaped j ks last n turns one v = record {
  as_one_run = as_one b (sized b c shaped) turns one v;
  all_done = λ on. (each_done b (sized b c shaped) on turns, run_done b c (j + sum ks) one v on);
  refused_alike = λ q e. (each_refused b c q e refl turns, run_refused b c (j + sum ks) one v q e);
}

pub turned_screen : TurnedScreen
turned_screen = record {
  one_turn = λ b c shaped j k least first w t second w' one v.
      let z : j + k ≡ j + sum (k ∷ []) = omega arith in
      any_turns b c shaped j (k ∷ []) second _ (run_turned first w t least (last_run second w')) one (v ∙ ap (runs b c) z);
  any_turns = any_turns;
  chosen_move = λ b c shaped t n turned w r v.
      (λ on. turn_done b c t on (sized b c shaped), w ∙ ap (λ x. takes b x n) (same_held b c t (sized b c shaped)) ∙ sym v);
}
