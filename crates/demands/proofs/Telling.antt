-- What comes next: the ways in which it is told, and next beside a run.
use mathlib.Core.Path.{◌≡◌, refl, ap, ◌∙◌, sym, subst}
use mathlib.Core.Option.{some}
use Prim.Native.Nat.{ℕ, suc}
use native.Mathlib.Omega.{arith}
use Rattle.paper.specs.Language.{Agent, Config}
use Rattle.paper.specs.Transitions.{Choice}
use Rattle.runs.specs.declared.Ending.{Ending}
use Rattle.runs.specs.Order.{State, code, guide}
use Rattle.runs.specs.Step.{after, Reached, nothing, full, to, step_by}
use Rattle.runs.specs.Run.{run}
use Rattle.runs.specs.Theorems.{AtRest}
use Rattle.runs.proofs.Order.{rests}
use Rattle.runs.proofs.Run.{OwnStep, own_rest, own_full, own_to, own_step, run_rests, run_is_full, run_goes_on}
use Rattle.meaning.specs.declared.Refusal.{Refusal}
use Rattle.meaning.specs.Answers.{Answer}
use Rattle.std.specs.Prelude.{Ok, Err}
use Rattle.meaning.specs.declared.Configuration.{Configuration}
use Rattle.meaning.specs.declared.Ran.{Ran}
use Rattle.meaning.specs.declared.Coming.{Coming}
use Rattle.meaning.specs.declared.Next.{Next}
use Rattle.meaning.specs.Card.{Bytes, agent}
use Rattle.meaning.specs.Configurations.{state_of, configuration_of}
use Rattle.meaning.specs.Refusals.{configuration_answer}
use Rattle.meaning.specs.Numbers.{ending_number}
use Rattle.meaning.specs.Calls.{choice, coming, ran, nexts}
use Rattle.meaning.proofs.Calls.{takes_full, takes_to, runs_good, nexts_refused, nexts_good, own_told, none_told}
use Rattle.meaning.proofs.Tables.{done≢refused}
use Rattle.demands.specs.CallContracts.{Runs, Nexts}
use Rattle.demands.specs.Demands.{OnAccepted, Transition}
use Rattle.demands.specs.Next.{OwnChoice, ran_to, MoveTold, FullTold, BesideOne, NextLaws}
use Rattle.demands.specs.Struck.{Unbelieved}
use Rattle.demands.proofs.Among.{configuration_among}
use Rattle.demands.proofs.Codes.{read_back}
use Rattle.demands.proofs.Saving.{Sized, sized}
use Rattle.demands.proofs.Demands.{same}
use Rattle.demands.proofs.Turning.{same_held}

-- ---- the ways in which it is told, with what holds in each

pub data Telling (b : Bytes) (c : Configuration) : Coming → Type 0 where
  at_rest : AtRest (agent b) (state_of c).mental → step_by (agent b) (state_of c) (guide (agent b) (state_of c)) ≡ nothing → Telling b c Coming.Rest
  is_full : (k : Choice) (c' : Config) → guide (agent b) (state_of c) ≡ some k → Transition b c k c'
      → step_by (agent b) (state_of c) (guide (agent b) (state_of c)) ≡ full → Telling b c (Coming.Full (code k))
  moves : (k : Choice) (c' : Config) → guide (agent b) (state_of c) ≡ some k → Transition b c k c'
      → step_by (agent b) (state_of c) (guide (agent b) (state_of c)) ≡ to k (after (state_of c) k c') → Telling b c (Coming.Move (code k))

rest≢move : {n : ℕ} → Coming.Rest ≡ Coming.Move n → ⊥
rest≢move p = let z : ◌≡◌ {A = ℕ} 0 1 = cc in omega arith

rest≢full : {n : ℕ} → Coming.Rest ≡ Coming.Full n → ⊥
rest≢full p = let z : ◌≡◌ {A = ℕ} 0 1 = cc in omega arith

full≢move : {m n : ℕ} → Coming.Full m ≡ Coming.Move n → ⊥
full≢move p = let z : ◌≡◌ {A = ℕ} 0 1 = cc in omega arith

full_inj : {m n : ℕ} → Coming.Full m ≡ Coming.Full n → m ≡ n
full_inj p = cc

move_inj : {m n : ℕ} → Coming.Move m ≡ Coming.Move n → m ≡ n
move_inj p = cc

module _ (b : Bytes) (c : Configuration) where
  abbrev A : Agent
  A = agent b

  abbrev s : State
  s = state_of c

  pub telling : Telling b c (coming A s)
  telling = go refl (own_step A s)
    where
      go : {o : Reached} → step_by A s (guide A s) ≡ o → OwnStep A s o → Telling b c (coming A s)
      go e (own_rest r) = subst (Telling b c) (sym (none_told A s ((rests A s).1 r))) (at_rest r e)
      go e (own_full k c' g x l) = subst (Telling b c) (sym (own_told A s k g e)) (is_full k c' g x e)
      go e (own_to k c' g x l) = subst (Telling b c) (sym (own_told A s k g e)) (moves k c' g x e)

  pub by_rest : {n : Coming} → Telling b c n → n ≡ Coming.Rest → step_by A s (guide A s) ≡ nothing
  by_rest (at_rest r e) p = e
  by_rest (is_full k c' g t e) p = absurd (rest≢full (sym p))
  by_rest (moves k c' g t e) p = absurd (rest≢move (sym p))

  pub by_full : {n : Coming} {k : ℕ} → Telling b c n → n ≡ Coming.Full k → step_by A s (guide A s) ≡ full
  by_full (at_rest r e) p = absurd (rest≢full p)
  by_full (is_full k c' g t e) p = e
  by_full (moves k c' g t e) p = absurd (full≢move (sym p))

-- ---- what a run and a take do, in each

-- no two endings have one number
same_ending : {e e' : Ending} → e ≡ e' → ending_number e ≡ ending_number e'
same_ending p = ap ending_number p

module _ (b : Bytes) (c : Configuration) (keeps : Sized b c) (on : OnAccepted b c) where
  abbrev B : Agent
  B = agent b

  abbrev x : State
  x = state_of c

  pub back : configuration_of x ≡ c
  back = keeps.whole on

  pub run_at_rest : step_by B x (guide B x) ≡ nothing → (m : ℕ) (one : Ran) → Runs b c (suc m) one → one ≡ ran_to 0 Ending.Rest c
  run_at_rest e m one w = w ∙ runs_good b c on (suc m) ∙ ap ran (run_rests B m x e) ∙ ap (ran_to 0 Ending.Rest) back

  pub run_full : step_by B x (guide B x) ≡ full → (m : ℕ) (one : Ran) → Runs b c (suc m) one → one ≡ ran_to 0 Ending.Full c
  run_full e m one w = w ∙ runs_good b c on (suc m) ∙ ap ran (run_is_full B m x e) ∙ ap (ran_to 0 Ending.Full) back

  run_moves : (k : Choice) (y : State) → step_by B x (guide B x) ≡ to k y → (one : Ran) → Runs b c 1 one → one ≡ ran_to 1 Ending.Spent (configuration_of y)
  unfolding run
  run_moves k y e one w = w ∙ runs_good b c on 1 ∙ ap ran (run_goes_on B 0 x k y e)

  -- its code is read as the guide's own choice
  taken_by : (k : Choice) (c' : Config) → guide B x ≡ some k → Transition b c k c' → {o : Reached} → step_by B x (guide B x) ≡ o → step_by B x (choice (code k)) ≡ o
  taken_by k c' g t e = ap (step_by B x) (read_back b c on t ∙ sym g) ∙ e

  own_choice : (k : Choice) → guide B x ≡ some k → OwnChoice b c (code k)
  own_choice k g = record { chosen = k; own = g; coded = refl }

  -- ---- next beside a run with budget 1

  abbrev Beside : Coming → Ran → Type 0
  Beside n one = BesideOne b c (record { answer = Ok tt; coming = n; configuration = c }) one

  beside_rest : AtRest B x.mental → (one : Ran) → one ≡ ran_to 0 Ending.Rest c → Beside Coming.Rest one
  unfolding ending_number
  beside_rest r one o = rw o (record {
    done = refl;
    move_exactly = (λ p. absurd (rest≢move p.1), λ n. absurd (omega arith));
    move = λ n p. absurd (rest≢move p);
    full_exactly = (λ p. absurd (rest≢full p.1), λ p. absurd (let z = same_ending p in omega arith));
    full = λ n p. absurd (rest≢full p);
    rest_exactly = (λ p. refl, λ p. refl);
    rest = λ p. refl;
    no_transition = (λ p. r, λ p. refl);
  })

  beside_full : (k : Choice) (c' : Config) → guide B x ≡ some k → Transition b c k c' → step_by B x (guide B x) ≡ full
      → (one : Ran) → one ≡ ran_to 0 Ending.Full c → Beside (Coming.Full (code k)) one
  unfolding ending_number
  beside_full k c' g t e one o = rw o (record {
    done = refl;
    move_exactly = (λ p. absurd (full≢move p.1), λ n. absurd (omega arith));
    move = λ n p. absurd (full≢move p);
    full_exactly = (λ p. refl, λ p. (code k, refl));
    full = λ n p. subst (λ n. FullTold b c n (ran_to 0 Ending.Full c)) (full_inj p) (record {
      own = own_choice k g;
      run = refl;
      refused = λ r w. w ∙ takes_full b c on (code k) (taken_by k c' g t e);
    });
    rest_exactly = (λ p. absurd (rest≢full (sym p)), λ p. absurd (let z = same_ending p in omega arith));
    rest = λ p. absurd (rest≢full (sym p));
    no_transition = (λ p. absurd (rest≢full (sym p)), λ r. absurd (r k c' t));
  })

  beside_move : (k : Choice) (c' : Config) → guide B x ≡ some k → Transition b c k c' → step_by B x (guide B x) ≡ to k (after x k c')
      → (one : Ran) → one ≡ ran_to 1 Ending.Spent (configuration_of (after x k c')) → Beside (Coming.Move (code k)) one
  unfolding ending_number
  beside_move k c' g t e one o = rw o (record {
    done = refl;
    move_exactly = (λ p. refl, λ p. (code k, refl));
    move = λ n p. subst (λ n. MoveTold b c n (ran_to 1 Ending.Spent (configuration_of (after x k c')))) (move_inj p) (record {
      own = own_choice k g;
      run = refl;
      taken = λ r w. w ∙ takes_to b c on (code k) k _ (taken_by k c' g t e);
    });
    full_exactly = (λ p. absurd (full≢move (sym p.1)), λ p. absurd (let z = same_ending p in omega arith));
    full = λ n p. absurd (full≢move (sym p));
    rest_exactly = (λ p. absurd (rest≢move (sym p)), λ p. absurd (let z = same_ending p in omega arith));
    rest = λ p. absurd (rest≢move (sym p));
    no_transition = (λ p. absurd (rest≢move (sym p)), λ r. absurd (r k c' t));
  })

  beside : {n : Coming} → Telling b c n → (one : Ran) → Runs b c 1 one → Beside n one
  beside (at_rest r e) one w = beside_rest r one (run_at_rest e 0 one w)
  beside (is_full k c' g t e) one w = beside_full k c' g t e one (run_full e 0 one w)
  beside (moves k c' g t e) one w = beside_move k c' g t e one (run_moves k (after x k c') e one w)

  pub beside_one : (r : Next) → Nexts b c r → (one : Ran) → Runs b c 1 one → BesideOne b c r one
  beside_one r v one w = subst (λ (n : Next). BesideOne b c n one) (sym (v ∙ nexts_good b c on)) (beside (telling b c) one w)

-- ---- every answer of next

module _ (b : Bytes) (c : Configuration) (r : Next) (v : Nexts b c r) where
  answered_by : (a : Answer) → configuration_answer b c ≡ a → (r.answer ≡ a) × ((r.configuration ≡ c) × ((q : Refusal) → a ≡ Err q → r.coming ≡ Coming.Rest))
  answered_by (Ok _) e =
      let n = v ∙ nexts_good b c e in
      (ap (λ (x : Next). x.answer) n, (ap (λ (x : Next). x.configuration) n, λ q h. absurd (done≢refused h)))
  answered_by (Err z) e =
      let n = v ∙ nexts_refused b c z e in
      (ap (λ (x : Next). x.answer) n, (ap (λ (x : Next). x.configuration) n, λ q h. ap (λ (x : Next). x.coming) n))

  pub answered : r.answer ≡ configuration_answer b c
  answered = (answered_by (configuration_answer b c) refl).0

  pub unchanged : r.configuration ≡ c
  unchanged = (answered_by (configuration_answer b c) refl).1.0

  refused : (q : Refusal) → r.answer ≡ Err q → r.coming ≡ Coming.Rest
  refused q h = (answered_by (configuration_answer b c) refl).1.1 q (sym answered ∙ h)

  -- what is answered is accepted again, and no goal of it is believed
  pub accepted_again : r.answer ≡ Ok tt → OnAccepted b r.configuration
  accepted_again h = ap (configuration_answer b) unchanged ∙ sym answered ∙ h

  pub unbelieved : Unbelieved c → Unbelieved r.configuration
  unbelieved h = subst Unbelieved (sym unchanged) h

pub next_laws : NextLaws
next_laws = record {
  beside_one = λ b c shaped. beside_one b c (sized b c shaped);
  answered = answered;
  listed = λ b c r v. rw (answered b c r v) (configuration_among b c);
  refused = refused;
  unchanged = unchanged;
  determined = λ b c r r' p q. same p q;
  after_a_turn = λ b c shaped t turned v r w. v ∙ ap (nexts b) (same_held b c t (sized b c shaped)) ∙ sym w;
}
