-- The count of finished bands over everything that may have been done since load.
use mathlib.Core.Path.{◌≡◌, refl, ap, ◌∙◌, sym, subst}
use mathlib.Core.Bool.{true, false}
use mathlib.Core.List.{List, [], ◌∷◌, ◌++◌}
use mathlib.Core.Option.{some}
use Prim.Native.Nat.{ℕ, suc, ◌+◌, ◌≤◌}
use native.Mathlib.Decide.{dec_lt}
use native.Mathlib.Nat.{zero-add}
use native.Mathlib.Omega.{arith}
use lib.ListN.{length}
use Rattle.paper.specs.Language.{Plan, Agent, Config}
use Rattle.paper.specs.Transitions.{Choice, Step}
use Rattle.paper.specs.Next.{is_empty}
use Rattle.runs.specs.Limits.{longest_plan, most_finished}
use Rattle.runs.specs.Order.{State}
use Rattle.runs.specs.Step.{up_to, finished_with, after}
use Rattle.runs.specs.Run.{Chain, stay, ◌then◌}
use Rattle.runs.specs.Theorems.{Guided, ends, emptied}
use Rattle.runs.specs.Theorems as Runs
use Rattle.runs.proofs.Finished.{up_to_lem, past_most}
use Rattle.std.specs.Prelude.{Ok}
use Rattle.meaning.specs.declared.Configuration.{Configuration}
use Rattle.meaning.specs.declared.Reply.{Reply}
use Rattle.meaning.specs.declared.Ran.{Ran}
use Rattle.meaning.specs.declared.BoundedReply.{BoundedReply}
use Rattle.meaning.specs.declared.BoundedRan.{BoundedRan}
use Rattle.meaning.specs.Card.{Bytes, layout, agent, start}
use Rattle.meaning.specs.BoundedCalls.{as_reply, as_ran}
use Rattle.meaning.specs.Calls.{choice}
use Rattle.meaning.specs.Configurations.{state_of, configuration_of}
use Rattle.meaning.specs.Refusals.{card_answer}
use Rattle.meaning.proofs.Configurations.{configuration_laws}
use Rattle.meaning.proofs.Tables.{done≢refused}
use Rattle.demands.specs.CallContracts.{Loads, Takes, Runs, BoundedTakes, BoundedRuns}
use Rattle.demands.specs.Demands.{OnAccepted, StandsFor}
use Rattle.demands.specs.TurnedScreen.{Turn}
use Rattle.demands.proofs.AcceptedAgain.{again}
use Rattle.demands.proofs.Codes.{card_accepted, chosen}
use Rattle.demands.proofs.Demands.{demand_2}
use Rattle.demands.proofs.Known.{known_agent, known_start}
use Rattle.demands.proofs.OnBounded.{as_done, take_done, run_done}
use Rattle.demands.proofs.Keeping.{kept_start, kept_after}
use Rattle.demands.proofs.Saving.{Kept, Sized, handed_out}
use Rattle.demands.proofs.Turning.{same_held}
use Rattle.demands.proofs.Ways.{Replying, done, refused, loading}
use Rattle.deliberation.specs.declared.Deliberated.{Deliberated}
use Rattle.deliberation.specs.Programs.{Rest}
use Rattle.deliberation.specs.MetaTransitions.{Label, not_idle}
use Rattle.deliberation.specs.Theorems.{GoesOn, Goes, stays, goes, Followed, no_move, one_move}
use Rattle.deliberation.proofs.Call.{tells_law}
use Rattle.every_call.specs.SinceLoad.{Since, loaded, taken, ran, taken_bounded, ran_bounded, deliberated, turned, Made, at_load, by_take, by_run, by_bounded_take, by_bounded_run, by_deliberation, by_turn, SinceLoad}
use Rattle.every_call.proofs.Deliberating.{go_on_done, go_on_stands, go_on_again}

-- ---- transitions with the states between them, whoever chooses

data Moves (A : Agent) : State → List Choice → State → Type 0 where
  no_more : {s : State} → Moves A s [] s
  one_then : {s s'' : State} {k : Choice} {ks : List Choice} {c : Config} → Step A s.mental k c → length c.π ≤ longest_plan → Moves A (after s k c) ks s'' → Moves A s (k ∷ ks) s''

module _ {A : Agent} where
  joined : {s s' s'' : State} {ks js : List Choice} → Moves A s ks s' → Moves A s' js s'' → Moves A s (ks ++ js) s''
  joined no_more r = r
  joined (one_then x l m) r = one_then x l (joined m r)

  guided : {s s' : State} {ks : List Choice} → Guided A s ks s' → Moves A s ks s'
  guided ends = no_more
  guided (Runs.goes e x l r) = one_then x l (guided r)

  link : {s s' s'' : State} {x : Label} (xs : List Label) → Goes A s x s' → Moves A s' (not_idle xs) s'' → Moves A s (not_idle (x ∷ xs)) s''
  unfolding not_idle
  link xs stays r = r
  link xs (goes t l) r = one_then t l r

  followed : {P P' : Rest} {s s' : State} {xs : List Label} → Followed A P s xs P' s' → Moves A s (not_idle xs) s'
  unfolding not_idle
  followed no_move = no_more
  followed (one_move {xs = xs} f g r) = link xs g (followed r)

  chain_of : {s s' : State} {ks : List Choice} → Moves A s ks s' → Chain A s.mental ks s'.mental
  unfolding after
  chain_of no_more = stay
  chain_of (one_then x l r) = ◌then◌ x (chain_of r)

module _ (b : Bytes) (card : card_answer b ≡ Ok tt) where
  kept_moves : {s s' : State} {ks : List Choice} → Moves (agent b) s ks s' → Kept (layout b) s → Kept (layout b) s'
  kept_moves no_more h = h
  kept_moves (one_then {s} x l r) h = kept_moves r (kept_after (known_agent b card) s h x l)

-- ---- the count

one_more : (most n : ℕ) → up_to most (suc (up_to most n)) ≡ up_to most (suc n)
one_more most n = elim (dec_lt most n) [
  | yes h ↦ ap (λ k. up_to most (suc k)) (past_most most n h) ∙ (past_most most (suc most) (omega arith) ∙ sym (past_most most (suc n) (omega arith)))
  | no h ↦ ap (λ k. up_to most (suc k)) (up_to_lem most n (omega arith))
]

-- one transition that leaves a plan, and e that leave it empty behind it
with_one : (f n e m : ℕ) (π : Plan) → f ≡ up_to most_finished n → ((k : ℕ) → finished_with f π ≡ up_to most_finished k → m ≡ up_to most_finished (k + e))
    → m ≡ up_to most_finished (n + elim (is_empty π) [ true ↦ suc e | false ↦ e ])
unfolding finished_with
with_one f n e m [] h rest =
    let z : suc n + e ≡ n + suc e = omega arith in
    rest (suc n) (ap (λ k. up_to most_finished (suc k)) h ∙ one_more most_finished n) ∙ ap (up_to most_finished) z
with_one f n e m (a ∷ π) h rest = rest n h

finished : {A : Agent} {s s' : State} {ks : List Choice} (r : Moves A s ks s') (n : ℕ) → s.finished ≡ up_to most_finished n
    → s'.finished ≡ up_to most_finished (n + emptied (chain_of r))
unfolding after emptied chain_of
finished no_more n h = let z : n ≡ n + 0 = omega arith in h ∙ ap (up_to most_finished) z
finished (one_then {s} {s''} {c = c} x l r) n h = with_one s.finished n (emptied (chain_of r)) s''.finished c.π h (finished r)

-- ---- what was done since load

record Walk (b : Bytes) {c : Configuration} (h : Since b c) : Type 0 where
  pub choices : List Choice
  pub made : Made b c h choices
  pub on : OnAccepted b c
  pub moves : Moves (agent b) (start b) choices (state_of c)
  pub handed_out : c ≡ configuration_of (state_of c)

module _ (b : Bytes) where
  -- what was done since load left a configuration that a turn gives back
  keeps : {c : Configuration} {h : Since b c} → Walk b h → Sized b c
  keeps {c} w =
      let card = card_accepted b c w.on in
      subst (Sized b) (sym w.handed_out) (handed_out b (state_of c) (kept_moves b card w.moves (kept_start b card)))

  start_stands : (r : Reply) → Replying (card_answer b) (start b) r → r.answer ≡ Ok tt → StandsFor r.configuration (start b)
  start_stands r (done e) h = record { handed_out = refl; stands_for = configuration_laws.of_state (start b) (known_start b e).fits }
  start_stands r (refused e) h = absurd (done≢refused (sym h))

  out : {c : Configuration} {s : State} → StandsFor c s → c ≡ configuration_of (state_of c)
  out x = x.handed_out ∙ ap configuration_of (sym x.stands_for)

  since_load : (r : Reply) (w : Loads b r) (d : r.answer ≡ Ok tt) → Walk b (loaded r w d)
  since_load r w d =
      let x = start_stands r (loading b r w) d in
      record {
        choices = [];
        made = at_load;
        on = again.load b r w d;
        moves = subst (Moves (agent b) (start b) []) (sym x.stands_for) no_more;
        handed_out = out x;
      }

  module _ {c : Configuration} {h : Since b c} (before : Walk b h) where
    -- a chosen move that is done, whatever it is called by
    module _ (n : ℕ) (r : Reply) (w : Takes b c n r) (d : r.answer ≡ Ok tt) where
      one_move_of : (k : Choice) × ((choice n ≡ some k) × Moves (agent b) (state_of c) (k ∷ []) (state_of r.configuration))
      one_move_of =
          let (k, (c', (m, l))) = (demand_2.taken_exactly b c before.on n r w).0 d in
          let x = demand_2.taken_to b c before.on n r w k c' m l in
          (k, (chosen b c before.on m, subst (Moves (agent b) (state_of c) (k ∷ [])) (sym x.stands_for) (one_then m.transition l no_more)))

      take_out : r.configuration ≡ configuration_of (state_of r.configuration)
      take_out =
          let (k, (c', (m, l))) = (demand_2.taken_exactly b c before.on n r w).0 d in
          out (demand_2.taken_to b c before.on n r w k c' m l)

    since_take : (n : ℕ) (r : Reply) (w : Takes b c n r) (d : r.answer ≡ Ok tt) → Walk b (taken h n r w d)
    since_take n r w d =
        let (k, (e, m)) = one_move_of n r w d in
        record {
          choices = before.choices ++ (k ∷ []);
          made = by_take before.made e;
          on = again.take b c n r w d;
          moves = joined before.moves m;
          handed_out = take_out n r w d;
        }

    since_bounded_take : (n : ℕ) (r : BoundedReply) (w : BoundedTakes b c n r) (d : r.answer ≡ Ok tt) → Walk b (taken_bounded h n r w d)
    since_bounded_take n r w d =
        let (on, t) = take_done b c n r w d in
        let (k, (e, m)) = one_move_of n (as_reply r) t (as_done d) in
        record {
          choices = before.choices ++ (k ∷ []);
          made = by_bounded_take before.made e;
          on = again.take b c n (as_reply r) t (as_done d);
          moves = joined before.moves m;
          handed_out = take_out n (as_reply r) t (as_done d);
        }

    -- a run that is done, whatever it is called by
    record Ranged (r : Ran) : Type 0 where
      pub js : List Choice
      pub own : Guided (agent b) (state_of c) js (state_of r.configuration)
      pub counted : r.count ≡ length js
      pub given : r.configuration ≡ configuration_of (state_of r.configuration)

    ranged : (budget : ℕ) (r : Ran) → Runs b c budget r → Ranged r
    ranged budget r w =
        let (o, (t, told)) = demand_2.own_order b c before.on budget r w in
        record {
          js = t.choices;
          own = subst (Guided (agent b) (state_of c) t.choices) (sym told.reached.stands_for) t.guided;
          counted = told.count ∙ t.counted;
          given = out told.reached;
        }

    since_run : (budget : ℕ) (r : Ran) (w : Runs b c budget r) (d : r.answer ≡ Ok tt) → Walk b (ran h budget r w d)
    since_run budget r w d =
        let g = ranged budget r w in
        record {
          choices = before.choices ++ g.js;
          made = by_run before.made g.own g.counted;
          on = again.run b c budget r w d;
          moves = joined before.moves (guided g.own);
          handed_out = g.given;
        }

    since_bounded_run : (budget : ℕ) (r : BoundedRan) (w : BoundedRuns b c budget r) (d : r.answer ≡ Ok tt) → Walk b (ran_bounded h budget r w d)
    since_bounded_run budget r w d =
        let (on, t) = run_done b c budget r w d in
        let g = ranged budget (as_ran r) t in
        record {
          choices = before.choices ++ g.js;
          made = by_bounded_run before.made g.own g.counted;
          on = again.run b c budget (as_ran r) t (as_done d);
          moves = joined before.moves (guided g.own);
          handed_out = g.given;
        }

    since_deliberation : (p : Bytes) (ns : List ℕ) (budget : ℕ) (lent : Bytes) (r : Deliberated) (w : GoesOn b p ns c budget lent r) (d : r.answer ≡ Ok tt)
        → Walk b (deliberated h p ns budget lent r w d)
    since_deliberation p ns budget lent r w d =
        let t = tells_law b p ns c budget lent (go_on_done b p ns c budget lent r w d) r w in
        record {
          choices = before.choices ++ not_idle t.labels;
          made = by_deliberation before.made t.followed t.counted;
          on = go_on_again b p ns c budget lent r w d;
          moves = joined before.moves (followed t.followed);
          handed_out = out (go_on_stands b p ns c budget lent r w d);
        }

    since_turn : (t : Turn b c) → Walk b (turned h t)
    since_turn t =
        let same = sym (same_held b c t (keeps before)) in
        record {
          choices = before.choices;
          made = by_turn {t = t} before.made;
          on = subst (OnAccepted b) same before.on;
          moves = subst (λ (x : Configuration). Moves (agent b) (start b) before.choices (state_of x)) same before.moves;
          handed_out = subst (λ (x : Configuration). x ≡ configuration_of (state_of x)) same before.handed_out;
        }

walk : {b : Bytes} {c : Configuration} (h : Since b c) → Walk b h
walk {b} (loaded r w d) = since_load b r w d
walk {b} (taken h n r w d) = since_take b (walk h) n r w d
walk {b} (ran h budget r w d) = since_run b (walk h) budget r w d
walk {b} (taken_bounded h n r w d) = since_bounded_take b (walk h) n r w d
walk {b} (ran_bounded h budget r w d) = since_bounded_run b (walk h) budget r w d
walk {b} (deliberated h p ns budget lent r w d) = since_deliberation b (walk h) p ns budget lent r w d
walk {b} (turned h t) = since_turn b (walk h) t

pub since : SinceLoad
unfolding state_of start
since b c h =
    let w = walk h in
    let e : emptied (chain_of w.moves) ≡ 0 + emptied (chain_of w.moves) = sym (zero-add (emptied (chain_of w.moves))) in
    record {
      choices = w.choices;
      made = w.made;
      chain = chain_of w.moves;
      counted = finished w.moves 0 (sym (up_to_lem most_finished 0 (omega arith))) ∙ ap (up_to most_finished) (sym e);
    }
