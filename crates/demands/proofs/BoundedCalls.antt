-- A chosen move and a run for bounded cards: as take and run, 22 exactly, and what is reached is such a configuration again.
use mathlib.Core.Path.{◌≡◌, refl, ap, ◌∙◌, sym, subst}
use mathlib.Core.Logic.{◌↔◌}
use mathlib.Core.Bool.{Bool, true, false}
use mathlib.Core.List.{List, [], ◌∷◌, ◌++◌, Memᴰ}
use Prim.Native.Nat.{ℕ, ◌≤◌}
use Rattle.paper.specs.Language.{Agent, Config}
use Rattle.paper.specs.Transitions.{Choice, Step}
use Rattle.runs.specs.declared.Verdict.{Verdict}
use Rattle.runs.specs.Order.{State}
use Rattle.runs.specs.Step.{after}
use Rattle.runs.specs.Limits.{heaviest_plan}
use Rattle.runs.specs.Run.{Chain, stay, ◌then◌}
use Rattle.runs.specs.Weight.{weigh}
use Rattle.meaning.specs.declared.Refusal.{Refusal}
use Rattle.meaning.specs.Answers.{Answer, BoundedAnswer}
use Rattle.std.specs.Prelude.{Ok, Err}
use Rattle.meaning.specs.declared.Configuration.{Configuration}
use Rattle.meaning.specs.declared.Reply.{Reply}
use Rattle.meaning.specs.declared.Graded.{Graded}
use Rattle.meaning.specs.declared.Ran.{Ran}
use Rattle.meaning.specs.declared.BoundedRefusal.{BoundedRefusal}
use Rattle.meaning.specs.declared.BoundedReply.{BoundedReply}
use Rattle.meaning.specs.declared.BoundedRan.{BoundedRan}
use Rattle.meaning.specs.Card.{Bytes, weight, agent, start}
use Rattle.meaning.specs.Configurations.{state_of, configuration_of}
use Rattle.meaning.specs.Refusals.{number_of, answer_number, first_given, card_answer, configuration_answer}
use Rattle.meaning.specs.Calls.{reply, takes, runs}
use Rattle.meaning.specs.BoundedCalls.{as_refusal, as_answer, as_reply, as_ran, bounded_good, bounded_table, bounded_answer, bounded_takes}
use Rattle.meaning.proofs.Calls.{grades_refused}
use Rattle.meaning.proofs.Configurations.{configuration_laws}
use Rattle.meaning.proofs.Tables.{done≢refused, table_order}
use Rattle.meaning.proofs.BoundedCalls.{as_answer_one, bounded_refused, bounded_heavy, bounded_good_lem, bounded_takes_done, bounded_takes_refused, bounded_runs_done, bounded_runs_refused}
use Rattle.demands.specs.CallContracts.{Loads, Grades, Takes, Runs, BoundedTakes, BoundedRuns}
use Rattle.demands.specs.Demands.{done_or_card, OnAccepted}
use Rattle.demands.specs.TurnedScreen.{refused_run}
use Rattle.demands.specs.BoundedCalls.{OnBounded, OpenOrHeavy, Day, begins, moves, goes, saved, turned, BoundedCalls}
use Rattle.demands.proofs.AcceptedAgain.{again}
use Rattle.demands.proofs.Among.{wider, outside, and_then_among, listed, configuration_among}
use Rattle.demands.proofs.Bounding.{refused_never, bounded, law}
use Rattle.demands.proofs.BoundedWords.{take_has_answer, run_has_answer}
use Rattle.demands.proofs.Codes.{card_accepted}
use Rattle.demands.proofs.Demands.{demand_2}
use Rattle.demands.proofs.Keeping.{kept_start, taken_sized, ran_sized}
use Rattle.demands.proofs.Known.{known_start}
use Rattle.demands.proofs.OnBounded.{bounded_accepts, open_or_heavy, not_good, bounded_again}
use Rattle.demands.proofs.Refusing.{taken_among, ran_among, taken_refused, ran_refused}
use Rattle.demands.proofs.Saving.{Sized, sized, handed_out}
use Rattle.demands.proofs.Turning.{same_held}
use Rattle.demands.proofs.Ways.{Replying, refused, done, loading, grading, taking, running}
use Rattle.demands.proofs.Weaving.{saved_back}

-- ---- the numbers, and what a refusal hands back

bounded_among : (b : Bytes) (c : Configuration) → Memᴰ (answer_number (bounded_answer b c)) (done_or_card ++ (13 ∷ 22 ∷ []))
unfolding bounded_answer done_or_card
bounded_among b c =
    and_then_among (configuration_answer b c) (first_given (bounded_table b) c) _ (wider (done_or_card ++ (13 ∷ [])) _ refl (configuration_among b c))
    (wider _ _ refl (listed (bounded_table b) c _ (table_order.bounded b c)))

-- what the calls have words for: 11 is not among them
pub word_among : (a : BoundedAnswer) → Memᴰ (answer_number (as_answer a)) (done_or_card ++ (13 ∷ 22 ∷ 14 ∷ 15 ∷ 16 ∷ []))
unfolding done_or_card answer_number number_of as_answer as_refusal
word_among (Ok _) = wider (0 ∷ []) _ refl (Memᴰ.head refl)
word_among (Err BoundedRefusal.Short) = wider (1 ∷ []) _ refl (Memᴰ.head refl)
word_among (Err BoundedRefusal.Mark) = wider (2 ∷ []) _ refl (Memᴰ.head refl)
word_among (Err BoundedRefusal.Count) = wider (3 ∷ []) _ refl (Memᴰ.head refl)
word_among (Err BoundedRefusal.Offsets) = wider (4 ∷ []) _ refl (Memᴰ.head refl)
word_among (Err BoundedRefusal.Weight) = wider (5 ∷ []) _ refl (Memᴰ.head refl)
word_among (Err BoundedRefusal.Node) = wider (6 ∷ []) _ refl (Memᴰ.head refl)
word_among (Err BoundedRefusal.Rule) = wider (7 ∷ []) _ refl (Memᴰ.head refl)
word_among (Err BoundedRefusal.ActionByte) = wider (8 ∷ []) _ refl (Memᴰ.head refl)
word_among (Err BoundedRefusal.Atom) = wider (9 ∷ []) _ refl (Memᴰ.head refl)
word_among (Err BoundedRefusal.Configuration) = wider (13 ∷ []) _ refl (Memᴰ.head refl)
word_among (Err BoundedRefusal.OpenOrHeavy) = wider (22 ∷ []) _ refl (Memᴰ.head refl)
word_among (Err BoundedRefusal.NoRule) = wider (14 ∷ []) _ refl (Memᴰ.head refl)
word_among (Err BoundedRefusal.Front) = wider (15 ∷ []) _ refl (Memᴰ.head refl)
word_among (Err (BoundedRefusal.Condition n)) = wider (16 ∷ []) _ refl (Memᴰ.head refl)

at_number : {a a' : Answer} (ns : List ℕ) → a ≡ a' → Memᴰ (answer_number a) ns → Memᴰ (answer_number a') ns
at_number ns e m = rw e at m

-- 22 is no number of a card, of a configuration, of take or of run
not_of_take : (b : Bytes) (c : Configuration) (n : ℕ) → (takes b c n).answer ≡ Err Refusal.OpenOrHeavy → ⊥
unfolding done_or_card answer_number number_of
not_of_take b c n e = outside (done_or_card ++ (13 ∷ 14 ∷ 15 ∷ 16 ∷ 11 ∷ [])) 22 refl (rw e at (taken_among b c n (takes b c n) (taking b c n (takes b c n) refl)))

not_of_run : (b : Bytes) (c : Configuration) (budget : ℕ) → (runs b c budget).answer ≡ Err Refusal.OpenOrHeavy → ⊥
unfolding done_or_card answer_number number_of
not_of_run b c budget e = outside (done_or_card ++ (13 ∷ [])) 22 refl (rw e at (ran_among b c budget (runs b c budget) (running b c budget (runs b c budget) refl)))

not_of_configuration : (b : Bytes) (c : Configuration) → configuration_answer b c ≡ Err Refusal.OpenOrHeavy → ⊥
unfolding done_or_card answer_number number_of
not_of_configuration b c e = outside (done_or_card ++ (13 ∷ [])) 22 refl (rw e at (configuration_among b c))

-- a word that is 22 in the table is 22
word_22 : {a : BoundedAnswer} → as_answer a ≡ Err Refusal.OpenOrHeavy → a ≡ Err BoundedRefusal.OpenOrHeavy
unfolding as_answer as_refusal
word_22 e = as_answer_one e

as_22 : {a : BoundedAnswer} → a ≡ Err BoundedRefusal.OpenOrHeavy → as_answer a ≡ Err Refusal.OpenOrHeavy
unfolding as_answer as_refusal
as_22 e = ap as_answer e

as_refused : {a : BoundedAnswer} {q : BoundedRefusal} → a ≡ Err q → as_answer a ≡ Err (as_refusal q)
unfolding as_answer
as_refused e = ap as_answer e

module _ (b : Bytes) (c : Configuration) where
  -- what both calls answer where 22 is to be given
  refused_22 : OnAccepted b c → OpenOrHeavy b c → bounded_answer b c ≡ Err Refusal.OpenOrHeavy
  refused_22 on h = bounded_heavy b c on (not_good b c on h)

  -- and back: where the card and the configuration are not refused before
  why_22 : bounded_answer b c ≡ Err Refusal.OpenOrHeavy → OnAccepted b c × OpenOrHeavy b c
  why_22 e = go (configuration_answer b c) refl
    where
      good : OnAccepted b c → (t : Bool) → bounded_good b c ≡ t → OnAccepted b c × OpenOrHeavy b c
      good on true h = absurd (done≢refused (sym (bounded_good_lem b c on h) ∙ e))
      good on false h = (on, open_or_heavy b c on h)

      go : (a : Answer) → configuration_answer b c ≡ a → OnAccepted b c × OpenOrHeavy b c
      go (Ok _) h = good h (bounded_good b c) refl
      go (Err q) h = absurd (not_of_configuration b c (h ∙ (sym (bounded_refused b c q h) ∙ e)))

  module _ (n : ℕ) (r : BoundedReply) (w : BoundedTakes b c n r) where
    take_answer : as_answer r.answer ≡ (bounded_takes b c n).answer
    take_answer = ap (λ (x : Reply). x.answer) w

    take_refused : (q : Refusal) → bounded_answer b c ≡ Err q → as_reply r ≡ reply (Err q) c
    take_refused q h = w ∙ bounded_takes_refused b c n q h

    take_22 : as_answer r.answer ≡ Err Refusal.OpenOrHeavy → bounded_answer b c ≡ Err Refusal.OpenOrHeavy
    take_22 e = go (bounded_answer b c) refl
      where
        go : (a : Answer) → bounded_answer b c ≡ a → bounded_answer b c ≡ Err Refusal.OpenOrHeavy
        go (Ok _) h = absurd (not_of_take b c n (sym (ap (λ (x : Reply). x.answer) (w ∙ bounded_takes_done b c n h)) ∙ e))
        go (Err q) h = h ∙ (sym (ap (λ (x : Reply). x.answer) (take_refused q h)) ∙ e)

    take_refused_exactly : (r.answer ≡ Err BoundedRefusal.OpenOrHeavy) ↔ (OnAccepted b c × OpenOrHeavy b c)
    take_refused_exactly = (
      λ e. why_22 (take_22 (as_22 e)),
      λ h. word_22 (ap (λ (x : Reply). x.answer) (take_refused Refusal.OpenOrHeavy (refused_22 h.0 h.1))),
    )

    pub take_hands_back : (q : BoundedRefusal) → r.answer ≡ Err q → r.configuration ≡ c
    take_hands_back q e = go (bounded_answer b c) refl
      where
        go : (a : Answer) → bounded_answer b c ≡ a → r.configuration ≡ c
        go (Ok _) h = let z = w ∙ bounded_takes_done b c n h in taken_refused b c n (as_reply r) (taking b c n (as_reply r) z) (as_refusal q) (as_refused e)
        go (Err x) h = ap (λ (y : Reply). y.configuration) (take_refused x h)

  module _ (budget : ℕ) (r : BoundedRan) (w : BoundedRuns b c budget r) where
    run_refused : (q : Refusal) → bounded_answer b c ≡ Err q → as_ran r ≡ refused_run q c
    run_refused q h = w ∙ bounded_runs_refused b c budget q h

    run_22 : as_answer r.answer ≡ Err Refusal.OpenOrHeavy → bounded_answer b c ≡ Err Refusal.OpenOrHeavy
    run_22 e = go (bounded_answer b c) refl
      where
        go : (a : Answer) → bounded_answer b c ≡ a → bounded_answer b c ≡ Err Refusal.OpenOrHeavy
        go (Ok _) h = absurd (not_of_run b c budget (sym (ap (λ (x : Ran). x.answer) (w ∙ bounded_runs_done b c budget h)) ∙ e))
        go (Err q) h = h ∙ (sym (ap (λ (x : Ran). x.answer) (run_refused q h)) ∙ e)

    run_refused_exactly : (r.answer ≡ Err BoundedRefusal.OpenOrHeavy) ↔ (OnAccepted b c × OpenOrHeavy b c)
    run_refused_exactly = (
      λ e. why_22 (run_22 (as_22 e)),
      λ h. word_22 (ap (λ (x : Ran). x.answer) (run_refused Refusal.OpenOrHeavy (refused_22 h.0 h.1))),
    )

    pub run_listed : Memᴰ (answer_number (as_answer r.answer)) (done_or_card ++ (13 ∷ 22 ∷ []))
    unfolding done_or_card
    run_listed = go (bounded_answer b c) refl
      where
        go : (a : Answer) → bounded_answer b c ≡ a → Memᴰ (answer_number (as_answer r.answer)) (done_or_card ++ (13 ∷ 22 ∷ []))
        go (Ok _) h = let z = w ∙ bounded_runs_done b c budget h in wider (done_or_card ++ (13 ∷ [])) _ refl (ran_among b c budget (as_ran r) (running b c budget (as_ran r) z))
        go (Err q) h = at_number _ (h ∙ sym (ap (λ (x : Ran). x.answer) (run_refused q h))) (bounded_among b c)

    pub run_hands_back : (q : BoundedRefusal) → r.answer ≡ Err q → (r.configuration ≡ c) × (r.count ≡ 0)
    run_hands_back q e = go (bounded_answer b c) refl
      where
        go : (a : Answer) → bounded_answer b c ≡ a → (r.configuration ≡ c) × (r.count ≡ 0)
        go (Ok _) h = let z = w ∙ bounded_runs_done b c budget h in ran_refused b c budget (as_ran r) (running b c budget (as_ran r) z) (as_refusal q) (as_refused e)
        go (Err x) h = (ap (λ (y : Ran). y.configuration) (run_refused x h), ap (λ (y : Ran). y.count) (run_refused x h))

-- ---- what is reached

-- one transition is a chain
after_one : (A : Agent) (s : State) {k : Choice} {c : Config} → Step A s.mental k c → Chain A s.mental (k ∷ []) (after s k c).mental
unfolding after
after_one A s x = ◌then◌ x stay

module _ (b : Bytes) (c : Configuration) (on : OnBounded b c) where
  take_as_take : (n : ℕ) (r : BoundedReply) → BoundedTakes b c n r → as_reply r ≡ takes b c n
  take_as_take n r w = w ∙ bounded_takes_done b c n (bounded_accepts b c on)

  run_as_run : (budget : ℕ) (r : BoundedRan) → BoundedRuns b c budget r → as_ran r ≡ runs b c budget
  run_as_run budget r w = w ∙ bounded_runs_done b c budget (bounded_accepts b c on)

  taken_again : (n : ℕ) (r : Reply) → Takes b c n r → OnBounded b r.configuration
  taken_again n r w = go r.answer refl
    where
      go : (a : Answer) → r.answer ≡ a → OnBounded b r.configuration
      go (Ok _) d =
          let (k, (c', (m, l))) = (demand_2.taken_exactly b c on.accepted n r w).0 d in
          let x = demand_2.taken_to b c on.accepted n r w k c' m l in
          bounded_again b c r.configuration on (again.take b c n r w d)
          (subst (λ (s : State). Chain (agent b) (state_of c).mental (k ∷ []) s.mental) (sym x.stands_for) (after_one (agent b) (state_of c) m.transition))
      go (Err q) d = subst (OnBounded b) (sym (taken_refused b c n r (taking b c n r w) q d)) on

  ran_again : (budget : ℕ) (r : Ran) → Runs b c budget r → OnBounded b r.configuration
  ran_again budget r w =
      let (o, (t, told)) = demand_2.own_order b c on.accepted budget r w in
      bounded_again b c r.configuration on (again.run b c budget r w told.done)
      (subst (λ (s : State). Chain (agent b) (state_of c).mental t.choices s.mental) (sym told.reached.stands_for) t.chain)

  take_again : (n : ℕ) (r : BoundedReply) → BoundedTakes b c n r → OnBounded b r.configuration
  take_again n r w = taken_again n (as_reply r) (take_as_take n r w)

  pub run_again : (budget : ℕ) (r : BoundedRan) → BoundedRuns b c budget r → OnBounded b r.configuration
  run_again budget r w = ran_again budget (as_ran r) (run_as_run budget r w)

-- load of a card that grade calls bounded
load_on : (b : Bytes) (g : Graded) (e : Grades b g) (v : g.verdict ≡ Verdict.Bounded) (r : Reply) → Loads b r → Replying (card_answer b) (start b) r → OnBounded b r.configuration
unfolding start
load_on b g e v r w (done h) =
    let s : state_of (configuration_of (start b)) ≡ start b = configuration_laws.of_state (start b) (known_start b h).fits in
    let l = ((law b g e v).exactly.0 (bounded b g e v)).start in
    record {
      accepted = again.load b r w refl;
      bounded = λ g' e'. ap (λ (x : Graded). x.verdict) (e' ∙ sym e) ∙ v;
      light = subst (λ (x : State). weigh (weight b) x.mental.π ≤ heaviest_plan) (sym s) l;
    }
load_on b g e v r w (refused h) = absurd (refused_never b g (grading b g e) _ (ap (λ (x : Graded). x.answer) (e ∙ grades_refused b _ h)) v)

load_sized : (b : Bytes) (r : Reply) → Replying (card_answer b) (start b) r → OnBounded b r.configuration → Sized b r.configuration
load_sized b r (done h) on = handed_out b _ (kept_start b h)
load_sized b r (refused h) on = absurd (done≢refused (sym (card_accepted b _ on.accepted) ∙ h))

-- ---- a weaver's day

module _ (b : Bytes) where
  -- where a weaver stands: 22 is not given, and a turn gives the configuration back
  record Stands (c : Configuration) : Type 0 where
    on : OnBounded b c
    keeps : Sized b c

  loaded : (r : Reply) → Loads b r → (g : Graded) → Grades b g → g.verdict ≡ Verdict.Bounded → Stands r.configuration
  loaded r w g e v =
      let on = load_on b g e v r w (loading b r w) in
      record { on = on; keeps = load_sized b r (loading b r w) on }

  moved : {c : Configuration} → Stands c → (n : ℕ) (r : BoundedReply) → BoundedTakes b c n r → Stands r.configuration
  moved {c} s n r w =
      let z = take_as_take b c s.on n r w in
      record { on = take_again b c s.on n r w; keeps = taken_sized b c n (as_reply r) (taking b c n (as_reply r) z) s.keeps }

  gone : {c : Configuration} → Stands c → (budget : ℕ) (r : BoundedRan) → BoundedRuns b c budget r → Stands r.configuration
  gone {c} s budget r w =
      let z = run_as_run b c s.on budget r w in
      record { on = run_again b c s.on budget r w; keeps = ran_sized b c budget (as_ran r) (running b c budget (as_ran r) z) s.keeps }

  stands : {c : Configuration} → Day b c → Stands c
  stands (begins r w g e v) = loaded r w g e v
  stands (moves d n r w) = moved (stands d) n r w
  stands (goes d budget r w) = gone (stands d) budget r w
  stands (saved {c} d out left r w) = subst Stands (sym (saved_back b c out left r w)) (stands d)
  stands (turned {c} d t) = subst Stands (sym (same_held b c t (stands d).keeps)) (stands d)

pub bounded_calls : BoundedCalls
bounded_calls = record {
  take_as_take = λ b c on n r w old v. take_as_take b c on n r w ∙ sym v;
  run_as_run = λ b c on budget r w old v. run_as_run b c on budget r w ∙ sym v;
  take_has_answer = take_has_answer;
  run_has_answer = run_has_answer;
  take_refused_exactly = take_refused_exactly;
  run_refused_exactly = run_refused_exactly;
  before_22 = λ b c q e. (λ n r w. take_refused b c n r w q (bounded_refused b c q e), λ budget r w. run_refused b c budget r w q (bounded_refused b c q e));
  by_22 = λ b c on h. (λ n r w. take_refused b c n r w _ (refused_22 b c on h), λ budget r w. run_refused b c budget r w _ (refused_22 b c on h));
  take_again = take_again;
  run_again = run_again;
  load_again = λ b r w g e v. load_on b g e v r w (loading b r w);
  turn_again = λ b c shaped on t. subst (OnBounded b) (sym (same_held b c t (sized b c shaped))) on;
  never_22 = λ b c d. (stands b d).on;
}
