-- A deliberation makes the first move of what remains, again and again, counts them, and ends for the reason that it gives.
use mathlib.Core.Path.{◌≡◌, refl, ap, ◌∙◌, sym, subst}
use mathlib.Core.Bool.{Bool, true}
use mathlib.Core.List.{List, [], ◌∷◌, ◌++◌}
use mathlib.Core.Option.{Option, none, some}
use Prim.Native.Nat.{ℕ, zero, suc, ◌+◌, ◌≤◌, ◌<◌}
use native.Mathlib.Nat.{zero-add}
use native.Mathlib.Omega.{arith}
use lib.ListN.{length}
use Rattle.paper.specs.Language.{𝐁, Query, Agent}
use Rattle.paper.specs.Transitions.{Choice}
use Rattle.runs.specs.Order.{State}
use Rattle.runs.specs.Step.{after, Reached, nothing, full, to, step}
use Rattle.runs.proofs.Step.{StepsTo, none_there, too_long, taken, steps_to}
use Rattle.meaning.specs.declared.Layout.{Layout}
use Rattle.meaning.specs.declared.Node.{Node}
use Rattle.meaning.specs.Card.{Bytes}
use Rattle.deliberation.specs.declared.DeliberationEnding.{DeliberationEnding}
use Rattle.deliberation.specs.Programs.{Prog, Rest, E, still}
use Rattle.deliberation.specs.MetaTransitions.{Label, idle, taking, MetaStep}
use Rattle.deliberation.specs.FirstMove.{Move, first_move}
use Rattle.deliberation.specs.Entries.{entry_count, entries_of, program_good, standing, first_move_of}
use Rattle.deliberation.specs.Deliberate.{MoveResult, stuck, on, leads, move_result, Outcome, ended, one_more, deliberate, deliberation_ending_number}
use Rattle.deliberation.specs.Deliberate as Deliberate
use Rattle.deliberation.specs.Theorems.{NoTransition, parts, parts_of, Goes, stays, goes, Followed, no_move, one_move, FollowedNumbers, as_they_are, next_moves, Overflows, EndsExactly, counted, DeliberationStops}
use Rattle.deliberation.specs.Stacked.{Stacked, put}
use Rattle.deliberation.proofs.Room.{move_within}
use Rattle.deliberation.proofs.First.{is_one, none_exactly}
use Rattle.deliberation.proofs.Parts.{mapped, mapped_none, mapped_some, no_parts, still_inj, still≢E}
use Rattle.deliberation.proofs.Standing.{stood, some_stood, numbers_same}
use Rattle.deliberation.proofs.Followed.{object}

-- ---- the equations of a move and of a run

module _ (A : Agent) (s : State) (k : Choice) (ns : List ℕ) where
  pub leads_nothing : step A s k ≡ nothing → leads A s (taking k) ns ≡ stuck
  unfolding leads
  leads_nothing e = rw (e, leads)

  pub leads_full : step A s k ≡ full → leads A s (taking k) ns ≡ Deliberate.too_long
  unfolding leads
  leads_full e = rw (e, leads)

  pub leads_to_lem : (s' : State) → step A s k ≡ to k s' → leads A s (taking k) ns ≡ on ns s'
  unfolding leads
  leads_to_lem s' e = rw (e, leads)

module _ (A : Agent) (βs : List (Query 𝐁)) (es : List Node) (b n : ℕ) (ns : List ℕ) (s : State) where
  abbrev what_comes : MoveResult
  what_comes = move_result A s (first_move_of A βs s.mental es n) ns

  pub run_stuck : what_comes ≡ stuck → deliberate A βs es (suc b) (n ∷ ns) s ≡ ended DeliberationEnding.Stuck (n ∷ ns) s
  unfolding deliberate
  run_stuck e = rw (e, deliberate)

  pub run_full : what_comes ≡ Deliberate.too_long → deliberate A βs es (suc b) (n ∷ ns) s ≡ ended DeliberationEnding.Full (n ∷ ns) s
  unfolding deliberate
  run_full e = rw (e, deliberate)

  pub run_on : (ns' : List ℕ) (s' : State) → what_comes ≡ on ns' s' → deliberate A βs es (suc b) (n ∷ ns) s ≡ one_more (deliberate A βs es b ns' s')
  unfolding deliberate
  run_on ns' s' e = rw (e, deliberate)

-- ---- what a move comes to

module _ (gs : List Bool) (l : Layout) (p : Bytes) (good : program_good gs l p ≡ true) (A : Agent) (βs : List (Query 𝐁)) (j : ℕ) (known : j ≤ entry_count p) where
  -- what the first move of a program comes to, and of the numbers that stand for it, n and those behind it
  pub data Comes (P : Prog) (n : ℕ) (behind : List ℕ) (s : State) : MoveResult → Type 0 where
    no_move_there : NoTransition A P s.mental → Comes P n behind s stuck
    does_not_fit : Overflows A s P → Comes P n behind s Deliberate.too_long
    goes_on : (m : Move Rest) (k : Move (List ℕ)) (s' : State) → first_move A s.mental P ≡ some m
        → first_move_of A βs s.mental (entries_of p) n ≡ some k → m.label ≡ k.label → Goes A s m.label s'
        → parts_of m.remaining ≡ stood βs (entries_of p) (k.remaining ++ behind) → Stacked j (k.remaining ++ behind)
        → Comes P n behind s (on (k.remaining ++ behind) s')

  module _ (P : Prog) (n : ℕ) (behind : List ℕ) (s : State) (m : Move Rest) (f : first_move A s.mental P ≡ some m) (k : Move (List ℕ))
      (g : first_move_of A βs s.mental (entries_of p) n ≡ some k) (same : m.label ≡ k.label)
      (q : parts_of m.remaining ≡ stood βs (entries_of p) (k.remaining ++ behind)) (room : Stacked j (k.remaining ++ behind)) where
    abbrev ns : List ℕ
    ns = k.remaining ++ behind

    pub by_step : (c : Choice) → m.label ≡ taking c → {r : Reached} → step A s c ≡ r → StepsTo A s c r → Comes P n behind s (leads A s (taking c) ns)
    by_step c x e (none_there h) =
        let (d, t) = is_one A s.mental P m f in
        absurd (h d (object (subst (λ y. MetaStep A P s.mental y m.remaining d) x t)))
    by_step c x e (too_long d t h) =
        rw (leads_full A s c ns e)
        (does_not_fit (record { move = m; first = f; choice = c; takes = x; reached = d; leads = t; long = h }))
    by_step c x e (taken d t h) =
        rw (leads_to_lem A s c ns (after s c d) e)
        (goes_on m k (after s c d) f g same (subst (λ y. Goes A s y (after s c d)) (sym x) (goes t h)) q room)

    pub by_label : (x : Label) → m.label ≡ x → Comes P n behind s (leads A s x ns)
    unfolding leads
    by_label idle e = goes_on m k s f g same (subst (λ y. Goes A s y s) (sym e) stays) q room
    by_label (taking c) e = by_step c e refl (steps_to A s c)

  first_known : {n : ℕ} {ns : List ℕ} → Stacked j (n ∷ ns) → n < entry_count p
  first_known (put _ _ h t) = omega arith

  comes : (P : Prog) (n : ℕ) (ns : List ℕ) (s : State) → Stacked j (n ∷ ns) → parts P ≡ stood βs (entries_of p) (n ∷ ns)
      → Comes P n ns s (move_result A s (first_move_of A βs s.mental (entries_of p) n) ns)
  comes P n ns s t e =
      go (first_move_of A βs s.mental (entries_of p) n) refl (numbers_same gs l p good A βs s.mental P n ns (first_known t) e)
    where
      go : (o : Option (Move (List ℕ))) → first_move_of A βs s.mental (entries_of p) n ≡ o
          → mapped parts_of (first_move A s.mental P) ≡ mapped (λ ms. stood βs (entries_of p) (ms ++ ns)) o → Comes P n ns s (move_result A s o ns)
      go none r q = no_move_there ((none_exactly A s.mental P).0 (mapped_none parts_of (first_move A s.mental P) q))
      go (some m) r q =
          let (m', (f, (x, w))) = mapped_some parts_of (first_move A s.mental P) _ q in
          by_label P n ns s m' f m r x w (move_within A βs s.mental gs l p good j n ns m known t r) m.label x

-- ---- why a deliberation ends

pub data Because (A : Agent) (budget n : ℕ) : Rest → State → DeliberationEnding → Type 0 where
  is_spent : {R : Rest} {s : State} → n ≡ budget → Because A budget n R s DeliberationEnding.Spent
  is_finished : {s : State} → n < budget → Because A budget n E s DeliberationEnding.Finished
  is_stuck : {P : Prog} {s : State} → n < budget → NoTransition A P s.mental → Because A budget n (still P) s DeliberationEnding.Stuck
  is_full : {P : Prog} {s : State} → n < budget → Overflows A s P → Because A budget n (still P) s DeliberationEnding.Full

one_later : {A : Agent} {b n : ℕ} {R : Rest} {s : State} {e : DeliberationEnding} → Because A b n R s e → Because A (suc b) (suc n) R s e
one_later (is_spent h) = is_spent (ap suc h)
one_later (is_finished h) = is_finished (omega arith)
one_later (is_stuck h x) = is_stuck (omega arith) x
one_later (is_full h x) = is_full (omega arith) x

-- two endings with two numbers are two
two : {e e' : DeliberationEnding} → (deliberation_ending_number e ≡ deliberation_ending_number e' → ⊥) → e ≡ e' → ⊥
two h e = h (ap deliberation_ending_number e)

moves_on : {A : Agent} {s : State} {P Q : Prog} → still P ≡ still Q → Overflows A s P → NoTransition A Q s.mental → ⊥
moves_on {A} {s} {P} e o h =
    let (c, t) = is_one A s.mental P o.move o.first in
    subst (λ Q. NoTransition A Q s.mental → ⊥) (still_inj e) (λ h. h _ _ c t) h

pub ends_exactly : {A : Agent} {b n : ℕ} {R : Rest} {s : State} {e : DeliberationEnding} → Because A b n R s e → EndsExactly A b n R s e
unfolding deliberation_ending_number
ends_exactly (is_spent h) =
    record {
      spent = (λ e. h, λ e. refl);
      finished = (λ e. absurd (two (λ z. omega arith) e), λ w. absurd (let k = w.0 in omega arith));
      stuck = (λ e. absurd (two (λ z. omega arith) e), λ w. absurd (let k = w.0 in omega arith));
      full = (λ e. absurd (two (λ z. omega arith) e), λ w. absurd (let k = w.0 in omega arith));
    }
ends_exactly (is_finished h) =
    record {
      spent = (λ e. absurd (two (λ z. omega arith) e), λ k. absurd (omega arith));
      finished = (λ e. (h, refl), λ w. refl);
      stuck = (λ e. absurd (two (λ z. omega arith) e), λ w. absurd (still≢E (sym w.1.1.0)));
      full = (λ e. absurd (two (λ z. omega arith) e), λ w. absurd (still≢E (sym w.1.1.0)));
    }
ends_exactly (is_stuck {P = P} h x) =
    record {
      spent = (λ e. absurd (two (λ z. omega arith) e), λ k. absurd (omega arith));
      finished = (λ e. absurd (two (λ z. omega arith) e), λ w. absurd (still≢E w.1));
      stuck = (λ e. (h, (P, (refl, x))), λ w. refl);
      full = (λ e. absurd (two (λ z. omega arith) e), λ w. absurd (moves_on (sym w.1.1.0) w.1.1.1 x));
    }
ends_exactly (is_full {P = P} h x) =
    record {
      spent = (λ e. absurd (two (λ z. omega arith) e), λ k. absurd (omega arith));
      finished = (λ e. absurd (two (λ z. omega arith) e), λ w. absurd (still≢E w.1));
      stuck = (λ e. absurd (two (λ z. omega arith) e), λ w. absurd (moves_on w.1.1.0 x w.1.1.1));
      full = (λ e. (h, (P, (refl, x))), λ w. refl);
    }

-- ---- the run

module _ (gs : List Bool) (l : Layout) (p : Bytes) (good : program_good gs l p ≡ true) (A : Agent) (βs : List (Query 𝐁)) (k : ℕ) (known : k ≤ entry_count p) where
  pub record Walked (b : ℕ) (R : Rest) (ns : List ℕ) (s : State) (o : Outcome) : Type 0 where
    pub labels : List Label
    pub rest : Rest
    pub followed : Followed A R s labels rest o.state
    pub stands : parts_of rest ≡ stood βs (entries_of p) o.remaining
    pub numbered : FollowedNumbers A (λ c n. first_move_of A βs c (entries_of p) n) ns s labels o.remaining o.state
    pub counted : o.count ≡ length labels
    pub stacked : Stacked k o.remaining
    pub because : Because A b o.count rest o.state o.ending

  ends-here : (b : ℕ) (e : DeliberationEnding) (R : Rest) (ns : List ℕ) (s : State) → parts_of R ≡ stood βs (entries_of p) ns → Stacked k ns
      → Because A b 0 R s e → Walked b R ns s (ended e ns s)
  ends-here b e R ns s q t w = record { labels = []; rest = R; followed = no_move; stands = q; numbered = as_they_are; counted = refl; stacked = t; because = w }

  nothing_stood : (P : Prog) → parts P ≡ stood βs (entries_of p) [] → ⊥
  unfolding standing
  nothing_stood P e = still≢E (no_parts (still P) e)

  pub walked : (b : ℕ) (R : Rest) (ns : List ℕ) (s : State) → parts_of R ≡ stood βs (entries_of p) ns → Stacked k ns
      → Walked b R ns s (deliberate A βs (entries_of p) b ns s)
  unfolding deliberate
  walked zero R ns s q t = ends-here zero DeliberationEnding.Spent R ns s q t (is_spent refl)
  walked (suc b) E [] s q t = ends-here (suc b) DeliberationEnding.Finished E [] s q t (is_finished (omega arith))
  walked (suc b) E (n ∷ ns) s q t = absurd (some_stood βs (entries_of p) n ns q)
  walked (suc b) (still P) [] s q t = absurd (nothing_stood P q)
  walked (suc b) (still P) (n ∷ ns) s q t = go refl (comes gs l p good A βs k known P n ns s t q) (walked b)
    where
      go : {c : MoveResult} → move_result A s (first_move_of A βs s.mental (entries_of p) n) ns ≡ c → Comes gs l p good A βs k known P n ns s c
          → ((R : Rest) (ns : List ℕ) (s : State) → parts_of R ≡ stood βs (entries_of p) ns → Stacked k ns → Walked b R ns s (deliberate A βs (entries_of p) b ns s))
          → Walked (suc b) (still P) (n ∷ ns) s (deliberate A βs (entries_of p) (suc b) (n ∷ ns) s)
      go e (no_move_there h) ih =
          rw (run_stuck A βs (entries_of p) b n ns s e) (ends-here (suc b) DeliberationEnding.Stuck (still P) (n ∷ ns) s q t (is_stuck (omega arith) h))
      go e (does_not_fit h) ih =
          rw (run_full A βs (entries_of p) b n ns s e) (ends-here (suc b) DeliberationEnding.Full (still P) (n ∷ ns) s q t (is_full (omega arith) h))
      go e (goes_on m i s' f u x g w room) ih =
          let ms = i.remaining ++ ns in
          let o = deliberate A βs (entries_of p) b ms s' in
          let r = ih m.remaining ms s' w room in
          rw (run_on A βs (entries_of p) b n ns s ms s' e)
          (record {
            labels = m.label ∷ r.labels;
            rest = r.rest;
            followed = one_move f g r.followed;
            stands = r.stands;
            numbered =
                subst (λ y. FollowedNumbers A (λ c n. first_move_of A βs c (entries_of p) n) (n ∷ ns) s (y ∷ r.labels) o.remaining o.state) (sym x)
                (next_moves u (subst (λ y. Goes A s y s') x g) r.numbered);
            counted = ap suc r.counted;
            stacked = r.stacked;
            because = one_later r.because;
          })

-- ---- a deliberation that is stopped goes on

from_zero : (o : Outcome) → o ≡ counted 0 o
from_zero o = λ i. record { state = o.state; count = sym (zero-add o.count) i; ending = o.ending; remaining = o.remaining }

one_more_lem : (n : ℕ) (o : Outcome) → one_more (counted n o) ≡ counted (suc n) o
one_more_lem n o =
    let e : suc (n + o.count) ≡ suc n + o.count = omega arith in
    λ i. record { state = o.state; count = e i; ending = o.ending; remaining = o.remaining }

module _ (A : Agent) (βs : List (Query 𝐁)) (es : List Node) where
  abbrev go_on : ℕ → List ℕ → State → Outcome
  go_on = deliberate A βs es

  -- a deliberation with k from what an outcome leaves, counted on from it
  abbrev after_it : ℕ → Outcome → Outcome
  after_it k o = counted o.count (go_on k o.remaining o.state)

  -- where the first one ends by itself, the second ends so too
  ended_twice : (j k : ℕ) (e : DeliberationEnding) (ns : List ℕ) (s : State) → ((b : ℕ) → go_on (suc b) ns s ≡ ended e ns s)
      → go_on (suc j + suc k) ns s ≡ after_it (suc k) (go_on (suc j) ns s)
  ended_twice j k e ns s w =
      let both_budgets : suc j + suc k ≡ suc (j + suc k) = omega arith in
      ap (λ n. go_on n ns s) both_budgets ∙ w (j + suc k) ∙ from_zero (ended e ns s) ∙ sym (ap (after_it (suc k)) (w j) ∙ ap (counted 0) (w k))

  stops : (j k : ℕ) (ns : List ℕ) (s : State) → 1 ≤ k → go_on (j + k) ns s ≡ after_it k (go_on j ns s)
  unfolding deliberate
  stops zero k ns s h = ap (λ n. go_on n ns s) (zero-add k) ∙ from_zero (go_on k ns s)
  stops (suc j) zero ns s h = absurd (omega arith)
  stops (suc j) (suc k) [] s h = ended_twice j k DeliberationEnding.Finished [] s (λ b. refl)
  stops (suc j) (suc k) (n ∷ ns) s h = go (what_comes A βs es j n ns s) refl (stops j (suc k))
    where
      go : (c : MoveResult) → what_comes A βs es j n ns s ≡ c
          → ((ns : List ℕ) (s : State) → 1 ≤ suc k → go_on (j + suc k) ns s ≡ after_it (suc k) (go_on j ns s))
          → go_on (suc j + suc k) (n ∷ ns) s ≡ after_it (suc k) (go_on (suc j) (n ∷ ns) s)
      go stuck e ih = ended_twice j k DeliberationEnding.Stuck (n ∷ ns) s (λ b. run_stuck A βs es b n ns s e)
      go Deliberate.too_long e ih = ended_twice j k DeliberationEnding.Full (n ∷ ns) s (λ b. run_full A βs es b n ns s e)
      go (on ns' s') e ih =
          let both_budgets : suc j + suc k ≡ suc (j + suc k) = omega arith in
          let o = go_on j ns' s' in
          ap (λ m. go_on m (n ∷ ns) s) both_budgets ∙ run_on A βs es (j + suc k) n ns s ns' s' e ∙ ap one_more (ih ns' s' (omega arith))
          ∙ one_more_lem o.count (go_on (suc k) o.remaining o.state) ∙ sym (ap (after_it (suc k)) (run_on A βs es j n ns s ns' s' e))

pub deliberation_stops : DeliberationStops
deliberation_stops = stops
