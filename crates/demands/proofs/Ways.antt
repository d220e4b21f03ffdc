-- The ways in which each call may answer, with what holds in each.
use mathlib.Core.Path.{◌≡◌, refl, ap, ◌∙◌, sym}
use mathlib.Core.Bool.{Bool, true, false}
use mathlib.Core.List.{List}
use mathlib.Core.Option.{Option, none, some}
use Prim.Native.Nat.{ℕ, ◌≤◌, ◌<◌}
use lib.Dec.{leb, ltb}
use lib.ListN.{length}
use borrow.Author.Tests.{leb-true, leb-false}
use Rattle.paper.specs.Language.{𝐁, 𝐆, Config}
use Rattle.paper.specs.Transitions.{◌⊨◌, Choice, select, act, revise}
use Rattle.paper.specs.Next.{is_empty, starts_with, is_prefix}
use Rattle.paper.proofs.Relation.{none≢some, some_inj}
use Rattle.runs.specs.declared.Ending.{Ending}
use Rattle.runs.specs.declared.Offender.{Offender}
use Rattle.runs.specs.declared.Verdict.{Verdict}
use Rattle.runs.specs.Order.{State, enabled_codes}
use Rattle.runs.specs.Step.{after, Reached, step_by}
use Rattle.runs.specs.Run.{run}
use Rattle.runs.specs.Weight.{verdict}
use Rattle.runs.proofs.Step.{StepsTo, none_there, too_long, taken, steps_to}
use Rattle.meaning.specs.declared.Layout.{Layout}
use Rattle.meaning.specs.declared.Refusal.{Refusal}
use Rattle.meaning.specs.Answers.{Answer, Checked}
use Rattle.std.specs.Prelude.{Ok, Err}
use Rattle.meaning.specs.declared.Configuration.{Configuration}
use Rattle.meaning.specs.declared.Reply.{Reply}
use Rattle.meaning.specs.declared.Graded.{Graded}
use Rattle.meaning.specs.declared.Written.{Written}
use Rattle.meaning.specs.declared.Listed.{Listed}
use Rattle.meaning.specs.declared.Ran.{Ran}
use Rattle.meaning.specs.Card as Card
use Rattle.meaning.specs.Card.{Bytes, layout, weight, agent, initial_plan, start, conditions, plan, specification_at, selection_at, revision_at}
use Rattle.meaning.specs.Configurations.{state_of, configuration_of, empty}
use Rattle.meaning.specs.Place.{place, placed}
use Rattle.meaning.specs.Refusals.{card_answer, place_answer, configuration_answer}
use Rattle.meaning.specs.Why.{front_first, rule_first, false_of, settler, why, why_closed}
use Rattle.meaning.specs.Calls.{reply, graded, written, over, writes, leaves, list_leaves, choice, ran, saves, save_leaves}
use Rattle.meaning.proofs.Calls.{checks_good, checks_refused, loads_good, loads_refused, grades_good, grades_refused, writes_refused, writes_room, writes_no_room, written_of, lists_written, takes_refused, takes_nothing, takes_full, takes_to, runs_refused, runs_good, restores_good, restores_refused}
use Rattle.demands.specs.CallContracts.{Checks, Loads, Grades, Lists, Takes, Runs, Saves, Restores}
use Rattle.demands.specs.Demands.{OnAccepted, ChosenMove, IsClosed, no_rule, front, condition}
use Rattle.demands.proofs.Codes.{coded, chosen}

-- ---- check, load, grade, restore

pub data Checking (b : Bytes) : Checked → Type 0 where
  good : card_answer b ≡ Ok tt → Checking b (Ok (layout b))
  refused : {q : Refusal} → card_answer b ≡ Err q → Checking b (Err q)

pub checking : (b : Bytes) (r : Checked) → Checks b r → Checking b r
checking b r e = go (card_answer b) refl
  where
    go : (a : Answer) → card_answer b ≡ a → Checking b r
    go (Ok _) h = rw (e ∙ checks_good b h) (good h)
    go (Err q) h = rw (e ∙ checks_refused b q h) (refused h)

-- an answer with a configuration that comes from nothing but bytes: the one reached, or the empty one
pub data Replying (a : Answer) (s : State) : Reply → Type 0 where
  done : a ≡ Ok tt → Replying a s (reply (Ok tt) (configuration_of s))
  refused : {q : Refusal} → a ≡ Err q → Replying a s (reply (Err q) empty)

pub loading : (b : Bytes) (r : Reply) → Loads b r → Replying (card_answer b) (start b) r
loading b r e = go (card_answer b) refl
  where
    go : (a : Answer) → card_answer b ≡ a → Replying (card_answer b) (start b) r
    go (Ok _) h = rw (e ∙ loads_good b h) (done h)
    go (Err q) h = rw (e ∙ loads_refused b q h) (refused h)

pub restoring : (b p : Bytes) (r : Reply) → Restores b p r → Replying (place_answer b p) (placed (layout b) p) r
restoring b p r e = go (place_answer b p) refl
  where
    go : (a : Answer) → place_answer b p ≡ a → Replying (place_answer b p) (placed (layout b) p) r
    go (Ok _) h = rw (e ∙ restores_good b p h) (done h)
    go (Err q) h = rw (e ∙ restores_refused b p q h) (refused h)

pub data Grading (b : Bytes) : Graded → Type 0 where
  done : card_answer b ≡ Ok tt → Grading b (graded (Ok tt) (verdict (weight b) (agent b) (initial_plan b)))
  refused : {q : Refusal} → card_answer b ≡ Err q → Grading b (graded (Err q) (Verdict.Open Offender.InitialPlan))

pub grading : (b : Bytes) (r : Graded) → Grades b r → Grading b r
grading b r e = go (card_answer b) refl
  where
    go : (a : Answer) → card_answer b ≡ a → Grading b r
    go (Ok _) h = rw (e ∙ grades_good b h) (done h)
    go (Err q) h = rw (e ∙ grades_refused b q h) (refused h)

-- ---- list and save: xs is to be written to out

pub data Writing (b : Bytes) (c : Configuration) (xs out : List ℕ) : Written → List ℕ → Type 0 where
  refused : {q : Refusal} → configuration_answer b c ≡ Err q → Writing b c xs out (written (Err q) 0 c) out
  no_room : configuration_answer b c ≡ Ok tt → length out < length xs → Writing b c xs out (written (Err Refusal.NoRoom) 0 c) out
  done : configuration_answer b c ≡ Ok tt → length xs ≤ length out → Writing b c xs out (written (Ok tt) (length xs) c) (over xs out)

writing : (b : Bytes) (c : Configuration) (xs out left : List ℕ) (r : Written) → r ≡ writes b c xs out → left ≡ leaves b c xs out → Writing b c xs out r left
writing b c xs out left r e f = go (configuration_answer b c) refl
  where
    room : (t : Bool) → leb (length xs) (length out) ≡ t → configuration_answer b c ≡ Ok tt → Writing b c xs out r left
    room true h k = let (p, q) = writes_room b c xs out k h in rw (e ∙ p, f ∙ q) (done k (leb-true _ _ h))
    room false h k = let (p, q) = writes_no_room b c xs out k h in rw (e ∙ p, f ∙ q) (no_room k (leb-false _ _ h))

    go : (a : Answer) → configuration_answer b c ≡ a → Writing b c xs out r left
    go (Ok _) h = room (leb (length xs) (length out)) refl h
    go (Err z) h = let (p, q) = writes_refused b c xs out z h in rw (e ∙ p, f ∙ q) (refused h)

pub listing : (b : Bytes) (c : Configuration) (out left : List ℕ) (r : Listed) → Lists b c out r left → Writing b c (enabled_codes (agent b) (state_of c).mental) out (written_of r) left
unfolding list_leaves
listing b c out left r (e, f) = writing b c (enabled_codes (agent b) (state_of c).mental) out left (written_of r) (lists_written b c out r e) f

pub saving : (b : Bytes) (c : Configuration) (out left : Bytes) (r : Written) → Saves b c out r left → Writing b c (place (layout b) (state_of c)) out r left
unfolding saves save_leaves
saving b c out left r (e, f) = writing b c (place (layout b) (state_of c)) out left r e f

-- ---- take

rule_first_lem : (t : Bool) {q : Refusal} → IsClosed (Err q) → IsClosed (Err (rule_first t q))
rule_first_lem true h = h
rule_first_lem false h = no_rule

front_first_lem : (t : Bool) {q : Refusal} → IsClosed (Err q) → IsClosed (Err (front_first t q))
front_first_lem true h = h
front_first_lem false h = front

false_of_lem : (t : Bool) (n m : ℕ) → IsClosed (Err (false_of t n m))
false_of_lem true n m = condition
false_of_lem false n m = condition

-- whatever closes a choice is one of the three
module _ (l : Layout) (b : Bytes) (c : Config) where
  why_closed_lem : (o : Option Choice) → IsClosed (Err (why_closed l b c o))
  unfolding why
  why_closed_lem none = no_rule
  why_closed_lem (some (select n)) =
      let e = selection_at l b n in
      rule_first_lem (ltb n l.selections.count)
      (front_first_lem (is_empty c.π)
      (false_of_lem (c ⊨ Card.condition (conditions 𝐁 l b) e.belief) (settler 𝐁 l b c e.belief) (settler 𝐆 l b c e.goal)))
  why_closed_lem (some (act n)) = rule_first_lem (ltb n l.specifications.count) (front_first_lem (starts_with (specification_at l b n).action c.π) condition)
  why_closed_lem (some (revise n)) = rule_first_lem (ltb n l.revisions.count) (front_first_lem (is_prefix (plan l b (revision_at l b n).head) c.π) condition)

pub data Taking (b : Bytes) (c : Configuration) (n : ℕ) : Reply → Type 0 where
  refused : {q : Refusal} → configuration_answer b c ≡ Err q → Taking b c n (reply (Err q) c)
  is_closed : OnAccepted b c → {q : Refusal} → q ≡ why_closed (layout b) b (state_of c).mental (choice n) → IsClosed (Err q) → ((k : Choice) (c' : Config) → ChosenMove b c n k c' → ⊥) → Taking b c n (reply (Err q) c)
  plan_full : OnAccepted b c → (k : Choice) (c' : Config) → ChosenMove b c n k c' → 1024 < length c'.π → Taking b c n (reply (Err Refusal.PlanFull) c)
  done : OnAccepted b c → (k : Choice) (c' : Config) → ChosenMove b c n k c' → length c'.π ≤ 1024
      → Taking b c n (reply (Ok tt) (configuration_of (after (state_of c) k c')))

pub taking : (b : Bytes) (c : Configuration) (n : ℕ) (r : Reply) → Takes b c n r → Taking b c n r
taking b c n r e = go (configuration_answer b c) refl
  where
    by : OnAccepted b c → (k : Choice) → choice n ≡ some k → {o : Reached} → step_by (agent b) (state_of c) (choice n) ≡ o → StepsTo (agent b) (state_of c) k o → Taking b c n r
    by on k h q (none_there x) = rw (e ∙ takes_nothing b c on n q) (is_closed on refl (why_closed_lem (layout b) b (state_of c).mental (choice n)) (λ j c' m. x c' (rw (some_inj (sym (chosen b c on m) ∙ h)) at m.transition)))
    by on k h q (too_long c' s l) = rw (e ∙ takes_full b c on n q) (plan_full on k c' (record { coded = coded n k h; transition = s }) l)
    by on k h q (taken c' s l) = rw (e ∙ takes_to b c on n k _ q) (done on k c' (record { coded = coded n k h; transition = s }) l)

    read : OnAccepted b c → (o : Option Choice) → choice n ≡ o → Taking b c n r
    read on none h = rw (e ∙ takes_nothing b c on n (ap (step_by (agent b) (state_of c)) h)) (is_closed on refl (why_closed_lem (layout b) b (state_of c).mental (choice n)) (λ k c' m. none≢some (sym h ∙ chosen b c on m)))
    read on (some k) h = by on k h (ap (step_by (agent b) (state_of c)) h) (steps_to (agent b) (state_of c) k)

    go : (a : Answer) → configuration_answer b c ≡ a → Taking b c n r
    go (Ok _) h = read h (choice n) refl
    go (Err q) h = rw (e ∙ takes_refused b c n q h) (refused h)

-- ---- run

pub data Running (b : Bytes) (c : Configuration) (budget : ℕ) : Ran → Type 0 where
  refused : {q : Refusal} → configuration_answer b c ≡ Err q
      → Running b c budget (record { answer = Err q; count = 0; ending = Ending.Spent; configuration = c })
  done : configuration_answer b c ≡ Ok tt → Running b c budget (ran (run (agent b) budget (state_of c)))

pub running : (b : Bytes) (c : Configuration) (budget : ℕ) (r : Ran) → Runs b c budget r → Running b c budget r
running b c budget r e = go (configuration_answer b c) refl
  where
    go : (a : Answer) → configuration_answer b c ≡ a → Running b c budget r
    go (Ok _) h = rw (e ∙ runs_good b c h budget) (done h)
    go (Err q) h = rw (e ∙ runs_refused b c budget q h) (refused h)
