-- What a chosen move and a run for bounded cards answer once the card and the configuration are judged; and that no two of their
-- answers are one in the table's words.
use mathlib.Core.Path.{◌≡◌, refl, sym, ap, ◌∙◌}
use mathlib.Core.Bool.{Bool, true, false, not, ◌&&◌}
use mathlib.Core.List.{List, [], ◌∷◌}
use Prim.Native.Nat.{ℕ, ◌≤◌}
use borrow.Author.Tests.{leb-true, le-leb}
use Rattle.paper.proofs.Relation.{false≢true, both}
use Rattle.runs.specs.declared.Ending.{Ending}
use Rattle.runs.specs.declared.Verdict.{Verdict}
use Rattle.runs.specs.Limits.{heaviest_plan}
use Rattle.runs.specs.Weight.{weigh, light, verdict}
use Rattle.meaning.specs.declared.Refusal.{Refusal}
use Rattle.meaning.specs.Answers.{Answer, BoundedAnswer}
use Rattle.std.specs.Prelude.{Ok, Err}
use Rattle.meaning.specs.declared.Configuration.{Configuration}
use Rattle.meaning.specs.declared.Reply.{Reply}
use Rattle.meaning.specs.declared.Ran.{Ran}
use Rattle.meaning.specs.declared.BoundedRefusal.{BoundedRefusal}
use Rattle.meaning.specs.declared.BoundedEnding.{BoundedEnding}
use Rattle.meaning.specs.declared.BoundedReply.{BoundedReply}
use Rattle.meaning.specs.declared.BoundedRan.{BoundedRan}
use Rattle.meaning.specs.Card.{Bytes, layout, weight, agent, initial_plan}
use Rattle.meaning.specs.Configurations.{state_of}
use Rattle.meaning.specs.Refusals.{Row, ◌given_when◌, first_given, and_then, card_table, card_answer, configuration_table, configuration_answer}
use Rattle.meaning.specs.Calls.{reply, takes, runs}
use Rattle.meaning.specs.BoundedCalls.{as_refusal, as_answer, as_ending, as_reply, as_ran, is_bounded, bounded_good, bounded_table, bounded_answer, bounded_takes, bounded_runs, HasWord}
use Rattle.meaning.proofs.Tables.{done≢refused, given, not_given, and_then_done}

-- ---- no two answers are one in the table's words

-- the word for a refusal; for one that has none, any
narrow : Refusal → BoundedRefusal
narrow Refusal.Short = BoundedRefusal.Short
narrow Refusal.Mark = BoundedRefusal.Mark
narrow Refusal.Count = BoundedRefusal.Count
narrow Refusal.Offsets = BoundedRefusal.Offsets
narrow Refusal.Weight = BoundedRefusal.Weight
narrow Refusal.Node = BoundedRefusal.Node
narrow Refusal.Rule = BoundedRefusal.Rule
narrow Refusal.ActionByte = BoundedRefusal.ActionByte
narrow Refusal.Atom = BoundedRefusal.Atom
narrow Refusal.Configuration = BoundedRefusal.Configuration
narrow Refusal.OpenOrHeavy = BoundedRefusal.OpenOrHeavy
narrow Refusal.NoRule = BoundedRefusal.NoRule
narrow Refusal.Front = BoundedRefusal.Front
narrow (Refusal.Condition n) = BoundedRefusal.Condition n
narrow Refusal.PlanFull = BoundedRefusal.Short
narrow Refusal.NoRoom = BoundedRefusal.Short
narrow Refusal.Nested = BoundedRefusal.Short
narrow Refusal.Large = BoundedRefusal.Short
narrow Refusal.Program = BoundedRefusal.Short
narrow Refusal.NoAction = BoundedRefusal.Short
narrow (Refusal.Text p) = BoundedRefusal.Short
narrow (Refusal.Sheet k) = BoundedRefusal.Short

narrowed : (r : BoundedRefusal) → narrow (as_refusal r) ≡ r
unfolding narrow as_refusal
narrowed BoundedRefusal.Short = refl
narrowed BoundedRefusal.Mark = refl
narrowed BoundedRefusal.Count = refl
narrowed BoundedRefusal.Offsets = refl
narrowed BoundedRefusal.Weight = refl
narrowed BoundedRefusal.Node = refl
narrowed BoundedRefusal.Rule = refl
narrowed BoundedRefusal.ActionByte = refl
narrowed BoundedRefusal.Atom = refl
narrowed BoundedRefusal.Configuration = refl
narrowed BoundedRefusal.OpenOrHeavy = refl
narrowed BoundedRefusal.NoRule = refl
narrowed BoundedRefusal.Front = refl
narrowed (BoundedRefusal.Condition n) = refl

narrow_answer : Answer → BoundedAnswer
narrow_answer (Ok _) = Ok tt
narrow_answer (Err r) = Err (narrow r)

narrowed_answer : (a : BoundedAnswer) → narrow_answer (as_answer a) ≡ a
unfolding narrow_answer as_answer
narrowed_answer (Ok _) = refl
narrowed_answer (Err r) = ap (λ q. Err q) (narrowed r)

narrow_ending : Ending → BoundedEnding
narrow_ending Ending.Spent = BoundedEnding.Spent
narrow_ending Ending.Rest = BoundedEnding.Rest
narrow_ending Ending.Full = BoundedEnding.Rest

narrowed_ending : (e : BoundedEnding) → narrow_ending (as_ending e) ≡ e
unfolding narrow_ending as_ending
narrowed_ending BoundedEnding.Spent = refl
narrowed_ending BoundedEnding.Rest = refl

narrow_reply : Reply → BoundedReply
narrow_reply r = record { answer = narrow_answer r.answer; configuration = r.configuration }

narrowed_reply : (r : BoundedReply) → narrow_reply (as_reply r) ≡ r
unfolding narrow_reply
narrowed_reply r = ap (λ (a : BoundedAnswer). record { answer = a; configuration = r.configuration }) (narrowed_answer r.answer)

narrow_ran : Ran → BoundedRan
narrow_ran r = record { answer = narrow_answer r.answer; count = r.count; ending = narrow_ending r.ending; configuration = r.configuration }

narrowed_ran : (r : BoundedRan) → narrow_ran (as_ran r) ≡ r
unfolding narrow_ran
narrowed_ran r =
    ap (λ (a : BoundedAnswer). record { answer = a; count = r.count; ending = narrow_ending (as_ending r.ending); configuration = r.configuration }) (narrowed_answer r.answer)
    ∙ ap (λ (e : BoundedEnding). record { answer = r.answer; count = r.count; ending = e; configuration = r.configuration }) (narrowed_ending r.ending)

pub as_answer_one : {a a' : BoundedAnswer} → as_answer a ≡ as_answer a' → a ≡ a'
as_answer_one {a} {a'} e = sym (narrowed_answer a) ∙ (ap narrow_answer e ∙ narrowed_answer a')

pub as_ending_one : {e e' : BoundedEnding} → as_ending e ≡ as_ending e' → e ≡ e'
as_ending_one {e} {e'} h = sym (narrowed_ending e) ∙ (ap narrow_ending h ∙ narrowed_ending e')

pub as_reply_one : {r r' : BoundedReply} → as_reply r ≡ as_reply r' → r ≡ r'
as_reply_one {r} {r'} e = sym (narrowed_reply r) ∙ (ap narrow_reply e ∙ narrowed_reply r')

pub as_ran_one : {r r' : BoundedRan} → as_ran r ≡ as_ran r' → r ≡ r'
as_ran_one {r} {r'} e = sym (narrowed_ran r) ∙ (ap narrow_ran e ∙ narrowed_ran r')

-- ---- each refusal of a table has a word

abbrev RowsHaveWords : {X : Type 0} → List (Row X) → X → Type 0
RowsHaveWords [] x = Unit
RowsHaveWords (q ∷ rows) x = HasWord (Err (q.refusal x)) × RowsHaveWords rows x

table_word : {X : Type 0} (rows : List (Row X)) (x : X) → RowsHaveWords rows x → HasWord (first_given rows x)
unfolding first_given as_answer
table_word [] x h = (Ok tt, refl)
table_word (q ∷ rows) x (w, h) = go (q.when x) refl (table_word rows x h)
  where
    go : (t : Bool) → q.when x ≡ t → HasWord (first_given rows x) → HasWord (first_given (q ∷ rows) x)
    go true e ih = (w.0, w.1 ∙ sym (given q rows x e))
    go false e ih = (ih.0, ih.1 ∙ sym (not_given q rows x e))

then_word : (a a' : Answer) → HasWord a → HasWord a' → HasWord (and_then a a')
then_word (Ok _) a' h g = g
then_word (Err r) a' h g = h

card_word : (b : Bytes) → HasWord (card_answer b)
unfolding card_answer card_table as_answer as_refusal
card_word b = table_word card_table b (word BoundedRefusal.Short, (word BoundedRefusal.Mark, (word BoundedRefusal.Short, (word BoundedRefusal.Count, (word BoundedRefusal.Offsets, (word BoundedRefusal.Weight, (word BoundedRefusal.Node, (word BoundedRefusal.Rule, (word BoundedRefusal.ActionByte, (word BoundedRefusal.Atom, tt))))))))))
  where
    word : (r : BoundedRefusal) → HasWord (Err (as_refusal r))
    word r = (Err r, refl)

pub configuration_word : (b : Bytes) (c : Configuration) → HasWord (configuration_answer b c)
unfolding configuration_answer configuration_table as_answer as_refusal
configuration_word b c = then_word (card_answer b) _ (card_word b) (table_word (configuration_table (layout b)) c ((Err BoundedRefusal.Configuration, refl), tt))

-- ---- what is refused before the call is made

is_bounded_lem : (v : Verdict) → is_bounded v ≡ true → v ≡ Verdict.Bounded
is_bounded_lem Verdict.Bounded e = refl
is_bounded_lem (Verdict.Open o) e = absurd (false≢true e)

module _ (b : Bytes) (c : Configuration) where
  pub good_both : bounded_good b c ≡ true → (verdict (weight b) (agent b) (initial_plan b) ≡ Verdict.Bounded) × (weigh (weight b) (state_of c).mental.π ≤ heaviest_plan)
  unfolding bounded_good
  good_both e = let (v, w) = both (is_bounded (verdict (weight b) (agent b) (initial_plan b))) _ e in (is_bounded_lem _ v, leb-true _ _ w)

  pub both_good : verdict (weight b) (agent b) (initial_plan b) ≡ Verdict.Bounded → weigh (weight b) (state_of c).mental.π ≤ heaviest_plan → bounded_good b c ≡ true
  unfolding bounded_good
  both_good v w = ap (λ x. is_bounded x && light (weight b) (state_of c).mental.π) v ∙ le-leb _ _ w

  pub bounded_refused : (q : Refusal) → configuration_answer b c ≡ Err q → bounded_answer b c ≡ Err q
  unfolding bounded_answer
  bounded_refused q e = ap (λ a. and_then a (first_given (bounded_table b) c)) e

  -- row 22, of a card and a configuration that are good or not
  heavy : bounded_good b c ≡ false → first_given (bounded_table b) c ≡ Err Refusal.OpenOrHeavy
  unfolding bounded_table
  heavy e = given (Refusal.OpenOrHeavy given_when (λ (x : Configuration). not (bounded_good b x))) [] c (ap not e)

  not_heavy : bounded_good b c ≡ true → first_given (bounded_table b) c ≡ Ok tt
  unfolding bounded_table first_given
  not_heavy e = not_given (Refusal.OpenOrHeavy given_when (λ (x : Configuration). not (bounded_good b x))) [] c (ap not e)

  pub bounded_done : bounded_answer b c ≡ Ok tt → (configuration_answer b c ≡ Ok tt) × (bounded_good b c ≡ true)
  unfolding bounded_answer
  bounded_done e = let (f, g) = and_then_done (configuration_answer b c) _ e in (f, go g (bounded_good b c) refl)
    where
      go : first_given (bounded_table b) c ≡ Ok tt → (t : Bool) → bounded_good b c ≡ t → bounded_good b c ≡ true
      go g true h = h
      go g false h = absurd (done≢refused (sym g ∙ heavy h))

  module _ (on : configuration_answer b c ≡ Ok tt) where
    pub bounded_good_lem : bounded_good b c ≡ true → bounded_answer b c ≡ Ok tt
    unfolding bounded_answer
    bounded_good_lem e = ap (λ a. and_then a (first_given (bounded_table b) c)) on ∙ not_heavy e

    pub bounded_heavy : bounded_good b c ≡ false → bounded_answer b c ≡ Err Refusal.OpenOrHeavy
    unfolding bounded_answer
    bounded_heavy e = ap (λ a. and_then a (first_given (bounded_table b) c)) on ∙ heavy e

  -- ---- the calls

  pub bounded_takes_done : (code : ℕ) → bounded_answer b c ≡ Ok tt → bounded_takes b c code ≡ takes b c code
  unfolding bounded_takes
  bounded_takes_done code e = rw (e, bounded_takes)

  pub bounded_takes_refused : (code : ℕ) (q : Refusal) → bounded_answer b c ≡ Err q → bounded_takes b c code ≡ reply (Err q) c
  unfolding bounded_takes
  bounded_takes_refused code q e = rw (e, bounded_takes)

  pub bounded_runs_done : (budget : ℕ) → bounded_answer b c ≡ Ok tt → bounded_runs b c budget ≡ runs b c budget
  unfolding bounded_runs
  bounded_runs_done budget e = rw (e, bounded_runs)

  pub bounded_runs_refused : (budget : ℕ) (q : Refusal) → bounded_answer b c ≡ Err q → bounded_runs b c budget ≡ record { answer = Err q; count = 0; ending = Ending.Spent; configuration = c }
  unfolding bounded_runs
  bounded_runs_refused budget q e = rw (e, bounded_runs)

-- a card or a configuration that is refused, and 22, have a word
pub bounded_word : (b : Bytes) (c : Configuration) → HasWord (bounded_answer b c)
unfolding bounded_answer bounded_table as_answer as_refusal
bounded_word b c = then_word (configuration_answer b c) _ (configuration_word b c) (table_word (bounded_table b) c ((Err BoundedRefusal.OpenOrHeavy, refl), tt))
