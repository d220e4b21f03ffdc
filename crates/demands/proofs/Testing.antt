-- The card is tested first, then a place or a configuration.
use mathlib.Core.Path.{◌≡◌, ap, ◌∙◌}
use mathlib.Core.Bool.{false}
use mathlib.Core.List.{List}
use Prim.Native.Nat.{ℕ}
use Rattle.meaning.specs.declared.Refusal.{Refusal}
use Rattle.meaning.specs.Answers.{Answer}
use Rattle.std.specs.Prelude.{Ok, Err}
use Rattle.meaning.specs.declared.Configuration.{Configuration}
use Rattle.meaning.specs.declared.Reply.{Reply}
use Rattle.meaning.specs.declared.Graded.{Graded}
use Rattle.meaning.specs.declared.Written.{Written}
use Rattle.meaning.specs.declared.Listed.{Listed}
use Rattle.meaning.specs.declared.Ran.{Ran}
use Rattle.meaning.specs.Card.{Bytes, layout}
use Rattle.meaning.specs.Refusals.{card_answer, place_answer, configuration_answer, and_then, first_given, place_table, configuration_table, configuration_good}
use Rattle.meaning.proofs.Calls.{checks_refused, loads_refused, grades_refused, lists_refused, takes_refused, runs_refused, saves_refused, restores_refused, configuration_refused}
use Rattle.demands.specs.CallContracts.{Lists, Takes, Runs, Saves, Restores}
use Rattle.demands.specs.TestOrder.{CardFirst, ConfigurationNext, TestOrder}

module _ (b : Bytes) (c : Configuration) (q : Refusal) (e : configuration_answer b c ≡ Err q) where
  listed : (out left : List ℕ) (r : Listed) → Lists b c out r left → r.answer ≡ Err q
  listed out left r w = ap (λ (x : Listed). x.answer) (w.0 ∙ (lists_refused b c out q e).0)

  taken : (n : ℕ) (r : Reply) → Takes b c n r → r.answer ≡ Err q
  taken n r w = ap (λ (x : Reply). x.answer) (w ∙ takes_refused b c n q e)

  ran : (budget : ℕ) (r : Ran) → Runs b c budget r → r.answer ≡ Err q
  ran budget r w = ap (λ (x : Ran). x.answer) (w ∙ runs_refused b c budget q e)

  saved : (out left : Bytes) (r : Written) → Saves b c out r left → r.answer ≡ Err q
  saved out left r w = ap (λ (x : Written). x.answer) (w.0 ∙ (saves_refused b c out q e).0)

restored : (b p : Bytes) (q : Refusal) → place_answer b p ≡ Err q → (r : Reply) → Restores b p r → r.answer ≡ Err q
restored b p q e r w = ap (λ (x : Reply). x.answer) (w ∙ restores_refused b p q e)

module _ (b : Bytes) (q : Refusal) (e : card_answer b ≡ Err q) where
  -- what comes after the card is not asked
  not_asked : (a : Answer) → and_then (card_answer b) a ≡ Err q
  not_asked a = ap (λ x. and_then x a) e

  with_configuration : (c : Configuration) → configuration_answer b c ≡ Err q
  unfolding configuration_answer
  with_configuration c = not_asked (first_given (configuration_table (layout b)) c)

  with_place : (p : Bytes) → place_answer b p ≡ Err q
  unfolding place_answer
  with_place p = not_asked (first_given (place_table (layout b)) p)

  card_first : CardFirst b q
  card_first = record {
    check = λ r w. w ∙ checks_refused b q e;
    load = λ r w. ap (λ (x : Reply). x.answer) (w ∙ loads_refused b q e);
    grade = λ r w. ap (λ (x : Graded). x.answer) (w ∙ grades_refused b q e);
    list = λ c. listed b c q (with_configuration c);
    take = λ c. taken b c q (with_configuration c);
    run = λ c. ran b c q (with_configuration c);
    save = λ c. saved b c q (with_configuration c);
    restore = λ p. restored b p q (with_place p);
  }

place_next : (b p : Bytes) (q : Refusal) → card_answer b ≡ Ok tt → first_given (place_table (layout b)) p ≡ Err q → (r : Reply) → Restores b p r → r.answer ≡ Err q
unfolding place_answer
place_next b p q card e = restored b p q (ap (λ a. and_then a (first_given (place_table (layout b)) p)) card ∙ e)

configuration_next : (b : Bytes) (c : Configuration) → card_answer b ≡ Ok tt → configuration_good (layout b) c ≡ false → ConfigurationNext b c
configuration_next b c card bad =
    let e = configuration_refused b c card bad in
    record {
      list = listed b c Refusal.Configuration e;
      take = taken b c Refusal.Configuration e;
      run = ran b c Refusal.Configuration e;
      save = saved b c Refusal.Configuration e;
    }

pub test_order : TestOrder
test_order = record { card_first = card_first; place_next = place_next; configuration_next = configuration_next }
