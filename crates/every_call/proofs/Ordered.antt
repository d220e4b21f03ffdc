-- The order of tests of name, text and print.
use mathlib.Core.Path.{◌≡◌, ap, ◌∙◌, sym}
use mathlib.Core.Bool.{true, false, not}
use Prim.Native.Nat.{ℕ, ◌≤◌}
use borrow.Author.Tests.{le-ltb}
use Rattle.meaning.specs.declared.Refusal.{Refusal}
use Rattle.meaning.specs.Answers.{Answer}
use Rattle.std.specs.Prelude.{Ok, Err}
use Rattle.meaning.specs.Card.{Bytes, layout}
use Rattle.meaning.specs.Refusals.{first_given, and_then, card_answer}
use Rattle.meaning.specs.Calls.{room_for}
use Rattle.meaning.proofs.Tables.{given, not_given}
use Rattle.notation.specs.Lines.{Said, Text}
use Rattle.notation.specs.Built.{built}
use Rattle.notation.specs.Reading.{text_table, said_answer, Reads, no_text, refused, done}
use Rattle.notation.specs.Printing.{print_table, printed, print_answer, Prints}
use Rattle.notation.proofs.ReadingOnce.{unambiguous}
use Rattle.names.specs.declared.Named.{Named}
use Rattle.names.specs.Sheets.{shed_good, master_good}
use Rattle.names.specs.Naming.{Question, name_table, name_answer, Names}
use Rattle.every_call.proofs.Listed.{name_answer_lem}

-- what comes after a refusal is not asked; what comes after a test that is passed is
first : (a a' : Answer) (q : Refusal) → a ≡ Err q → and_then a a' ≡ Err q
first a a' q e = ap (λ x. and_then x a') e

then : (a a' : Answer) → a ≡ Ok tt → and_then a a' ≡ a'
then a a' e = ap (λ x. and_then x a') e

module _ (b : Bytes) (q : Question) (r : Named) (w : Names b q r) where
  pub name_card : (x : Refusal) → card_answer b ≡ Err x → r.answer ≡ Err x
  unfolding name_answer
  name_card x e = name_answer_lem b q r w ∙ first (card_answer b) _ x e

  module _ (card : card_answer b ≡ Ok tt) where
    name_rows : r.answer ≡ first_given (name_table (layout b).actions) q
    unfolding name_answer
    name_rows = name_answer_lem b q r w ∙ then (card_answer b) _ card

    pub name_shed : shed_good (layout b).actions q.shed ≡ false → r.answer ≡ Err (Refusal.Sheet 1)
    unfolding name_table
    name_shed e = name_rows ∙ given _ _ q (ap not e)

    module _ (shed : shed_good (layout b).actions q.shed ≡ true) where
      pub name_master : master_good (layout b).actions q.master ≡ false → r.answer ≡ Err (Refusal.Sheet 0)
      unfolding name_table
      name_master e = name_rows ∙ (not_given _ _ q (ap not shed) ∙ given _ _ q (ap not e))

      pub name_action : master_good (layout b).actions q.master ≡ true → (layout b).actions ≤ q.action → r.answer ≡ Err Refusal.NoAction
      unfolding name_table
      name_action e h = name_rows ∙ (not_given _ _ q (ap not shed) ∙ (not_given _ _ q (ap not e) ∙ given _ _ q (ap not (le-ltb _ _ h))))

module _ (b : Bytes) (n : ℕ) (out left : Bytes) (a : Answer) (count : ℕ) (w : Prints b n out a count left) where
  pub print_card : (q : Refusal) → card_answer b ≡ Err q → a ≡ Err q
  unfolding print_answer
  print_card q e = w.answer ∙ first (card_answer b) _ q e

  pub print_next : card_answer b ≡ Ok tt → (q : Refusal) → first_given (print_table (layout b) b) n ≡ Err q → a ≡ Err q
  unfolding print_answer
  print_next e q f = w.answer ∙ (then (card_answer b) _ e ∙ first (first_given (print_table (layout b) b) n) _ q f)

  pub print_room : card_answer b ≡ Ok tt → first_given (print_table (layout b) b) n ≡ Ok tt → a ≡ room_for (printed b n) out
  unfolding print_answer
  print_room e f = w.answer ∙ (then (card_answer b) _ e ∙ then (first_given (print_table (layout b) b) n) _ f)

module _ (t out left : Bytes) (a : Answer) (n : ℕ) (w : Reads t out a n left) (s : Said) (x : Text t s) where
  said : a ≡ said_answer s out
  said = go w
    where
      go : {a : Answer} {n : ℕ} {left : Bytes} → Reads t out a n left → a ≡ said_answer s out
      go (no_text f) = absurd (f.not_derived (s, x))
      go (refused {s = s'} y e) = sym e ∙ ap (λ z. said_answer z out) (unambiguous.text t s' s y x)
      go (done {s = s'} y e) = sym e ∙ ap (λ z. said_answer z out) (unambiguous.text t s' s y x)

  pub text_next : (q : Refusal) → first_given text_table s ≡ Err q → a ≡ Err q
  unfolding said_answer
  text_next q e = said ∙ first (first_given text_table s) _ q e

  pub text_card : first_given text_table s ≡ Ok tt → (q : Refusal) → card_answer (built s) ≡ Err q → a ≡ Err q
  unfolding said_answer
  text_card e q f = said ∙ (then (first_given text_table s) _ e ∙ first (card_answer (built s)) _ q f)

  pub text_room : first_given text_table s ≡ Ok tt → card_answer (built s) ≡ Ok tt → a ≡ room_for (built s) out
  unfolding said_answer
  text_room e f = said ∙ (then (first_given text_table s) _ e ∙ then (card_answer (built s)) _ f)
