-- Which sheet is told: 0 or 1.
use mathlib.Core.Path.{◌≡◌, refl, sym, ◌∙◌, subst}
use mathlib.Core.Bool.{Bool, true, false, ◌&&◌}
use mathlib.Core.List.{List, [], ◌∷◌}
use Prim.Native.Nat.{◌≤◌}
use native.Mathlib.Omega.{arith}
use borrow.Author.Tests.{leb-true}
use lib.Dec.{leb, ltb}
use Rattle.paper.proofs.Relation.{both}
use Rattle.meaning.specs.Answers.{Answer}
use Rattle.std.specs.Prelude.{Ok, Err}
use Rattle.meaning.specs.Card.{Bytes, layout}
use Rattle.meaning.specs.Refusals.{Row, first_given, and_then, carried, answer_carried, card_table, card_answer}
use Rattle.meaning.specs.Numbers.{sheet_number}
use Rattle.meaning.proofs.Tables.{given, not_given}
use Rattle.names.specs.declared.Named.{Named}
use Rattle.names.specs.Sheets.{name_span}
use Rattle.names.specs.Naming.{Question, name_table, name_answer, sheet_number_of, found, names}
use Rattle.names.proofs.Naming.{either, names_found, on_refusal}

-- a table whose refusals carry 0 or 1
small : {X : Type 0} → List (Row X) → X → Bool
small [] x = true
small (q ∷ rows) x = leb (carried (q.refusal x)) 1 && small rows x

table_small : {X : Type 0} (rows : List (Row X)) (x : X) → small rows x ≡ true → answer_carried (first_given rows x) ≤ 1
unfolding small first_given answer_carried
table_small [] x e = omega arith
table_small (q ∷ rows) x e = go (q.when x) refl (table_small rows x)
  where
    go : (t : Bool) → q.when x ≡ t → (small rows x ≡ true → answer_carried (first_given rows x) ≤ 1) → answer_carried (first_given (q ∷ rows) x) ≤ 1
    go true h ih = subst (λ a. answer_carried a ≤ 1) (sym (given q rows x h)) (leb-true _ _ (both (leb (carried (q.refusal x)) 1) _ e).0)
    go false h ih = subst (λ a. answer_carried a ≤ 1) (sym (not_given q rows x h)) (ih (both (leb (carried (q.refusal x)) 1) _ e).1)

then_small : (a c : Answer) → answer_carried a ≤ 1 → answer_carried c ≤ 1 → answer_carried (and_then a c) ≤ 1
then_small (Ok _) c h k = k
then_small (Err r) c h k = h

answer_small : (b : Bytes) (q : Question) → answer_carried (name_answer b q) ≤ 1
unfolding name_answer card_answer card_table name_table small carried
answer_small b q = then_small (card_answer b) _ (table_small card_table b refl) (table_small (name_table (layout b).actions) q refl)

found_told : (q : Question) → sheet_number (found q).answer (sheet_number_of (found q).sheet) ≤ 1
unfolding found sheet_number
found_told q = elim (ltb 0 (name_span q.shed q.action).length) as (λ t. sheet_number (either q t).answer (sheet_number_of (either q t).sheet) ≤ 1) [ true ↦ omega arith | false ↦ omega arith ]

pub sheet_told : (b : Bytes) (q : Question) (n : Named) → n ≡ names b q → sheet_number n.answer (sheet_number_of n.sheet) ≤ 1
unfolding answer_carried sheet_number
sheet_told b q n told = go (name_answer b q) refl
  where
    go : (a : Answer) → name_answer b q ≡ a → sheet_number n.answer (sheet_number_of n.sheet) ≤ 1
    go (Ok _) e = subst (λ (n : Named). sheet_number n.answer (sheet_number_of n.sheet) ≤ 1) (sym (told ∙ names_found b q e)) (found_told q)
    go (Err r) e = subst (λ (n : Named). sheet_number n.answer (sheet_number_of n.sheet) ≤ 1) (sym (told ∙ on_refusal b q r e)) (subst (λ a. answer_carried a ≤ 1) e (answer_small b q))
