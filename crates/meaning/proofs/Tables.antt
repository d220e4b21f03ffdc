-- A table of refusals answers by its first row that holds.
use mathlib.Core.Path.{◌≡◌, refl, ap, ◌∙◌, sym}
use mathlib.Core.Logic.{⊎_elim}
use mathlib.Core.Bool.{Bool, true, false}
use mathlib.Core.List.Memᴰ
use mathlib.Core.List.{List, [], ◌∷◌, ◌++◌, Memᴰ}
use Prim.Native.Nat.{ℕ, zero, suc}
use native.Mathlib.Omega.{arith}
use lib.ListN.{get_or}
use Rattle.meaning.specs.declared.Refusal.{Refusal}
use Rattle.meaning.specs.Answers.{Answer}
use Rattle.std.specs.Prelude.{Ok, Err}
use Rattle.meaning.specs.Refusals.{number_of, Row, ◌given_when◌, first_given, card_table, place_table, configuration_table, and_then}
use Rattle.meaning.specs.BoundedCalls.{bounded_table}
use Rattle.meaning.specs.Theorems.{FirstRow, TableLaw, TableOrder}

pub done≢refused : {r : Refusal} → ◌≡◌ {A = Answer} (Ok tt) (Err r) → ⊥
done≢refused e = let z : ◌≡◌ {A = ℕ} 0 1 = cc in omega arith

pub refused_inj : {r q : Refusal} → ◌≡◌ {A = Answer} (Err r) (Err q) → r ≡ q
refused_inj e = cc

module _ {X : Type 0} (q : Row X) (rows : List (Row X)) (x : X) where
  pub given : q.when x ≡ true → first_given (q ∷ rows) x ≡ Err (q.refusal x)
  unfolding first_given
  given e = rw (e, first_given)

  pub not_given : q.when x ≡ false → first_given (q ∷ rows) x ≡ first_given rows x
  unfolding first_given
  not_given e = rw (e, first_given)

  -- a row of a card that is answered "done" does not hold, and the rest is answered "done"
  pub passes : first_given (q ∷ rows) x ≡ Ok tt → (q.when x ≡ false) × (first_given rows x ≡ Ok tt)
  passes e = go (q.when x) refl
    where
      go : (b : Bool) → q.when x ≡ b → (q.when x ≡ false) × (first_given rows x ≡ Ok tt)
      go true h = absurd (done≢refused (sym e ∙ given h))
      go false h = (h, sym (not_given h) ∙ e)

module _ {X : Type 0} (x : X) where
  first_row : (rows : List (Row X)) (r : Refusal) → first_given rows x ≡ Err r → FirstRow rows x r
  unfolding first_given
  first_row [] r e = absurd (done≢refused e)
  first_row (q ∷ rows) r e = go (q.when x) refl (first_row rows r)
    where
      go : (b : Bool) → q.when x ≡ b → (first_given rows x ≡ Err r → FirstRow rows x r) → FirstRow (q ∷ rows) x r
      go true h ih =
          record {
            before = [];
            row = q;
            behind = rows;
            stands = refl;
            passed = λ p i. absurd (Memᴰ.not-nil i);
            holds = h;
            answers = refused_inj (sym (given q rows x h) ∙ e);
          }
      go false h ih =
          let f = ih (sym (not_given q rows x h) ∙ e) in
          record {
            before = q ∷ f.before;
            row = f.row;
            behind = f.behind;
            stands = ap (λ rs. q ∷ rs) f.stands;
            passed = λ p i. ⊎_elim (λ s. rw s h) (f.passed p) (Memᴰ.cases_cons i);
            holds = f.holds;
            answers = f.answers;
          }

  skip : (before rows : List (Row X)) → ((q : Row X) → Memᴰ q before → q.when x ≡ false) → first_given (before ++ rows) x ≡ first_given rows x
  skip [] rows h = refl
  skip (q ∷ before) rows h = not_given q (before ++ rows) x (h q (Memᴰ.head refl)) ∙ skip before rows (λ p i. h p (Memᴰ.tail i))

  row_first : (rows : List (Row X)) (r : Refusal) → FirstRow rows x r → first_given rows x ≡ Err r
  row_first rows r f =
      ap (λ rs. first_given rs x) f.stands
      ∙ skip f.before (f.row ∷ f.behind) f.passed
      ∙ given f.row f.behind x f.holds
      ∙ ap {B = Answer} (λ s. Err s) f.answers

  none_holds : (rows : List (Row X)) → first_given rows x ≡ Ok tt → (q : Row X) → Memᴰ q rows → q.when x ≡ false
  none_holds [] e q i = absurd (Memᴰ.not-nil i)
  none_holds (p ∷ rows) e q i =
      let (h, rest) = passes p rows x e in
      ⊎_elim (λ s. rw s h) (none_holds rows rest q) (Memᴰ.cases_cons i)

  -- a row by its place in the table
  pub row_passed : (rows : List (Row X)) → first_given rows x ≡ Ok tt → (k : ℕ) → (get_or rows k (Refusal.Short given_when (λ x. false))).when x ≡ false
  row_passed [] e k = refl
  row_passed (q ∷ rows) e zero = (passes q rows x e).0
  row_passed (q ∷ rows) e (suc k) = row_passed rows (passes q rows x e).1 k

  all_passed : (rows : List (Row X)) → ((q : Row X) → Memᴰ q rows → q.when x ≡ false) → first_given rows x ≡ Ok tt
  unfolding first_given
  all_passed [] h = refl
  all_passed (q ∷ rows) h = not_given q rows x (h q (Memᴰ.head refl)) ∙ all_passed rows (λ p i. h p (Memᴰ.tail i))

pub table_laws : TableLaw
table_laws X rows x =
    record {
      refused_exactly = λ r. (first_row x rows r, row_first x rows r);
      done_exactly = (none_holds x rows, all_passed x rows);
    }

pub table_order : TableOrder
unfolding number_of card_table place_table configuration_table bounded_table
table_order = record { card = λ b. refl; place = λ l p. refl; configuration = λ l c. refl; bounded = λ b c. refl }

-- two answers one after the other
pub and_then_done : (a a' : Answer) → and_then a a' ≡ Ok tt → (a ≡ Ok tt) × (a' ≡ Ok tt)
and_then_done (Ok _) a' e = (refl, e)
and_then_done (Err r) a' e = absurd (done≢refused (sym e))
