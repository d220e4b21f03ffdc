-- One row of the table after the other.
use mathlib.Core.Path.{◌≡◌, refl, ap, ◌∙◌, sym, subst}
use mathlib.Core.Bool.{Bool, true, false, not}
use mathlib.Core.List.{List, [], ◌∷◌}
use Rattle.meaning.specs.declared.Refusal.{Refusal}
use Rattle.meaning.specs.Answers.{Answer}
use Rattle.std.specs.Prelude.{Result, Ok, Err}
use Rattle.std.specs.Result.{IsErrAnd}
use Rattle.meaning.specs.Refusals.{Row, first_given}
use Rattle.meaning.proofs.Tables.{given, not_given, done≢refused, refused_inj}
use Rattle.card.specs.Rows.{row_answer}

pub row_done : (good : Bool) (r : Refusal) → row_answer good r ≡ Ok tt → good ≡ true
row_done true r e = refl
row_done false r e = absurd (done≢refused (sym e))

-- what the answer of a row, at a `?`, says of its test
pub row_passed : (good test : Bool) (r : Refusal) → good ≡ test → ◌≡◌ {A = Answer} (Ok tt) (row_answer good r) → test ≡ true
row_passed good test r same e = sym same ∙ row_done good r (sym e)

pub row_failed : (good : Bool) (r e : Refusal) → ◌≡◌ {A = Answer} (Err e) (row_answer good r) → (good ≡ false) × (e ≡ r)
row_failed true r e h = absurd (done≢refused (sym h))
row_failed false r e h = (refl, refused_inj h)

-- what a `?` hands on is the refusal
pub handed_on : {T : Type 0} (v : Result T Refusal) (e : Refusal) → IsErrAnd v (λ y. y ≡ e) → v ≡ Err e
handed_on (Ok x) e up = absurd up
handed_on {T} (Err y) e up = ap {B = Result T Refusal} (λ x. Err x) up

-- what is handed on by it, where the table has the row's refusal
pub row_refused : {T : Type 0} (v w : Result T Refusal) (e : Refusal) → IsErrAnd v (λ y. y ≡ e)
    → (good test : Bool) (r : Refusal) → good ≡ test → ◌≡◌ {A = Answer} (Err e) (row_answer good r) → (test ≡ false → w ≡ Err r) → v ≡ w
row_refused {T} v w e up good test r same h told =
    let (g, s) = row_failed good r e h in
    handed_on v e up ∙ ap {B = Result T Refusal} (λ x. Err x) s ∙ sym (told (sym same ∙ g))

-- what is so of a refusal that it hands on
pub row_kept_out : {T : Type 0} (P : Result T Refusal → Type 0) (v : Result T Refusal) (e : Refusal) → IsErrAnd v (λ y. y ≡ e)
    → (good test : Bool) (r : Refusal) → good ≡ test → ◌≡◌ {A = Answer} (Err e) (row_answer good r) → (test ≡ false → P (Err r)) → P v
row_kept_out P v e up good test r same h told =
    subst P (sym (row_refused v (Err r) e up good test r same h (λ t. refl))) (told (sym same ∙ (row_failed good r e h).0))

module _ {X : Type 0} (q : Row X) (rows : List (Row X)) (x : X) (good : Bool) (same : q.when x ≡ not good) where
  pub last_row : (a : Answer) → a ≡ row_answer good (q.refusal x) → first_given rows x ≡ Ok tt → a ≡ first_given (q ∷ rows) x
  last_row a told end = go good refl
    where
      go : (g : Bool) → good ≡ g → a ≡ first_given (q ∷ rows) x
      go true h = told ∙ ap (λ g. row_answer g (q.refusal x)) h ∙ sym end ∙ sym (not_given q rows x (same ∙ ap not h))
      go false h = told ∙ ap (λ g. row_answer g (q.refusal x)) h ∙ sym (given q rows x (same ∙ ap not h))

pub no_row : {X : Type 0} (x : X) → first_given [] x ≡ Ok tt
unfolding first_given
no_row x = refl
