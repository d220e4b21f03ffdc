-- What the answers of check, of row 13 and of the door tell of a card and a configuration.
use mathlib.Core.Path.{◌≡◌, refl, sym, ap, ap₂, ◌∙◌, subst}
use mathlib.Core.Bool.{Bool, true, false}
use lib.ListN.{length}
use Rattle.meaning.specs.declared.Refusal.{Refusal}
use Rattle.meaning.specs.Answers.{Answer, Checked}
use Rattle.std.specs.Prelude.{Result, Ok, Err}
use Rattle.meaning.specs.declared.Layout.{Layout}
use Rattle.meaning.specs.declared.Configuration.{Configuration}
use Rattle.meaning.specs.Card.{Bytes, layout}
use Rattle.meaning.specs.Refusals.{first_given, and_then, configuration_good, configuration_table, configuration_answer}
use Rattle.meaning.specs.Calls.{checks}
use Rattle.meaning.proofs.Calls.{good_judged, refused_judged, configuration_refused, configuration_good_lem}
use Rattle.meaning.proofs.Configurations.{good, padded_take}
use Rattle.card.specs.GoodCard.{GoodCard}
use Rattle.card.specs.Accepted.{AcceptedCard}
use Rattle.card.specs.Rows.{row_answer, checked_by}
use Rattle.card.proofs.Rows.{row_done}
use Rattle.card.proofs.GoodCard.{good_card}
use Rattle.door.specs.Ready.{Ready}
use Rattle.layout.specs.declared.card.Card.{Card}
use Rattle.door.specs.Admitted.{admitted, AdmittedCard, Admitted}

pub accepted_card : (b : Bytes) (l : Layout) → checks b ≡ Ok l → GoodCard l b
accepted_card b l e = let (d, s) = good_judged b l e in good_card l b d s

module _ (b : Bytes) (c : Configuration) where
  card_refused : (r : Refusal) → checks b ≡ Err r → configuration_answer b c ≡ Err r
  unfolding configuration_answer
  card_refused r e = ap (λ a. and_then a (first_given (configuration_table (layout b)) c)) (refused_judged b r e)

  -- what the door answers, where the card is refused
  pub card_kept_out : (v : Result Card Refusal) (r : Refusal) → v ≡ Err r → checks b ≡ Err r → Admitted b c v
  card_kept_out v r t e = subst (Admitted b c) (sym t) (ap (λ a. checked_by a (layout b)) (card_refused r e))

  module _ (l : Layout) (e : checks b ≡ Ok l) (a : Answer) (h : a ≡ row_answer (configuration_good l c) Refusal.Configuration) where
    -- row 13's answer is the answer
    judged_so : configuration_answer b c ≡ a
    judged_so = go (configuration_good l c) refl
      where
        same : configuration_good l c ≡ configuration_good (layout b) c
        same = ap (λ x. configuration_good x c) (good_judged b l e).1

        go : (t : Bool) → configuration_good l c ≡ t → configuration_answer b c ≡ a
        go true g = configuration_good_lem b c (good_judged b l e).0 (sym same ∙ g) ∙ sym (h ∙ ap (λ t. row_answer t Refusal.Configuration) g)
        go false g = configuration_refused b c (good_judged b l e).0 (sym same ∙ g) ∙ sym (h ∙ ap (λ t. row_answer t Refusal.Configuration) g)

    -- what the door answers
    judged_as : admitted b c ≡ checked_by a l
    judged_as = ap₂ checked_by judged_so (sym (good_judged b l e).1)

    pub is_ready : a ≡ Ok tt → length c.plan ≡ 1024 → Ready l b c
    is_ready d r =
        let g = good l c (row_done (configuration_good l c) Refusal.Configuration (sym h ∙ d)) in
        record {
          card = accepted_card b l e;
          fits = g.fits;
          zeros = sym (padded_take c.plan c.mind.length r g.fits g.zeros);
          room = r;
          phase = g.phase;
        }

-- what it answers of an accepted card, by row 13's answer
module _ (b : Bytes) (c : Configuration) (k : Card) (told : AcceptedCard b k) (a : Answer) (h : a ≡ row_answer (configuration_good k.layout c) Refusal.Configuration) where
  as_judged : admitted k.bytes.now c ≡ checked_by a k.layout
  as_judged = judged_as k.bytes.now c k.layout told.checked a h

  pub configuration_kept_out : (v : Result Card Refusal) (r : Refusal) → v ≡ Err r → a ≡ Err r → Admitted b c v
  configuration_kept_out v r t g =
      subst (Admitted b c) (sym t) (subst (λ x. admitted x c ≡ Err r) told.same (as_judged ∙ ap (λ x. checked_by x k.layout) g))

  pub let_in_with : a ≡ Ok tt → length c.plan ≡ 1024 → AdmittedCard b c k
  let_in_with d r = record {
    same = told.same;
    value = as_judged ∙ ap (λ x. checked_by x k.layout) d;
    ready = is_ready k.bytes.now c k.layout told.checked a h d r;
  }

-- ---- what an answer of the door tells

-- by the answer of its rows
abbrev Answers : Answer → Layout → Checked → Type 0
Answers a k (Ok l) = (a ≡ Ok tt) × (l ≡ k)
Answers a k (Err r) = a ≡ Err r

answers : (a : Answer) (k : Layout) → Answers a k (checked_by a k)
answers (Ok _) k = (refl, refl)
answers (Err r) k = refl

module _ (a : Answer) (k : Layout) where
  pub let_in : (l : Layout) → checked_by a k ≡ Ok l → (a ≡ Ok tt) × (l ≡ k)
  let_in l e = subst (Answers a k) e (answers a k)

  pub kept_out : (r : Refusal) → checked_by a k ≡ Err r → a ≡ Err r
  kept_out r e = subst (Answers a k) e (answers a k)

module _ (b : Bytes) (c : Configuration) where
  pub admitted_good : (l : Layout) → admitted b c ≡ Ok l → (configuration_answer b c ≡ Ok tt) × (l ≡ layout b)
  admitted_good = let_in (configuration_answer b c) (layout b)

  pub admitted_refused : (r : Refusal) → admitted b c ≡ Err r → configuration_answer b c ≡ Err r
  admitted_refused = kept_out (configuration_answer b c) (layout b)
