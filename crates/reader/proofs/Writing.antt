-- A card that is checked and written to a lent buffer, by cases.
use mathlib.Core.Path.{◌≡◌, refl, sym, ap, ◌∙◌, subst}
use mathlib.Core.Bool.{Bool, true, false}
use lib.Dec.{leb}
use lib.ListN.{length}
use Rattle.meaning.specs.declared.Refusal.{Refusal}
use Rattle.meaning.specs.Answers.{Answer, Checked}
use Rattle.meaning.specs.declared.Layout.{Layout}
use Rattle.std.specs.Prelude.{Ok, Err}
use Rattle.meaning.specs.Card.{Bytes}
use Rattle.meaning.specs.Refusals.{and_then, card_answer}
use Rattle.meaning.specs.Calls.{checks, over, room_for}
use Rattle.meaning.proofs.Calls.{good_judged, refused_judged}
use Rattle.card.specs.Rows.{row_answer}
use Rattle.reader.specs.Written.{Wrote, WroteCard}

-- row 12's answer is the room's
by_test : (t : Bool) → row_answer t Refusal.NoRoom ≡ elim t [ true ↦ Ok tt | false ↦ Err Refusal.NoRoom ]
by_test true = refl
by_test false = refl

room_row : (b out : Bytes) → row_answer (leb (length b) (length out)) Refusal.NoRoom ≡ room_for b out
room_row b out = by_test (leb (length b) (length out))

module _ (b out : Bytes) where
  -- a refusal writes nothing
  refuses : (a : Answer) (q : Refusal) → a ≡ Err q → Wrote a b out (record { answer = Err q; count = 0 }) out
  refuses a q e = subst (λ x. Wrote x b out (record { answer = Err q; count = 0 }) out) (sym e) (refl, refl, refl)

  pub card_refused : (q : Refusal) → ◌≡◌ {A = Checked} (Err q) (checks b) → WroteCard b out (record { answer = Err q; count = 0 }) out
  card_refused q told = refuses (and_then (card_answer b) (room_for b out)) q (ap (λ x. and_then x (room_for b out)) (refused_judged b q (sym told)))

  module _ (l : Layout) (good : ◌≡◌ {A = Checked} (Ok l) (checks b)) where
    by_room : and_then (card_answer b) (room_for b out) ≡ row_answer (leb (length b) (length out)) Refusal.NoRoom
    by_room = ap (λ x. and_then x (room_for b out)) (good_judged b l (sym good)).0 ∙ sym (room_row b out)

    pub room_refused : (q : Refusal) → ◌≡◌ {A = Answer} (Err q) (row_answer (leb (length b) (length out)) Refusal.NoRoom) → WroteCard b out (record { answer = Err q; count = 0 }) out
    room_refused q told = refuses (and_then (card_answer b) (room_for b out)) q (by_room ∙ sym told)

    pub card_written : ◌≡◌ {A = Answer} (Ok tt) (row_answer (leb (length b) (length out)) Refusal.NoRoom)
        → (out' : Bytes) → out' ≡ over b out → WroteCard b out (record { answer = Ok tt; count = length b }) out'
    card_written told out' w = subst (λ x. Wrote x b out (record { answer = Ok tt; count = length b }) out') (sym (by_room ∙ sym told)) (refl, refl, w)
