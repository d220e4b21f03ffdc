-- What is answered of what is to be written to a lent buffer, and what the buffer holds then: refused at the door, by row 12, or
-- all of it.
use mathlib.Core.Path.{◌≡◌, refl, sym, ap, ◌∙◌, subst}
use mathlib.Core.Bool.{Bool, true, false}
use mathlib.Core.List.{List}
use Prim.Native.Nat.{ℕ, ◌≤◌}
use borrow.Author.Tests.{leb-true}
use lib.Dec.{leb}
use lib.ListN.{length}
use Rattle.meaning.specs.declared.Refusal.{Refusal}
use Rattle.meaning.specs.Answers.{Answer}
use Rattle.std.specs.Prelude.{Result, Ok, Err}
use Rattle.std.specs.Result.{IsErrAnd}
use Rattle.meaning.specs.declared.Configuration.{Configuration}
use Rattle.meaning.specs.Card.{Bytes}
use Rattle.meaning.specs.Refusals.{configuration_answer}
use Rattle.meaning.specs.Calls.{over, written, write_answer, writes, leaves}
use Rattle.meaning.proofs.Calls.{written_done, written_refused}
use Rattle.card.specs.Rows.{row_answer}
use Rattle.card.proofs.Rows.{row_done, handed_on}
use Rattle.door.specs.declared.in_place.WrittenInPlace.{WrittenInPlace}
use Rattle.door.specs.InPlace.{written_with, written_by}
use Rattle.door.specs.Admitted.{admitted}
use Rattle.door.proofs.Accepting.{admitted_refused}

-- a refusal that a `?` hands on
pub handed_written : (P : WrittenInPlace → Type 0) (v : Result ℕ Refusal) (r : Refusal) → IsErrAnd v (λ y. y ≡ r)
    → P (record { answer = Err r; count = 0 }) → P (written_by v)
handed_written P v r up p = subst (λ v. P (written_by v)) (sym (handed_on v r up)) p

-- a refusal
abbrev pub NotWritten : Bytes → Configuration → List ℕ → List ℕ → Answer → Type 0
NotWritten b c xs out a = (w : WrittenInPlace) → w ≡ record { answer = a; count = 0 } → (written_with w c ≡ writes b c xs out) × (out ≡ leaves b c xs out)

not_written : (b : Bytes) (c : Configuration) (xs out : List ℕ) (a : Answer) (r : Refusal) → a ≡ Err r → write_answer b c xs out ≡ Err r → NotWritten b c xs out a
not_written b c xs out a r s e w f =
    let (x, y) = written_refused b c xs out r e in
    (ap (λ w. written_with w c) f ∙ ap (λ a. written a 0 c) s ∙ sym x, sym y)

-- at the door
pub refused_written : (b : Bytes) (c : Configuration) (r : Refusal) → admitted b c ≡ Err r → (a : Answer) → a ≡ Err r → (xs out : List ℕ) → NotWritten b c xs out a
refused_written b c r e a t xs out w f = let q = admitted_refused b c r e in not_written b c xs out a r t (rw (q, write_answer)) w f

pub is_room : (n room : ℕ) (a : Answer) → a ≡ row_answer (leb n room) Refusal.NoRoom → a ≡ Ok tt → n ≤ room
is_room n room a h d = leb-true n room (row_done (leb n room) Refusal.NoRoom (sym h ∙ d))

-- xs, n long, is to be written to out, or row 12 is the answer
module _ (b : Bytes) (c : Configuration) (good : configuration_answer b c ≡ Ok tt) (xs out : List ℕ) (n : ℕ) (many : n ≡ length xs) (a : Answer) (h : a ≡ row_answer (leb n (length out)) Refusal.NoRoom)
  where
    answered : write_answer b c xs out ≡ a
    answered = rw (good, write_answer) (go (leb (length xs) (length out)) ∙ ap (λ k. row_answer (leb k (length out)) Refusal.NoRoom) (sym many) ∙ sym h)
      where
        go : (t : Bool) → elim t [ true ↦ Ok tt | false ↦ Err Refusal.NoRoom ] ≡ row_answer t Refusal.NoRoom
        go true = refl
        go false = refl

    pub written_none : (r : Refusal) → a ≡ Err r → NotWritten b c xs out a
    written_none r e = not_written b c xs out a r e (answered ∙ e)

    pub written_all : a ≡ Ok tt → (out' : List ℕ) → out' ≡ over xs out → (written (Ok tt) n c ≡ writes b c xs out) × (out' ≡ leaves b c xs out)
    written_all e out' f =
        let (x, y) = written_done b c xs out (answered ∙ e) in
        (ap (λ k. written (Ok tt) k c) many ∙ sym x, f ∙ sym y)
