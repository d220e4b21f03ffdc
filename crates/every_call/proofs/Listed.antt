-- Demand 1 of go on, name, text and print: what each may answer, and what a refusal hands back.
use mathlib.Core.Path.{◌≡◌, refl, ap, ◌∙◌, sym}
use mathlib.Core.Bool.{Bool, true, false, not, ◌&&◌}
use mathlib.Core.List.{List, [], ◌∷◌, ◌++◌, Memᴰ}
use Prim.Native.Nat.{ℕ}
use lib.Dec.{leb, ltb}
use lib.ListN.{length}
use Rattle.paper.specs.Next.{if}
use Rattle.meaning.specs.declared.Refusal.{Refusal}
use Rattle.meaning.specs.Answers.{Answer}
use Rattle.std.specs.Prelude.{Ok, Err}
use Rattle.meaning.specs.declared.Configuration.{Configuration}
use Rattle.meaning.specs.declared.Span.{Span}
use Rattle.meaning.specs.Card.{Bytes, layout}
use Rattle.meaning.specs.Refusals.{number_of, answer_number, first_given, card_answer, configuration_table}
use Rattle.meaning.specs.Calls.{room_for, count_by, leaves_by}
use Rattle.meaning.proofs.Tables.{table_laws, table_order}
use Rattle.demands.specs.Demands.{done_or_card}
use Rattle.demands.proofs.Among.{wider, and_then_among, listed, card_among}
use Rattle.notation.specs.Lines.{Said}
use Rattle.notation.specs.Built.{built}
use Rattle.notation.specs.Reading.{numbers_fit, entries_fit, text_table, said_answer, Reads, no_text, refused, done}
use Rattle.notation.specs.Printing.{print_table, printed, print_answer, print_count, print_leaves, Prints}
use Rattle.notation.specs.Theorems.{rows_of_text}
use Rattle.notation.proofs.MadeCards.{built_law, text_rows}
use Rattle.deliberation.specs.declared.Deliberated.{Deliberated}
use Rattle.deliberation.specs.Entries.{program_table, numbers_table, go_on_answer}
use Rattle.deliberation.specs.Theorems.{GoesOn}
use Rattle.deliberation.proofs.Call.{said}
use Rattle.names.specs.declared.Named.{Named}
use Rattle.names.specs.declared.sheet.Sheet.{Sheet}
use Rattle.names.specs.Sheets.{name_span}
use Rattle.names.specs.Naming.{Question, name_table, name_answer, named, refused_name, found, answered, names, Names}
use Rattle.names.proofs.Naming.{on_refusal}

-- ---- the answer is that of the checks

pub go_on_answer_lem : (b p : Bytes) (ns : List ℕ) (c : Configuration) (budget : ℕ) (lent : Bytes) (r : Deliberated) → GoesOn b p ns c budget lent r
    → r.answer ≡ go_on_answer b p ns c
go_on_answer_lem b p ns c budget lent r w = ap (λ (x : Deliberated). x.answer) w ∙ said b p ns c budget lent (go_on_answer b p ns c) refl

found_done : (q : Question) → (found q).answer ≡ Ok tt
unfolding found
found_done q = go (ltb 0 (name_span q.shed q.action).length) (name_span q.shed q.action) (name_span q.master q.action)
  where
    go : (t : Bool) (x y : Span) → (if t (named (Ok tt) Sheet.Shed x) (named (Ok tt) Sheet.Master y)).answer ≡ Ok tt
    go true x y = refl
    go false x y = refl

pub name_answer_lem : (b : Bytes) (q : Question) (r : Named) → Names b q r → r.answer ≡ name_answer b q
unfolding names
name_answer_lem b q r w = ap (λ (x : Named). x.answer) w ∙ go (name_answer b q)
  where
    go : (a : Answer) → (answered a q).answer ≡ a
    go (Ok _) = found_done q
    go (Err x) = refl

-- ---- the number

room_among : (xs out : List ℕ) → Memᴰ (answer_number (room_for xs out)) (0 ∷ 12 ∷ [])
unfolding answer_number number_of
room_among xs out = go (leb (length xs) (length out))
  where
    go : (t : Bool) → Memᴰ (answer_number (elim t as (λ x. Answer) [ true ↦ Ok tt | false ↦ Err Refusal.NoRoom ])) (0 ∷ 12 ∷ [])
    go true = Memᴰ.head refl
    go false = Memᴰ.tail (Memᴰ.head refl)

pub go_on_among : (b p : Bytes) (ns : List ℕ) (c : Configuration) → Memᴰ (answer_number (go_on_answer b p ns c)) (done_or_card ++ (19 ∷ 13 ∷ []))
unfolding go_on_answer program_table numbers_table number_of done_or_card
go_on_among b p ns c =
    let numbers = done_or_card ++ (19 ∷ 13 ∷ []) in
    and_then_among (card_answer b) _ numbers (wider done_or_card numbers refl (card_among b))
    (and_then_among (first_given (program_table b) p) _ numbers
    (wider (0 ∷ 19 ∷ []) numbers refl (listed (program_table b) p (19 ∷ []) refl))
    (and_then_among (first_given (numbers_table p) ns) _ numbers
    (wider (0 ∷ 19 ∷ []) numbers refl (listed (numbers_table p) ns (19 ∷ []) refl))
    (wider (0 ∷ 13 ∷ []) numbers refl (listed (configuration_table (layout b)) c (13 ∷ []) (table_order.configuration (layout b) c)))))

pub name_among : (b : Bytes) (q : Question) → Memᴰ (answer_number (name_answer b q)) (done_or_card ++ (20 ∷ 21 ∷ []))
unfolding name_answer name_table number_of done_or_card
name_among b q =
    let numbers = done_or_card ++ (20 ∷ 21 ∷ []) in
    and_then_among (card_answer b) _ numbers (wider done_or_card numbers refl (card_among b))
    (wider (0 ∷ 20 ∷ 20 ∷ 21 ∷ []) numbers refl (listed (name_table (layout b).actions) q (20 ∷ 20 ∷ 21 ∷ []) refl))

pub print_among : (b : Bytes) (n : ℕ) (out : Bytes) → Memᴰ (answer_number (print_answer b n out)) (done_or_card ++ (18 ∷ 25 ∷ 12 ∷ []))
unfolding print_answer print_table number_of done_or_card
print_among b n out =
    let numbers = done_or_card ++ (18 ∷ 25 ∷ 12 ∷ []) in
    and_then_among (card_answer b) _ numbers (wider done_or_card numbers refl (card_among b))
    (and_then_among (first_given (print_table (layout b) b) n) _ numbers
    (wider (0 ∷ 7 ∷ 18 ∷ 25 ∷ []) numbers refl (listed (print_table (layout b) b) n (7 ∷ 18 ∷ 25 ∷ []) refl))
    (wider (0 ∷ 12 ∷ []) numbers refl (room_among (printed b n) out)))

abbrev text_numbers : List ℕ
text_numbers = 0 ∷ 17 ∷ 18 ∷ 25 ∷ 3 ∷ 5 ∷ 6 ∷ 7 ∷ 8 ∷ 9 ∷ 12 ∷ []

not-not : (t : Bool) → not t ≡ false → t ≡ true
not-not true e = refl
not-not false e = sym e

-- a text that is not 18 or 25 fits
fits : (s : Said) → first_given text_table s ≡ Ok tt → numbers_fit s && entries_fit s ≡ true
unfolding text_table
fits s e = not-not _ ((table_laws Said text_table s).done_exactly.0 e _ (Memᴰ.tail (Memᴰ.head refl)))

said_among : (s : Said) (out : Bytes) → Memᴰ (answer_number (said_answer s out)) text_numbers
unfolding said_answer text_table number_of answer_number
said_among s out = go (first_given text_table s) refl (listed text_table s (18 ∷ 25 ∷ []) refl)
  where
    go : (a : Answer) → first_given text_table s ≡ a → Memᴰ (answer_number (first_given text_table s)) (0 ∷ 18 ∷ 25 ∷ []) → Memᴰ (answer_number (said_answer s out)) text_numbers
    go (Ok _) h m =
        rw h
        (and_then_among (card_answer (built s)) _ text_numbers
        (rw (built_law s (fits s h)).judged (wider (0 ∷ 3 ∷ 5 ∷ 6 ∷ 7 ∷ 8 ∷ 9 ∷ []) text_numbers refl (listed rows_of_text (built s) _ (text_rows (built s)))))
        (wider (0 ∷ 12 ∷ []) text_numbers refl (room_among (built s) out)))
    go (Err q) h m = rw h (wider (0 ∷ 18 ∷ 25 ∷ []) text_numbers refl (rw h at m))

pub text_among : (t out left : Bytes) (a : Answer) (n : ℕ) → Reads t out a n left → Memᴰ (answer_number a) text_numbers
unfolding number_of answer_number
text_among t out left a n (no_text w) = wider (17 ∷ []) text_numbers refl (Memᴰ.head refl)
text_among t out left a n (refused {s} x e) = rw e at (said_among s out)
text_among t out left a n (done {s} x e) = rw e at (said_among s out)

-- ---- a refusal

pub name_refused : (b : Bytes) (q : Question) (r : Named) → Names b q r → (x : Refusal) → r.answer ≡ Err x → r ≡ refused_name (Err x)
name_refused b q r w x e = w ∙ on_refusal b q x (sym (name_answer_lem b q r w) ∙ e)

pub print_refused : (b : Bytes) (n : ℕ) (out left : Bytes) (a : Answer) (count : ℕ) → Prints b n out a count left
    → (q : Refusal) → a ≡ Err q → (count ≡ 0) × (left ≡ out)
unfolding print_count print_leaves
print_refused b n out left a count w q e =
    let h : print_answer b n out ≡ Err q = sym w.answer ∙ e in
    (w.counted ∙ ap (λ x. count_by x (printed b n)) h, w.leaves ∙ ap (λ x. leaves_by x (printed b n) out) h)
