-- What reading a text answers, by cases.
use mathlib.Core.Path.{◌≡◌, refl, sym, ap, ◌∙◌, subst}
use mathlib.Core.Bool.{Bool, true, false, not, ◌&&◌}
use mathlib.Core.List.{[], ◌∷◌}
use mathlib.Core.Option.{none, some}
use native.Mathlib.Nat.{le_refl}
use lib.ListN.{length}
use Rattle.paper.specs.Next.{if}
use Rattle.paper.proofs.Relation.{both}
use Rattle.meaning.specs.declared.Refusal.{Refusal}
use Rattle.meaning.specs.Answers.{Answer}
use Rattle.std.specs.Prelude.{Ok, Err}
use Rattle.meaning.specs.Card.{Bytes}
use Rattle.meaning.specs.Refusals.{Row, ◌given_when◌, first_given, and_then, card_answer}
use Rattle.meaning.specs.Calls.{room_for}
use Rattle.meaning.proofs.Tables.{given, not_given}
use Rattle.notation.specs.Lines.{Said, Text}
use Rattle.notation.specs.Built.{built}
use Rattle.notation.specs.Reading.{Derived, shallow, numbers_fit, entries_fit, text_table, said_answer, Reads, refused, done}
use Rattle.notation.specs.Values.{nested, got, items_of}
use Rattle.notation.specs.Making.{nothing_made, items_in, items_said, card_of}
use Rattle.notation.specs.Making as Making
use Rattle.notation.proofs.MadeWhole.{made_said}
use Rattle.notation.proofs.MadeFits.{lines_made}
use Rattle.notation.proofs.MadeBuilt.{card_built}
use Rattle.notation.proofs.ReadingTexts.{text_read}
use Rattle.notation.specs.Scanning.{first, lines, judge}
use Rattle.notation.proofs.Texts.{Scanned, scanned}
use Rattle.scan.specs.declared.scan.Wrong.{Wrong}
use Rattle.std.proofs.Common.{Result}
use Rattle.scan.specs.Scans.{found}
use Rattle.door.specs.declared.in_place.WrittenInPlace.{WrittenInPlace}
use Rattle.reader.specs.Written.{Wrote, WroteCard, WroteMade, WroteLines}

-- the rows of 18 and 25
abbrev deep : Row Said
deep = Refusal.Nested given_when (λ s. not (shallow s))

abbrev large : Row Said
large = Refusal.Large given_when (λ s. not (numbers_fit s && entries_fit s))

-- ---- a text of the grammar, by the answer to what it says
module _ (t out : Bytes) (s : Said) (text : Text t s) (r : WrittenInPlace) (out' : Bytes) where
  by_answer : (a : Answer) → said_answer s out ≡ a → Wrote a (built s) out r out' → Reads t out r.answer r.count out'
  by_answer (Ok _) e (h, k, w) =
      subst (λ a. Reads t out a r.count out') (sym h) (subst (λ n. Reads t out (Ok tt) n out') (sym k) (subst (λ o. Reads t out (Ok tt) (length (built s)) o) (sym w) (done text e)))
  by_answer (Err q) e (h, k, w) =
      subst (λ a. Reads t out a r.count out') (sym h) (subst (λ n. Reads t out (Err q) n out') (sym k) (subst (λ o. Reads t out (Err q) 0 o) (sym w) (refused text e)))

  abbrev cards_answer : Answer
  cards_answer = and_then (card_answer (built s)) (room_for (built s) out)

  -- 18
  too_deep : shallow s ≡ false → said_answer s out ≡ Err Refusal.Nested
  unfolding said_answer text_table
  too_deep e = ap (λ a. and_then a cards_answer) (given deep (large ∷ []) s (ap not e))

  -- 25
  too_large : shallow s ≡ true → numbers_fit s && entries_fit s ≡ false → said_answer s out ≡ Err Refusal.Large
  unfolding said_answer text_table
  too_large e f = ap (λ a. and_then a cards_answer) (not_given deep (large ∷ []) s (ap not e) ∙ given large [] s (ap not f))

  -- then the card's
  card_judged : shallow s ≡ true → numbers_fit s && entries_fit s ≡ true → said_answer s out ≡ cards_answer
  unfolding said_answer text_table first_given
  card_judged e f = ap (λ a. and_then a cards_answer) (not_given deep (large ∷ []) s (ap not e) ∙ not_given large [] s (ap not f))

  -- by what its lines make
  reads_lines : (m : Making.Sections)
      → items_in (items_said s) (some nothing_made) ≡ if (numbers_fit s && entries_fit s) (some m) none
      → (numbers_fit s && entries_fit s ≡ true → card_of m ≡ built s)
      → WroteLines (if (shallow s) (got (items_said s) []) nested) out r out' → Reads t out r.answer r.count out'
  reads_lines m made card w = by_depth (shallow s) refl w
    where
      by_size : shallow s ≡ true → (b : Bool) → numbers_fit s && entries_fit s ≡ b → WroteMade (if b (some m) none) out r out' → Reads t out r.answer r.count out'
      by_size e true f w = by_answer cards_answer (card_judged e f) (subst (λ (b : Bytes). WroteCard b out r out') (card f) w)
      by_size e false f w = by_answer (Err Refusal.Large) (too_large e f) w

      by_depth : (b : Bool) → shallow s ≡ b → WroteLines (if b (got (items_said s) []) nested) out r out' → Reads t out r.answer r.count out'
      by_depth true e w = by_size e (numbers_fit s && entries_fit s) refl (subst (λ o. WroteMade o out r out') made w)
      by_depth false e w = by_answer (Err Refusal.Nested) (too_deep e) w

-- ---- any text

pub reads_text : (t out : Bytes) (r : WrittenInPlace) (out' : Bytes) → Derived t → WroteLines (items_of (length t) t) out r out'
    → Reads t out r.answer r.count out'
reads_text t out r out' (s, x) w =
    reads_lines t out s x r out' (made_said s) (lines_made s)
    (λ f. (let fits = both (numbers_fit s) (entries_fit s) f in card_built s fits.0 fits.1))
    (subst (λ o. WroteLines o out r out') (text_read x (length t) (le_refl (length t))) w)

-- what the scan of it tells
pub scan_tells : {A : Type 0} (t : Bytes) (r : Result A Wrong) → found r ≡ judge t (lines first) → Scanned t (found r)
scan_tells t r e = subst (Scanned t) (sym e) (scanned t)
