-- The reader as a function goes behind the end of a line and behind a note.
use mathlib.Core.Path.{◌≡◌, refl, ap, ◌∙◌}
use mathlib.Core.Bool.{false}
use mathlib.Core.List.{[], ◌∷◌, ◌++◌, append_assoc}
use borrow.Author.Tests.{ne_eqb}
use Rattle.meaning.specs.Card.{Bytes}
use Rattle.notation.specs.Words.{LF}
use Rattle.notation.specs.Lines.{Remark, Note, End}
use Rattle.notation.specs.Lines as Lines
use Rattle.notation.specs.Values.{list_goes_on, behind_line}
use Rattle.notation.proofs.ReadingTests.{if_no}
use Rattle.notation.proofs.ReadingLists.{ListStops}

behind_remark : {u : Bytes} (v : Bytes) → Remark u → behind_line (u ++ (LF ∷ v)) ≡ v
unfolding behind_line
behind_remark v Lines.none = refl
behind_remark v (Lines.more {x = x} n r) = if_no _ _ (ne_eqb x LF n) ∙ behind_remark v r

behind_note_remark : {u : Bytes} (v : Bytes) → Remark u → behind_line ((u ++ (LF ∷ [])) ++ v) ≡ v
behind_note_remark {u} v r = ap behind_line (append_assoc u (LF ∷ []) v) ∙ behind_remark v r

pub behind_end : {e : Bytes} (v : Bytes) → End e → behind_line (e ++ v) ≡ v
unfolding behind_line
behind_end v Lines.plain = refl
behind_end v (Lines.remark r) = behind_note_remark v r

pub behind_note : {u : Bytes} (v : Bytes) → Note u → behind_line (u ++ v) ≡ v
unfolding behind_line
behind_note v Lines.empty = refl
behind_note v (Lines.remark r) = behind_note_remark v r

-- neither a number nor a list goes on with the end of a line
no_number_comes : (v : Bytes) → list_goes_on (LF ∷ v) ≡ false
no_number_comes [] = refl
no_number_comes (y ∷ v) = refl

pub end_stops : {e : Bytes} (v : Bytes) → End e → ListStops (e ++ v)
end_stops v Lines.plain = record { no_number = no_number_comes v; no_digit = refl }
end_stops v (Lines.remark r) = record { no_number = refl; no_digit = refl }
