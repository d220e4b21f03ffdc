-- What the call answers that is asked for an action's name (02, Wish 8), on all bytes and numbers.
use Rattle.std.specs.Prelude.{◌≡◌, not, List, [], ◌∷◌, ℕ, ◌+◌, ltb, Ok, Err}
use Rattle.paper.specs.Next.{if}
use Rattle.meaning.specs.declared.Refusal.{Refusal}
use Rattle.meaning.specs.Answers.{Answer}
use Rattle.meaning.specs.declared.Span.{Span}
use Rattle.meaning.specs.Card.{Bytes, layout}
use Rattle.meaning.specs.Refusals.{Row, ◌given_when◌, first_given, and_then, card_answer}
use Rattle.names.specs.declared.Named.{Named}
use Rattle.names.specs.declared.sheet.Sheet.{Sheet}
use Rattle.names.specs.Sheets.{name_span, bytes_of, shed_good, master_good}

-- 02, Wish 8: "a master sheet of move names and may have one in its own language", "Asked for an action": what is asked beside the
-- card.
pub record Question : Type 0 where
  pub shed : Bytes
  pub master : Bytes
  pub action : ℕ

abbrev pub asked : Bytes → Bytes → ℕ → Question
asked s m a = record { shed = s; master = m; action = a }

-- 02, Wish 8: "Refusals, …: 20 a sheet breaking these rules, the shed's before the master; then 21 unknown action." "Both are
-- checked whole; both counts must equal the card's".
unfoldable pub name_table : ℕ → List (Row Question)
name_table n =
    (Refusal.Sheet 1 given_when (λ q. not (shed_good n q.shed)))
    ∷ ((Refusal.Sheet 0 given_when (λ q. not (master_good n q.master)))
    ∷ ((Refusal.NoAction given_when (λ q. not (ltb q.action n)))
    ∷ []))

-- 01, "Numbers the guide may answer": "the card first with 1 to 9, then" these.
unfoldable pub name_answer : Bytes → Question → Answer
name_answer b q = and_then (card_answer b) (first_given (name_table (layout b).actions) q)

-- The number in which a sheet is told: 0 the master's, 1 the shed's.
abbrev pub sheet_number_of : Sheet → ℕ
sheet_number_of Sheet.Master = 0
sheet_number_of Sheet.Shed = 1

-- An answer with a part of the master's sheet or of the shed's.
abbrev pub named : Answer → Sheet → Span → Named
named a k p = record { answer = a; sheet = k; part = p }

-- 02, Wish 8: "with an empty part of the master"
abbrev pub refused_name : Answer → Named
refused_name a = named a Sheet.Master (record { start = 0; length = 0 })

-- 02, Wish 8: "hands back the part of the shed's sheet that holds its name, or the part of the master sheet where the shed's name
-- is empty".
unfoldable pub found : Question → Named
found q =
    if (ltb 0 (name_span q.shed q.action).length)
    (named (Ok tt) Sheet.Shed (name_span q.shed q.action))
    (named (Ok tt) Sheet.Master (name_span q.master q.action))

-- What the call answers.
abbrev pub answered : Answer → Question → Named
answered (Ok _) q = found q
answered (Err r) q = refused_name (Err r)

unfoldable pub names : Bytes → Question → Named
names b q = answered (name_answer b q) q

-- 02, Wish 8: "Asked for an action, the guide hands back the part of the shed's sheet that holds its name"
abbrev pub Names : Bytes → Question → Named → Type 0
Names b q r = r ≡ names b q

-- The sheet that an answer's part lies in.
abbrev pub either_sheet : {X : Type 0} → Sheet → X → X → X
either_sheet Sheet.Shed shed master = shed
either_sheet Sheet.Master shed master = master

abbrev pub sheet_of : {X : Type 0} → Named → X → X → X
sheet_of n shed master = either_sheet n.sheet shed master

-- 02, Wish 8: "hands back the part": its bytes, and where it lies, its start behind where its sheet does. A place is a piece of
-- memory and an offset in it.
abbrev pub name_of : Named → Bytes → Bytes → Bytes
name_of n shed master = bytes_of (sheet_of n shed master) n.part

abbrev pub place_of : Named → ℕ × ℕ → ℕ × ℕ → ℕ × ℕ
place_of n shed master = ((sheet_of n shed master).0, n.part.start + (sheet_of n shed master).1)
