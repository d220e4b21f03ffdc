-- The answer of one row of a table, and of its rows from one on; and what is checked of a card by it.
use Rattle.std.specs.Prelude.{◌≡◌, Bool, true, false, List, ℕ, drop, Result, Ok, Err}
use Rattle.meaning.specs.declared.Refusal.{Refusal}
use Rattle.meaning.specs.Answers.{Answer, Checked}
use Rattle.meaning.specs.declared.Layout.{Layout}
use Rattle.meaning.specs.Card.{Bytes, layout}
use Rattle.meaning.specs.Refusals.{Row, first_given, card_table, card_answer}
use Rattle.layout.specs.GoodLayout.{TwoByteLayout}

-- the answer of one row, by whether it is passed
abbrev pub row_answer : Bool → Refusal → Answer
row_answer true r = Ok tt
row_answer false r = Err r

-- the answer of a table without its first n rows
unfoldable pub rows_from : {X : Type 0} → ℕ → List (Row X) → X → Answer
rows_from n rows x = first_given (drop n rows) x

-- what is checked of a card with a layout, by the answer of its rows
abbrev pub checked_by : Answer → Layout → Checked
checked_by (Ok _) l = Ok l
checked_by (Err r) l = Err r

-- the answer of a checked card
abbrev pub answer_of : {T : Type 0} → Result T Refusal → Answer
answer_of (Ok l) = Ok tt
answer_of (Err r) = Err r

-- what the rows of a card's header come to: its refusal; or its layout, where the others are left
abbrev pub HeaderRead : Bytes → Checked → Type 0
HeaderRead b (Ok l) = (l ≡ layout b) × TwoByteLayout l × (card_answer b ≡ rows_from 3 card_table b)
HeaderRead b (Err r) = card_answer b ≡ Err r
