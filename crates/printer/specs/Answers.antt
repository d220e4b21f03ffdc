-- What printing a node of an accepted card answers: rows 18 and 25, then 12.
use Rattle.std.specs.Prelude.{◌≡◌, ℕ}
use Rattle.meaning.specs.Answers.{Answer}
use Rattle.meaning.specs.declared.Layout.{Layout}
use Rattle.meaning.specs.Card.{Bytes, tree_at}
use Rattle.meaning.specs.Refusals.{and_then}
use Rattle.meaning.specs.Calls.{room_for, count_by, leaves_by}
use Rattle.card.specs.Rows.{rows_from}
use Rattle.notation.specs.Printing.{text_of, print_table}

-- the text of a node
abbrev pub node_text : Layout → Bytes → ℕ → Bytes
node_text l b n = text_of (tree_at l b n)

-- the rows behind the first, and the room
unfoldable pub node_answer : Layout → Bytes → ℕ → Bytes → Answer
node_answer l b n out = and_then (rows_from 1 (print_table l b) n) (room_for (node_text l b n) out)

-- An answer, a count and a lent buffer as they are to be.
pub record NodePrinted (l : Layout) (b : Bytes) (n : ℕ) (out : Bytes) (a : Answer) (m : ℕ) (left : Bytes) : Type 0 where
  pub answer : a ≡ node_answer l b n out
  pub count : m ≡ count_by (node_answer l b n out) (node_text l b n)
  pub leaves : left ≡ leaves_by (node_answer l b n out) (node_text l b n) out
