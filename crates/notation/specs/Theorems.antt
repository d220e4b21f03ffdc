-- What is proved of the grammar, of the card that a text stands for, of every answer to a text that meets the contract `Reads`,
-- and of printed texts (in proofs/).
use Rattle.std.specs.Prelude.{◌≡◌, ◌↔◌, true, false, ◌&&◌, List, [], ◌∷◌, ◌++◌, ℕ, ◌≤◌, ◌<◌, eqb, length, take, drop, Ok, Err}
use Prim.Native.Char.{code}
use Rattle.meaning.specs.declared.Refusal.{Refusal}
use Rattle.meaning.specs.Answers.{Answer}
use Rattle.meaning.specs.Trees.{Tree}
use Rattle.meaning.specs.Card.{Bytes, layout, node_at, tree_at}
use Rattle.meaning.specs.Refusals.{number_of, Row, first_given, card_table, card_answer}
use Rattle.meaning.specs.Calls.{over}
use Rattle.meaning.specs.Theorems.{row_numbers}
use Rattle.notation.specs.Conditions.{Condition, OrList, trees_of}
use Rattle.notation.specs.Lines.{Said, Text, conditions}
use Rattle.notation.specs.Built.{size, own, sizes, built}
use Rattle.notation.specs.Completed.{AllCompleted}
use Rattle.notation.specs.Reading.{Derived, WrongAt, shallow, numbers_fit, entries_fit, Reads}
use Rattle.notation.specs.Printing.{text_of, depth_of, deeper_if, printed, print_answer, print_leaves}

-- ---- the grammar

-- The grammar is unambiguous: 02, Wish 2: "text that reads as the same tree", "builds an edition 1 card" and "the card it would
-- build" speak of one tree and of one card.
pub record Unambiguous : Type 0 where
  -- a condition as text stands for one tree, and nests as deep as it does
  pub condition : (u : Bytes) (c d : Condition) → OrList u c → OrList u d → c ≡ d
  -- a text stands for one sequence of lines, with their numbers and trees
  pub text : (t : Bytes) (s s' : Said) → Text t s → Text t s' → s ≡ s'

-- ---- the card

-- 02, Wish 2: "then 3 and 5 to 9": these rows of a card's table.
unfoldable pub rows_of_text : List (Row Bytes)
rows_of_text = take 1 (drop 3 card_table) ++ drop 5 card_table

-- 02, Wish 2: "builds an edition 1 card": what holds of the card, if nothing of the text is too large.
pub record BuiltLaws (s : Said) : Type 0 where
  -- 02, Wish 2: "then 3 and 5 to 9 as for the card it would build": the card is judged by these rows alone.
  pub judged : card_answer (built s) ≡ first_given rows_of_text (built s)
  -- 01, "Numbers the guide may answer", row 1: it is long enough.
  pub not_short : card_answer (built s) ≡ Err Refusal.Short → ⊥
  -- 01, "Numbers the guide may answer", row 2: it begins as edition 1 does.
  pub not_unmarked : card_answer (built s) ≡ Err Refusal.Mark → ⊥
  -- 01, "Numbers the guide may answer", row 4: its sections follow one another with no gap, and it ends with the pool.
  pub not_displaced : card_answer (built s) ≡ Err Refusal.Offsets → ⊥
  -- 01, "The card, edition 1": no card of edition 1 is longer.
  pub room : length (built s) ≤ 24128
  -- 02, Wish 9: "Text cards stay edition 1"
  pub edition : (layout (built s)).edition ≡ 1

-- The same of every text whose numbers and entries fit.
abbrev pub BuiltLaw : Type 0
BuiltLaw = (s : Said) → numbers_fit s && entries_fit s ≡ true → BuiltLaws s

-- 02, Wish 2: "3 and 5 to 9": the numbers of these rows.
abbrev pub TextRowsLaw : Type 0
TextRowsLaw = (b : Bytes) → row_numbers rows_of_text b ≡ 3 ∷ 5 ∷ 6 ∷ 7 ∷ 8 ∷ 9 ∷ []

-- 02, Wish 2: "Each atom, `T`, `!` and operator makes one node, numbered as it is completed."
pub record CompletedLaws (s : Said) : Type 0 where
  -- every node of every condition, in the order of the text, from number 0 on, and there is no other
  pub in_order : AllCompleted (node_at (layout (built s)) (built s)) 0 (trees_of (conditions s)) (layout (built s)).nodes.count
  -- 02, Wish 2: "Each … makes one node": there are as many as the trees have, so that none is shared
  pub one_each : (layout (built s)).nodes.count ≡ sizes (trees_of (conditions s))
  -- 02, Wish 2: "numbered as it is completed": a condition's own node, behind the nodes of the conditions before it, stands for the
  -- tree that was written.
  pub same_tree : (before : List Tree) (t : Tree) (behind : List Tree) → trees_of (conditions s) ≡ before ++ (t ∷ behind)
      → tree_at (layout (built s)) (built s) (own (sizes before) t) ≡ t

-- The same of every text whose numbers and entries fit.
abbrev pub CompletedLaw : Type 0
CompletedLaw = (s : Said) → numbers_fit s && entries_fit s ≡ true → CompletedLaws s

-- ---- the answer

-- A text within the limits: not 17, not 18, not 25.
pub record WithinLimits (t : Bytes) (s : Said) : Type 0 where
  pub derived : Text t s
  pub not_nested : shallow s ≡ true
  pub not_large : (numbers_fit s && entries_fit s) ≡ true

-- 02, Wish 2: "Refusals, in this order", each exactly when, of an answer a with n bytes written, which leaves `left` in the lent
-- buffer `out`.
pub record ReadLaws (t out : Bytes) (a : Answer) (n : ℕ) (left : Bytes) : Type 0 where
  -- "The reader accepts exactly this grammar and builds an edition 1 card"
  pub done_exactly : (a ≡ Ok tt)
      ↔ ((s : Said) × (WithinLimits t s × ((card_answer (built s) ≡ Ok tt) × (length (built s) ≤ length out))))
  pub built_then : (s : Said) → Text t s → a ≡ Ok tt → (n ≡ length (built s)) × (left ≡ over (built s) out)
  -- docs/TEXT.md: "A refusal writes nothing"
  pub nothing_written : (q : Refusal) → a ≡ Err q → (n ≡ 0) × (left ≡ out)
  -- "17 text, with the place of the first byte that no continuation could make right (the length, if it just ends)"
  pub text_exactly : ((p : ℕ) × (a ≡ Err (Refusal.Text p))) ↔ (Derived t → ⊥)
  pub place_exactly : (p : ℕ) → (a ≡ Err (Refusal.Text p)) ↔ WrongAt t p
  -- "18 nested too deep"
  pub nested_exactly : (a ≡ Err Refusal.Nested) ↔ ((s : Said) × (Text t s × (shallow s ≡ false)))
  -- "25 a number too large for its field, or more entries or pool bytes than edition 1 allows"
  pub large_exactly : (a ≡ Err Refusal.Large)
      ↔ ((s : Said) × (Text t s × ((shallow s ≡ true) × ((numbers_fit s && entries_fit s) ≡ false))))
  -- "then 3 and 5 to 9 as for the card it would build"
  pub card_exactly : (q : Refusal) → number_of q ≤ 9
      → (a ≡ Err q) ↔ ((s : Said) × (WithinLimits t s × (card_answer (built s) ≡ Err q)))
  -- "12"
  pub room_exactly : (a ≡ Err Refusal.NoRoom)
      ↔ ((s : Said) × (WithinLimits t s × ((card_answer (built s) ≡ Ok tt) × (length out < length (built s)))))

-- 01, "What the contracts settle": "the contract determines the answer and every byte and number in lent buffers afterwards;
-- equality of any two conforming answers is proved"; and there is one for every text and every buffer.
pub record ReadDetermined : Type 0 where
  pub read : (t out : Bytes) (a a' : Answer) (n n' : ℕ) (left left' : Bytes)
      → Reads t out a n left → Reads t out a' n' left' → (a ≡ a') × (n ≡ n') × (left ≡ left')
  pub some_answer : (t out : Bytes) → (a : Answer) × ((n : ℕ) × ((left : Bytes) × Reads t out a n left))

-- The laws hold of every answer that meets the contract.
abbrev pub ReadLaw : Type 0
ReadLaw = (t out : Bytes) (a : Answer) (n : ℕ) (left : Bytes) → Reads t out a n left → ReadLaws t out a n left

-- ---- printed texts

-- How many brackets a text opens.
unfoldable pub brackets : Bytes → ℕ
brackets [] = 0
brackets (x ∷ u) = deeper_if (eqb x (code "(")) (brackets u)

-- A tree as it is printed.
abbrev pub as_printed : Tree → Condition
as_printed t = record { tree = t; depth = depth_of t }

-- The laws of a printed text.
pub record PrintLaws : Type 0 where
  -- 02, Wish 2: "back as text that reads as the same tree", of every tree, and its depth is the one that the printer judges
  pub same_tree : (t : Tree) → OrList (text_of t) (as_printed t)
  -- 02, Wish 2: "The printer brackets only where it must": no text of the same tree opens fewer
  pub fewest_brackets : {u : Bytes} {c : Condition} → OrList u c → brackets (text_of c.tree) ≤ brackets u
  -- nor does one nest less deep, so 18 refuses only what no text of 32 deep says
  pub least_depth : {u : Bytes} {c : Condition} → OrList u c → depth_of c.tree ≤ c.depth

-- 02, Wish 2: "a printer writes any condition of at most 256 printed nodes nested within the limit back as text": of an accepted
-- card, in a buffer that is long enough; 02, Wish 9: "a printed condition of an edition 2 card still reads as the same tree by the
-- grammar of a condition".
abbrev pub PrintsAny : Type 0
PrintsAny =
    (b : Bytes) (n : ℕ) (out : Bytes) → card_answer b ≡ Ok tt → n < (layout b).nodes.count
    → depth_of (tree_at (layout b) b n) ≤ 32 → size (tree_at (layout b) b n) ≤ 256 → length (printed b n) ≤ length out
    → (print_answer b n out ≡ Ok tt) × (print_leaves b n out ≡ over (printed b n) out) × OrList (printed b n) (as_printed (tree_at (layout b) b n))

-- A node of an accepted card.
abbrev pub KnownNode : Bytes → ℕ → Type 0
KnownNode b n = (card_answer b ≡ Ok tt) × (n < (layout b).nodes.count)

-- 02, Wish 2: "and refuses: 7 no such node, 18, 25 over 256 nodes, 12.": each exactly when, in this order, behind the card's.
pub record PrintRefusals (b : Bytes) (n : ℕ) (out : Bytes) : Type 0 where
  -- docs/TEXT.md: "It refuses: the card with 1 to 9"
  pub card_first : (q : Refusal) → card_answer b ≡ Err q → print_answer b n out ≡ Err q
  -- docs/TEXT.md: "7 if there is no such node"
  pub unknown_exactly : card_answer b ≡ Ok tt → (print_answer b n out ≡ Err Refusal.Rule) ↔ ((layout b).nodes.count ≤ n)
  -- docs/TEXT.md: "18 if the text nests more than 32 deep"
  pub nested_exactly : (print_answer b n out ≡ Err Refusal.Nested) ↔ (KnownNode b n × (32 < depth_of (tree_at (layout b) b n)))
  -- docs/TEXT.md: "25 if it has more than 256 nodes, a shared one counted each time it is printed"
  pub large_exactly : (print_answer b n out ≡ Err Refusal.Large)
      ↔ (KnownNode b n × ((depth_of (tree_at (layout b) b n) ≤ 32) × (256 < size (tree_at (layout b) b n))))
  -- docs/TEXT.md: "12 if the lent buffer is shorter than the text"
  pub room_exactly : (print_answer b n out ≡ Err Refusal.NoRoom)
      ↔ (KnownNode b n × ((depth_of (tree_at (layout b) b n) ≤ 32) × ((size (tree_at (layout b) b n) ≤ 256) × (length out < length (printed b n)))))
  -- 02, Wish 2: "a printer writes any condition of at most 256 printed nodes nested within the limit back as text"
  pub done_exactly : (print_answer b n out ≡ Ok tt)
      ↔ (KnownNode b n × ((depth_of (tree_at (layout b) b n) ≤ 32) × ((size (tree_at (layout b) b n) ≤ 256) × (length (printed b n) ≤ length out))))

-- The same of every card, node and buffer.
abbrev pub PrintRefusalsLaw : Type 0
PrintRefusalsLaw = (b : Bytes) (n : ℕ) (out : Bytes) → PrintRefusals b n out

-- docs/DECISIONS.md, "Room for a printed condition": "894 bytes": no text that is printed is longer.
abbrev pub PrintRoom : Type 0
PrintRoom = (b : Bytes) (n : ℕ) → KnownNode b n → size (tree_at (layout b) b n) ≤ 256 → length (printed b n) ≤ 894

-- 02, Wish 2: "a printer writes any condition … back as text that reads as the same tree": every condition, and every part of one,
-- of a card that was made from a text, in 894 bytes.
abbrev pub TextPrints : Type 0
TextPrints =
    (t out : Bytes) (n : ℕ) (left : Bytes) → Reads t out (Ok tt) n left → (k : ℕ) → k < (layout (take n left)).nodes.count
    → (length (printed (take n left) k) ≤ 894)
    × ((room : Bytes) → length (printed (take n left) k) ≤ length room → print_answer (take n left) k room ≡ Ok tt)
