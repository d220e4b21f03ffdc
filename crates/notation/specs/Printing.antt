-- What printing a condition answers (02, Wish 2; docs/TEXT.md, "The printer"), and what the lent buffer then holds.
use Rattle.std.specs.Prelude.{◌≡◌, Bool, not, List, [], ◌∷◌, ◌++◌, ℕ, zero, suc, max, ◌+◌, ◌/◌, ◌%◌, leb, ltb}
use Prim.Native.Char.{code}
use Rattle.meaning.specs.declared.Refusal.{Refusal}
use Rattle.meaning.specs.Answers.{Answer}
use Rattle.meaning.specs.declared.Layout.{Layout}
use Rattle.meaning.specs.Trees.{Tree, true, believes, goal, and, or}
use Rattle.meaning.specs.Trees as Trees
use Rattle.meaning.specs.Card.{Bytes, layout, tree_at}
use Rattle.meaning.specs.Refusals.{Row, ◌given_when◌, first_given, and_then, card_answer}
use Rattle.meaning.specs.Calls.{room_for, count_by, leaves_by}
use Rattle.notation.specs.Words.{word}
use Rattle.notation.specs.Built.{size}

-- ---- the text of a tree

-- docs/TEXT.md: "Numbers have no zeros in front.": a number of at most so many digits.
unfoldable pub decimal_in : ℕ → ℕ → Bytes
decimal_in zero n = []
decimal_in (suc k) n =
    elim (ltb n 10) [ Bool.true ↦ (code "0" + n) ∷ [] | Bool.false ↦ decimal_in k (n / 10) ++ ((code "0" + n % 10) ∷ []) ]

-- A number: n has at most n + 1 digits.
unfoldable pub decimal : ℕ → Bytes
decimal n = decimal_in (suc n) n

-- 02, Wish 2: "or a bracketed or-list"
abbrev pub brackets_if : Bool → Bytes → Bytes
brackets_if Bool.true u = word "(" ++ (u ++ word ")")
brackets_if Bool.false u = u

-- docs/TEXT.md: "with brackets only where it must have them: a `!` stands before a unit; the left of `&` is an and-list and its
-- right a unit; the left of `|` is an or-list and its right an and-list". What is wanted of a tree is 0 an or-list, 1 an and-list
-- or 2 a unit: an "and" is bracketed where more than an and-list is wanted, an "or" where more than an or-list is.
unfoldable pub text_as : ℕ → Tree → Bytes
text_as wanted true = word "T"
text_as wanted (believes n) = word "B" ++ decimal n
text_as wanted (goal n) = word "G" ++ decimal n
text_as wanted (Trees.not t) = word "!" ++ text_as 2 t
text_as wanted (and l r) = brackets_if (ltb 1 wanted) (text_as 1 l ++ (word "&" ++ text_as 2 r))
text_as wanted (or l r) = brackets_if (ltb 0 wanted) (text_as 0 l ++ (word "|" ++ text_as 1 r))

-- docs/TEXT.md: "condition = or-list": the text of a whole tree.
abbrev pub text_of : Tree → Bytes
text_of t = text_as 0 t

-- ---- its depth

-- One deeper in brackets.
abbrev pub deeper_if : Bool → ℕ → ℕ
deeper_if Bool.true n = suc n
deeper_if Bool.false n = n

-- docs/TEXT.md: "brackets and `!` together nest", in the text of a tree of which so much is wanted.
unfoldable pub depth_as : ℕ → Tree → ℕ
depth_as wanted true = 0
depth_as wanted (believes n) = 0
depth_as wanted (goal n) = 0
depth_as wanted (Trees.not t) = suc (depth_as 2 t)
depth_as wanted (and l r) = deeper_if (ltb 1 wanted) (max (depth_as 1 l) (depth_as 2 r))
depth_as wanted (or l r) = deeper_if (ltb 0 wanted) (max (depth_as 0 l) (depth_as 1 r))

abbrev pub depth_of : Tree → ℕ
depth_of t = depth_as 0 t

-- ---- the answer

-- 02, Wish 2: "refuses: 7 no such node, 18, 25 over 256 nodes". docs/TEXT.md: "18 if the text nests more than 32 deep; 25 if it
-- has more than 256 nodes, a shared one counted each time it is printed".
unfoldable pub print_table : Layout → Bytes → List (Row ℕ)
print_table l b =
    (Refusal.Rule given_when (λ n. not (ltb n l.nodes.count)))
    ∷ (Refusal.Nested given_when (λ n. not (leb (depth_of (tree_at l b n)) 32)))
    ∷ (Refusal.Large given_when (λ n. not (leb (size (tree_at l b n)) 256)))
    ∷ []

-- The text of a node of a card.
unfoldable pub printed : Bytes → ℕ → Bytes
printed b n = text_of (tree_at (layout b) b n)

-- docs/TEXT.md: "It refuses: the card with 1 to 9; 7 …; 18 …; 25 …; 12 if the lent buffer is shorter than the text."
unfoldable pub print_answer : Bytes → ℕ → Bytes → Answer
print_answer b n out = and_then (card_answer b) (and_then (first_given (print_table (layout b) b) n) (room_for (printed b n) out))

-- What printing answers beside the number, and what the lent buffer then holds.
unfoldable pub print_count : Bytes → ℕ → Bytes → ℕ
print_count b n out = count_by (print_answer b n out) (printed b n)

unfoldable pub print_leaves : Bytes → ℕ → Bytes → Bytes
print_leaves b n out = leaves_by (print_answer b n out) (printed b n) out

-- 02, Wish 2: "a printer writes any condition": node n of the card b, into the lent buffer out; the answer, the count, and what
-- the buffer then holds.
pub record Prints (b : Bytes) (n : ℕ) (out : Bytes) (a : Answer) (count : ℕ) (left : Bytes) : Type 0 where
  pub answer : a ≡ print_answer b n out
  pub counted : count ≡ print_count b n out
  pub leaves : left ≡ print_leaves b n out
