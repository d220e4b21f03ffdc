-- How many nodes, how deep and how long the text of a node is, by its kind and by its children: numbers that are made node by node.
use Rattle.std.specs.Prelude.{◌≡◌, Bool, true, false, List, ℕ, min, max, ◌+◌, ◌*◌, ◌<◌, ltb, length, get_or}
use Rattle.meaning.specs.declared.Layout.{Layout}
use Rattle.meaning.specs.Kinds.{NodeKind, True, Believes, HasGoal, Not, And, Or, Unknown}
use Rattle.meaning.specs.Trees.{Tree}
use Rattle.meaning.specs.Card.{Bytes, tree_at}
use Rattle.notation.specs.Built.{size}
use Rattle.notation.specs.Printing.{decimal, text_of, depth_of}

-- "with brackets only where it must have them": whether a node of a kind is lower than what is wanted, 0 an or-list, 1 an and-list
-- or 2 a unit.
abbrev pub lower : ℕ → NodeKind → Bool
lower wanted True = false
lower wanted Believes = false
lower wanted HasGoal = false
lower wanted Not = false
lower wanted And = ltb 1 wanted
lower wanted Or = ltb 0 wanted
lower wanted Unknown = false

-- how many pairs of brackets that makes
abbrev pub pairs : Bool → ℕ
pairs true = 1
pairs false = 0

-- The nodes of a node's text, by those of its children.
abbrev pub size_by : NodeKind → ℕ → ℕ → ℕ
size_by True a b = 1
size_by Believes a b = 1
size_by HasGoal a b = 1
size_by Not a b = a + 1
size_by And a b = a + b + 1
size_by Or a b = a + b + 1
size_by Unknown a b = 1

-- Its depth, by the children's and by the brackets around them.
abbrev pub depth_by : NodeKind → (ℕ → ℕ) → (ℕ → ℕ) → ℕ → ℕ → ℕ
depth_by True p q a b = 0
depth_by Believes p q a b = 0
depth_by HasGoal p q a b = 0
depth_by Not p q a b = a + p 2 + 1
depth_by And p q a b = max (a + p 1) (b + q 2)
depth_by Or p q a b = max (a + p 0) (b + q 1)
depth_by Unknown p q a b = 0

-- Its length, the atom's number known.
abbrev pub length_by : NodeKind → ℕ → (ℕ → ℕ) → (ℕ → ℕ) → ℕ → ℕ → ℕ
length_by True n p q a b = 1
length_by Believes n p q a b = 1 + length (decimal n)
length_by HasGoal n p q a b = 1 + length (decimal n)
length_by Not n p q a b = a + 2 * p 2 + 1
length_by And n p q a b = a + 2 * p 1 + (b + 2 * q 2) + 1
length_by Or n p q a b = a + 2 * p 0 + (b + 2 * q 1) + 1
length_by Unknown n p q a b = 1

-- the brackets around a node of a kind, by what is wanted
abbrev pub around : NodeKind → ℕ → ℕ
around κ wanted = pairs (lower wanted κ)

-- The measures of a tree's text, each up to a cap: 257 nodes and 33 deep are too many, and no text of 256 nodes has 1,025 bytes.
pub record Right (most : ℕ) (t : Tree) (s d n : ℕ) : Type 0 where
  pub size : s ≡ min (size t) most
  pub depth : d ≡ min (depth_of t) 33
  pub length : n ≡ min (length (text_of t)) 1025

-- The nodes below i are measured, in three arrays. Of its size each has what is beside its own, at most 255: whatever holds a text
-- of 256 nodes has too many.
pub record MeasuredTo (l : Layout) (b : Bytes) (sizes depths lengths : List ℕ) (i : ℕ) : Type 0 where
  pub sizes_room : length sizes ≡ 256
  pub depths_room : length depths ≡ 256
  pub lengths_room : length lengths ≡ 256
  pub right : (j : ℕ) → j < i → Right 256 (tree_at l b j) (get_or sizes j 0 + 1) (get_or depths j 0) (get_or lengths j 0)
