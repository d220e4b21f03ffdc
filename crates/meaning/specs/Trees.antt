-- A condition as a tree, and as the query of 004 that it is.
use Rattle.std.specs.Prelude.{ℕ}
use Rattle.paper.specs.Language.{Letter, 𝐁, 𝐆, Query, ⊤, atom, ¬', ◌∧'◌, ◌∨'◌}
use Rattle.meaning.specs.Kinds.{NodeKind, True, Believes, HasGoal, Not, And, Or, Unknown}

-- 01, "A configuration and its transitions", Conditions: "true; "believes p" …; "has goal p" …; not; and; or", with an atom of any
-- number.
pub data Tree : Type 0 where
  true : Tree
  believes goal : ℕ → Tree
  not : Tree → Tree
  and or : Tree → Tree → Tree

-- 01, "The card, edition 1": "Kind 0 true …; 1 believes a; 2 has goal a …; 3 not a …; 4 a and b; 5 a or b.", by the trees of the
-- lower nodes. What is no such node is "true" (docs/DECISIONS.md, "An unknown node or kind in the definitions").
abbrev pub tree_of : NodeKind → ℕ → ℕ → (ℕ → Tree) → Tree
tree_of True a b tree = true
tree_of Believes a b tree = believes a
tree_of HasGoal a b tree = goal a
tree_of Not a b tree = not (tree a)
tree_of And a b tree = and (tree a) (tree b)
tree_of Or a b tree = or (tree a) (tree b)
tree_of Unknown a b tree = true

-- 01, "A configuration and its transitions": "Conditions (004, Definitions 3 and 8)": a tree as a belief query or as a goal query.
-- An atom of the other letter, which an accepted card has in no condition, is "true".
abbrev pub query_of : (L : Letter) → Tree → Query L
query_of L true = ⊤
query_of 𝐁 (believes p) = atom p
query_of 𝐆 (believes p) = ⊤
query_of 𝐁 (goal p) = ⊤
query_of 𝐆 (goal p) = atom p
query_of L (not t) = ¬' (query_of L t)
query_of L (and l r) = query_of L l ∧' query_of L r
query_of L (or l r) = query_of L l ∨' query_of L r
