-- 02, Wish 2: "Each atom, `T`, `!` and operator makes one node, numbered as it is completed."
use Rattle.std.specs.Prelude.{◌≡◌, List, [], ◌∷◌, ℕ, suc}
use Rattle.meaning.specs.declared.Node.{Node}
use Rattle.meaning.specs.Kinds.{NodeKind, True, Believes, HasGoal, Not, And, Or, node_kind}
use Rattle.meaning.specs.Trees.{Tree, true, believes, goal, not, and, or}

-- A node of a kind, with its a and b. 01, "The card, edition 1": "Node, 4 bytes: kind, a, b, 0."
abbrev pub IsNode : Node → NodeKind → ℕ → ℕ → Type 0
IsNode x κ a b = (node_kind x.kind ≡ κ) × ((x.a ≡ a) × (x.b ≡ b))

-- 02, Wish 2: "Each atom, `T`, `!` and operator makes one node, numbered as it is completed.": from number k on a tree is completed
-- with number n. docs/TEXT.md: "a condition's parts before it, the left before the right".
pub data Completed (at : ℕ → Node) : ℕ → Tree → ℕ → Type 0 where
  the_true : {k : ℕ} → IsNode (at k) True 0 0 → Completed at k true k
  a_belief : {k p : ℕ} → IsNode (at k) Believes p 0 → Completed at k (believes p) k
  a_goal : {k p : ℕ} → IsNode (at k) HasGoal p 0 → Completed at k (goal p) k
  a_not : {k i : ℕ} {t : Tree} → Completed at k t i → IsNode (at (suc i)) Not i 0 → Completed at k (not t) (suc i)
  an_and : {k i j : ℕ} {l r : Tree} → Completed at k l i → Completed at (suc i) r j → IsNode (at (suc j)) And i j
      → Completed at k (and l r) (suc j)
  an_or : {k i j : ℕ} {l r : Tree} → Completed at k l i → Completed at (suc i) r j → IsNode (at (suc j)) Or i j
      → Completed at k (or l r) (suc j)

-- docs/TEXT.md: "in the order of the text": trees one after the other, from number k on; n is the next number then.
pub data AllCompleted (at : ℕ → Node) : ℕ → List Tree → ℕ → Type 0 where
  no_tree : {k : ℕ} → AllCompleted at k [] k
  next_tree : {k i n : ℕ} {t : Tree} {ts : List Tree} → Completed at k t i → AllCompleted at (suc i) ts n → AllCompleted at k (t ∷ ts) n
